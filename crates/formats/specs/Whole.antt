-- Whole words: those whose fields have their lengths and ranges, so that they can be written and read back. Assumes nothing.
use Rattle.std.specs.Prelude.{◌≡◌, ℕ, ◌^◌, ◌<◌, true, List, length}
use Rattle.std.specs.List.{AllByRecursion}
use Rattle.words.specs.Choice.{proper}
use Rattle.protocol.specs.Words.{Hello, Body, Reply, Word, a_hello, a_reply, an_end}
use Rattle.formats.specs.Decoding.{lockable}

abbrev pub Bytes : List ℕ → Type 0
Bytes bs = AllByRecursion (λ b. b < 256) bs

-- so many bytes
pub record Sized (n : ℕ) (bs : List ℕ) : Type 0 where
  pub long : length bs ≡ n
  pub bytes : Bytes bs

pub record WholeHello (h : Hello (List ℕ)) : Type 0 where
  pub caller_fits : h.caller < 2 ^ 16
  pub called_fits : h.called < 2 ^ 16
  pub offer_proper : proper h.offer ≡ true
  pub offer_bytes : Bytes h.offer
  pub nonce_sized : Sized 32 h.nonce
  pub half_sized : Sized 32 h.half

pub record WholeBody (b : Body (List ℕ)) : Type 0 where
  pub hello_whole : WholeHello b.hello
  pub choice_byte : b.choice < 256
  pub nonce_sized : Sized 32 b.nonce
  pub seal_sized : Sized 32 b.seal
  pub box_sized : Sized 48 b.box

pub record WholeReply (r : Reply (List ℕ)) : Type 0 where
  pub body_whole : WholeBody r.body
  pub signature_sized : Sized 64 r.signature

pub record WholeEnd (locked : List ℕ) : Type 0 where
  pub lock_fits : lockable (length locked) ≡ true
  pub lock_bytes : Bytes locked

abbrev pub Whole : Word (List ℕ) → Type 0
Whole (a_hello h) = WholeHello h
Whole (a_reply r) = WholeReply r
Whole (an_end x) = WholeEnd x
