-- What holds of words as bytes. Assumes nothing.
use Rattle.std.specs.Prelude.{◌≡◌, ℕ, ◌+◌, ◌<◌, List, ◌++◌, length, take, Ok, Err, Result, ◌≢◌}
use Rattle.words.specs.declared.fault.Fault.{Fault}
use Rattle.words.specs.Faults.{fault_number}
use Rattle.words.specs.Numbers.{malformed}
use Rattle.protocol.specs.Got.{No}
use Rattle.protocol.specs.Words.{Body, Reply, Word}
use Rattle.formats.specs.Encoding.{hello_bytes, body_bytes, claim_bytes, end_bytes, word_bytes, signature_length, tag_length}
use Rattle.formats.specs.Decoding.{read_reply, hello_part, before_signature, last_signature, read_word, got}
use Rattle.formats.specs.Whole.{Bytes, WholeBody, Whole}

-- every refusal of an answer is counted as malformed
abbrev pub OnlyMalformed : {X : Type 0} → Result X Fault → Type 0
OnlyMalformed r = (f : Fault) → r ≡ Err f → fault_number f ≡ malformed

-- A whole word that is written is read back. What is read was written so, and is whole. So different words have different bytes, also across kinds.
-- Whatever is refused is malformed, and so is every cut and every longer form of a word.
pub record BytesAreReadOneWay : Type 0 where
  pub written_is_read : (w : Word (List ℕ)) → Whole w → read_word (word_bytes w) ≡ Ok w
  pub read_was_written : (bs : List ℕ) (w : Word (List ℕ)) → Bytes bs → read_word bs ≡ Ok w → bs ≡ word_bytes w
  pub read_is_whole : (bs : List ℕ) (w : Word (List ℕ)) → Bytes bs → read_word bs ≡ Ok w → Whole w
  pub apart : (v w : Word (List ℕ)) → Whole v → Whole w → word_bytes v ≡ word_bytes w → v ≡ w
  pub refused_as_malformed : (bs : List ℕ) → OnlyMalformed (read_word bs)
  pub cut : (w : Word (List ℕ)) (n : ℕ) → Whole w → n < length (word_bytes w) → got (read_word (take n (word_bytes w))) ≡ No malformed
  pub longer : (w : Word (List ℕ)) (more : List ℕ) → Whole w → Bytes more → 0 < length more → got (read_word (word_bytes w ++ more)) ≡ No malformed

-- What is signed of a reply determines it, what is signed of an end determines the reply in it, and none is the other.
pub record SignedBytesAreApart : Type 0 where
  pub replies : (x y : Body (List ℕ)) → WholeBody x → WholeBody y → body_bytes x ≡ body_bytes y → x ≡ y
  pub ends : (v w : List ℕ) → claim_bytes v ≡ claim_bytes w → v ≡ w
  pub marks : (x : Body (List ℕ)) (w : List ℕ) → body_bytes x ≢ claim_bytes w

-- The parts of a reply that was read are those that were written: the hello as it stands in it, what is signed, and the signature.
-- What is signed of an end begins with the three bytes that the end is sent with.
pub record PartsAreAsWritten : Type 0 where
  pub hello : (bs : List ℕ) (r : Reply (List ℕ)) → Bytes bs → read_reply bs ≡ Ok r → hello_part bs ≡ Ok (hello_bytes r.body.hello)
  pub signed : (bs : List ℕ) (r : Reply (List ℕ)) → Bytes bs → read_reply bs ≡ Ok r → before_signature bs ≡ body_bytes r.body
  pub signature : (bs : List ℕ) (r : Reply (List ℕ)) → Bytes bs → read_reply bs ≡ Ok r → last_signature bs ≡ r.signature
  pub front : (reply locked : List ℕ) → length locked ≡ length reply + (signature_length + tag_length) → take 3 (claim_bytes reply) ≡ take 3 (end_bytes locked)
