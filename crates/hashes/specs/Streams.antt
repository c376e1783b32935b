-- What a hasher and a keyed state hold of the message and of the key. Assumes nothing.
use Rattle.std.specs.Prelude.{◌≡◌, ℕ, ◌*◌, ◌%◌, ◌^◌, List, ◌++◌, length, take}
use Rattle.hashes.specs.declared.hasher.Hasher.{Hasher}
use Rattle.hashes.specs.declared.hmac.KeyedHasher.{KeyedHasher}
use Rattle.hashes.specs.declared.hmac.HmacKey.{HmacKey}
use Rattle.hashes.specs.Hmac.{inner_pad, outer_pad}
use Rattle.sha256.specs.Sha256.{initial, blocks, compressed}
use Rattle.sha256.specs.declared.state.State.{State}

-- a hasher has taken this message: its whole blocks are compressed, the rest stands in the buffer
pub record Holds (hasher : Hasher) (message : List ℕ) : Type 0 where
  pub count : ℕ
  pub whole : List ℕ
  pub in_blocks : length whole ≡ count * 64
  pub split : message ≡ whole ++ take (hasher.total % 64) hasher.buffer
  pub absorbed : hasher.state ≡ blocks count initial whole
  pub sized : length hasher.buffer ≡ 64
  pub counted : hasher.total ≡ length message % 2 ^ 64

-- a state of zeros: what is left of one that was wiped
abbrev pub wiped_state : State
wiped_state = record { a = 0; b = 0; c = 0; d = 0; e = 0; f = 0; g = 0; h = 0 }

-- a kept key: the states after its two pads
pub record Keyed (kept : HmacKey) (key : List ℕ) : Type 0 where
  pub inner : kept.inner ≡ compressed initial (inner_pad key)
  pub outer : kept.outer ≡ compressed initial (outer_pad key)

-- a keyed hasher has taken this message under this key: its hasher has taken the inner pad and the message, the outer pad is compressed
pub record HoldsUnder (keyed : KeyedHasher) (key message : List ℕ) : Type 0 where
  pub inner : Holds keyed.inner (inner_pad key ++ message)
  pub outer : keyed.outer ≡ compressed initial (outer_pad key)
