-- What holds of words, records and settings together, and of ends with what is locked in them. Assumes nothing.
use Rattle.std.specs.Prelude.{◌≡◌, ℕ, List, [], Ok, ◌≢◌}
use Rattle.aead.specs.Closing.{closed}
use Rattle.primitives.specs.Derived.{lock_key}
use Rattle.protocol.specs.Words.{Word}
use Rattle.formats.specs.Decoding.{read_word}
use Rattle.formats.specs.Encoding.{end_bytes}
use Rattle.record_formats.specs.Records.{Record, read_record}
use Rattle.record_formats.specs.Settings.{Settings, read_settings}

-- Bytes that are read as one of the three words, as a record or as settings are read as nothing else.
pub record KindsAreApart : Type 0 where
  pub word_or_record : (bs : List ℕ) (w : Word (List ℕ)) (r : Record (List ℕ)) → read_word bs ≡ Ok w → read_record bs ≢ Ok r
  pub word_or_settings : (bs : List ℕ) (w : Word (List ℕ)) (s : Settings) → read_word bs ≡ Ok w → read_settings bs ≢ Ok s
  pub record_or_settings : (bs : List ℕ) (r : Record (List ℕ)) (s : Settings) → read_record bs ≡ Ok r → read_settings bs ≢ Ok s

-- the bytes of an end with this content, locked with a session secret
abbrev pub locked_end : List ℕ → List ℕ → List ℕ
locked_end secret content = end_bytes (closed (lock_key secret) 0 [] content)

-- Under one session secret, ends with different contents have different bytes.
abbrev pub LockedEndsAreApart : Type 0
LockedEndsAreApart = (secret a b : List ℕ) → locked_end secret a ≡ locked_end secret b → a ≡ b
