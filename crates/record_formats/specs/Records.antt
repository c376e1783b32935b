-- Records as bytes. Assumes nothing.
use Rattle.std.specs.Prelude.{◌≡◌, ℕ, ◌+◌, ◌-◌, ◌^◌, ◌<◌, Bool, true, ◌&&◌, List, ◌∷◌, ◌++◌, length, Ok, Result, ◌==◌, nat_le}
use Rattle.fixed_bytes.specs.Numbers.{big_endian}
use Rattle.words.specs.declared.fault.Fault.{Fault}
use Rattle.words.specs.declared.fault.Fault.TheVariants.{BadLength}
use Rattle.words.specs.Registry.{kind_record}
use Rattle.formats.specs.Encoding.{tag_length}
use Rattle.formats.specs.Reading.{must, part, number, kind}
use Rattle.formats.specs.Whole.{Bytes, Sized}

-- the first bytes of the digest of the session's reply, the record's number, and its content with the tag behind it
pub record Record (X : Type 0) : Type 0 where
  pub session : X
  pub number : ℕ
  pub closed : X

-- the length that is written is that of the content, without the tag
abbrev pub record_bytes : Record (List ℕ) → List ℕ
record_bytes r = kind_record ∷ (r.session ++ (big_endian 8 r.number ++ (big_endian 2 (length r.closed - tag_length) ++ r.closed)))

-- whether a content can have so many bytes
abbrev pub sendable : ℕ → Bool
sendable n = nat_le 1 n && nat_le n 1024

abbrev pub read_record : List ℕ → Result (Record (List ℕ)) Fault
read_record bs =
    kind kind_record bs (λ bs.
    part 4 bs (λ session bs.
    number 8 bs (λ n bs.
    number 2 bs (λ len bs.
    must (sendable len) BadLength (
    must (len + tag_length == length bs) BadLength (
    Ok (record { session = session; number = n; closed = bs })))))))

-- whether a content with its tag can have so many bytes
abbrev pub closable : ℕ → Bool
closable n = nat_le (1 + tag_length) n && nat_le n (1024 + tag_length)

pub record WholeRecord (r : Record (List ℕ)) : Type 0 where
  pub session_sized : Sized 4 r.session
  pub number_fits : r.number < 2 ^ 64
  pub closed_fits : closable (length r.closed) ≡ true
  pub closed_bytes : Bytes r.closed
