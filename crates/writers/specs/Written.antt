-- What is written, and when nothing is. Assumes nothing.
use Rattle.std.specs.Prelude.{◌≡◌, ℕ, ◌/◌, ◌%◌, Bool, true, false, ◌&&◌, List, replicate, Ok, Err, vec_items, Result, Vec, ◌==◌, nat_le, nat_lt}
use Rattle.std.specs.declared.alloc.Global.{Global}
use Rattle.formats.specs.Encoding.{tag_length}
use Rattle.record_formats.specs.Settings.{most_sides}
use Rattle.writers.specs.declared.failure.NotWritten.{NotWritten}
use Rattle.writers.specs.declared.failure.NotWritten.TheVariants.{NoMemory, BadLength}

-- a reply can have so many bytes
abbrev pub replyable : ℕ → Bool
replyable n = nat_le 251 n && nat_le n 266

-- bytes are written if their length can be, and else refused; for want of memory nothing is written
abbrev pub Writes : Bool → List ℕ → Result (Vec ℕ Global) NotWritten → Type 0
Writes fits bs (Ok v) = (fits ≡ true) × (vec_items v ≡ bs)
Writes fits bs (Err BadLength) = fits ≡ false
Writes fits bs (Err NoMemory) = fits ≡ true

-- whether halves in so many bytes are of some sides, with the one that has a number among them
abbrev pub settings_fit : ℕ → ℕ → Bool
settings_fit own n = n % 32 == 0 && nat_le (n / 32) most_sides && nat_lt own (n / 32)

-- room for a tag
abbrev pub tag_room : List ℕ
tag_room = replicate tag_length 0
