-- What a worked session is made of, as bytes. Assumes nothing.
use Rattle.std.specs.Prelude.{ℕ, ◌-◌, List, length, take}

-- a reply before its signature of 64 bytes
abbrev pub signed_part : List ℕ → List ℕ
signed_part reply = take (length reply - 64) reply
