-- A part once more. Assumes nothing.
use Rattle.std.proofs.Common.{ℕ, ◌+◌, List, [], ◌++◌, add-one}
use Rattle.hashes.specs.declared.hasher.Hasher.{Hasher}
use Rattle.hashes.specs.Streams.{Holds}
use Rattle.vectors.specs.Repeated.{repeated}

pub holds_none : (h : Hasher) (part : List ℕ) → Holds h [] → Holds h (repeated 0 part)
unfolding repeated
holds_none h part H = H

pub holds_more : (h : Hasher) (n : ℕ) (part : List ℕ) → Holds h (repeated n part ++ part) → Holds h (repeated (n + 1) part)
unfolding repeated
holds_more h n part H = rw add-one H
