-- The ciphers so far, and those to come, are all.
use Rattle.std.proofs.Common.{◌≡◌, ◌++◌, drop}
use Rattle.words.specs.Ciphers.{numbers}
use Rattle.words.specs.Listed.{listed}
use Rattle.words.proofs.preferences.Preferences.from_slice.Given as goal

abbrev pub invariant-loop-cipher : goal.invariant-loop-cipher
invariant-loop-cipher l = listed l.preferences ++ numbers (drop l.cipher-index l.rest) ≡ numbers l.ciphers
