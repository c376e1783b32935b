-- The count and the ciphers so far are written.
use Rattle.std.proofs.Common.{◌≡◌, ◌∷◌, length, take, vec_items}
use Rattle.words.specs.Ciphers.{numbers}
use Rattle.writers.proofs.messages.write_ciphers.Given as goal

abbrev pub invariant-loop-cipher : goal.invariant-loop-cipher
invariant-loop-cipher l = vec_items l.out ≡ length (numbers l.ciphers) ∷ numbers (take l.cipher-index l.ciphers)
