-- Nothing is found yet: none of the ciphers before this one is offered, and this one not so far.
use Rattle.std.proofs.Common.{◌≡◌, ℕ, ◌<◌, None}
use Rattle.words.specs.Search.{at, NoneOffered}
use Rattle.words.proofs.choice.first_common.Given as goal

abbrev pub invariant-search : goal.invariant-search
invariant-search l = (l.found ≡ None) × NoneOffered l.ranked l.cipher-index l.offered

abbrev pub invariant-loop-other : goal.invariant-loop-other
invariant-loop-other l = (l.found ≡ None) × ((m : ℕ) → m < l.other-index → l.cipher ≡ at l.offered m → ⊥)
