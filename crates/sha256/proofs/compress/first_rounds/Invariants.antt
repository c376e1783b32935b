use Rattle.std.proofs.Common.{◌≡◌, take}
use Rattle.sha256.specs.Sha256.{constants, rounds, sums}
use Rattle.sha256.proofs.Rounds.{rounds_by}
use Rattle.sha256.proofs.compress.first_rounds.Given as goal

-- The rounds that are left make of this state what all of them make of the first.
abbrev pub invariant-loop-constants : goal.invariant-loop-constants
invariant-loop-constants l = rounds_by l.s l.constants-iterator.a.rest.now l.constants-iterator.b.rest.now ≡ rounds l.initial.s (sums (take 16 constants) l.w)
