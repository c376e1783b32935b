use Rattle.std.proofs.Common.{◌≡◌, length}
use Rattle.fixed_bytes.proofs.Comparing.{difference}
use Rattle.fixed_bytes.proofs.compare.same_all.Given as goal

-- What the rest adds to the difference makes that of the whole strings.
abbrev pub invariant-loop-x : goal.invariant-loop-x
invariant-loop-x l =
    (difference l.difference l.x-iterator.a.rest.now l.x-iterator.b.rest.now ≡ difference 0 l.a l.b)
    × (length l.x-iterator.a.rest.now ≡ length l.x-iterator.b.rest.now)
