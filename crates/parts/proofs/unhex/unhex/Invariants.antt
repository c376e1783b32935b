-- The pairs that are left, behind the bytes so far, give what all digits give.
use Rattle.std.proofs.Common.{◌≡◌, [], drop, vec_items}
use Rattle.parts.specs.Hex.{unhexed}
use Rattle.parts.proofs.Hexes.{each_pair}
use Rattle.parts.proofs.unhex.unhex.Given as goal

abbrev pub invariant-loop-pair : goal.invariant-loop-pair
invariant-loop-pair l = each_pair (vec_items l.bytes) (drop l.pair-index l.pairs) ≡ unhexed [] l.digits
