use Rattle.symbolic.proofs.same_says_equal.Goals as goal
use Rattle.symbolic.proofs.Terms.{same_is, is_same}

pub returns : goal.returns
returns c = record { says = same_is; said = is_same }
