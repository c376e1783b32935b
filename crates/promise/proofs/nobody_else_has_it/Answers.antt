use Rattle.promise.proofs.nobody_else_has_it.Goals as goal
use Rattle.promise.proofs.Promised.{promised}

pub returns : goal.returns
returns c = λ preferences w reached. (promised preferences w reached).nobody_else
