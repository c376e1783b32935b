use Rattle.promise.proofs.one_each.Goals as goal
use Rattle.promise.proofs.Promised.{promised}

pub returns : goal.returns
returns c = λ preferences w reached. (promised preferences w reached).one_each
