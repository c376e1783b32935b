use Rattle.promise.proofs.a_refusal_is_silent.Goals as goal
use Rattle.promise.proofs.Promised.{promised}

pub returns : goal.returns
returns c = λ preferences w reached. (promised preferences w reached).refusal_silent
