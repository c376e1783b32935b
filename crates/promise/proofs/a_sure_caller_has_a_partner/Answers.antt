use Rattle.promise.proofs.a_sure_caller_has_a_partner.Goals as goal
use Rattle.promise.proofs.Promised.{promised}

pub returns : goal.returns
returns c = λ preferences w reached. (promised preferences w reached).caller_partner
