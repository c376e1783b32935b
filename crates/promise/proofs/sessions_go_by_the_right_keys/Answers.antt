use Rattle.promise.proofs.sessions_go_by_the_right_keys.Goals as goal
use Rattle.promise.proofs.Promised.{promised}

pub returns : goal.returns
returns c = λ preferences w reached. (promised preferences w reached).right_keys
