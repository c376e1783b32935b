use Rattle.promise.proofs.a_sure_called_secret_is_kept.Goals as goal
use Rattle.promise.proofs.Promised.{promised}

pub returns : goal.returns
returns c = λ preferences w reached. (promised preferences w reached).called_secret_kept
