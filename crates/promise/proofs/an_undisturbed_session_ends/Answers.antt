use Rattle.promise.proofs.an_undisturbed_session_ends.Goals as goal
use Rattle.promise.proofs.Promised.{promised}

pub returns : goal.returns
returns c = λ preferences w reached. (promised preferences w reached).undisturbed_ends
