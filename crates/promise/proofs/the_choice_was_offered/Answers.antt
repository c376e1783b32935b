use Rattle.promise.proofs.the_choice_was_offered.Goals as goal
use Rattle.promise.proofs.Promised.{promised}

pub returns : goal.returns
returns c = λ preferences w reached. (promised preferences w reached).choice_offered
