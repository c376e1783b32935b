use Rattle.promise.proofs.only_the_two_give_it_away.Goals as goal
use Rattle.promise.proofs.Promised.{promised}

pub returns : goal.returns
returns c = λ preferences w reached. (promised preferences w reached).only_given_away
