use Rattle.promise.proofs.a_caller_ends_by_its_words.Goals as goal
use Rattle.promise.proofs.Promised.{promised}

pub returns : goal.returns
returns c = λ preferences w reached. (promised preferences w reached).by_its_words
