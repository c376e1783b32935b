use Rattle.near_misses.proofs.offer_first_breaks.Goals as goal
use Rattle.near_misses.proofs.Broken.{offer_first_breaks}

pub returns : goal.returns
returns c = offer_first_breaks
