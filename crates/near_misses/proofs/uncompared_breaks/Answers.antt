use Rattle.near_misses.proofs.uncompared_breaks.Goals as goal
use Rattle.near_misses.proofs.Broken.{uncompared_breaks}

pub returns : goal.returns
returns c = uncompared_breaks
