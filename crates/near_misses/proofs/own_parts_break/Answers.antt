use Rattle.near_misses.proofs.own_parts_break.Goals as goal
use Rattle.near_misses.proofs.Broken.{own_parts_break}

pub returns : goal.returns
returns c = own_parts_break
