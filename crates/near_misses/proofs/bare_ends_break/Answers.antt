use Rattle.near_misses.proofs.bare_ends_break.Goals as goal
use Rattle.near_misses.proofs.Broken.{bare_ends_break}

pub returns : goal.returns
returns c = bare_ends_break
