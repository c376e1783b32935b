use Rattle.near_misses.proofs.unsigned_hello_breaks.Goals as goal
use Rattle.near_misses.proofs.Broken.{unsigned_hello_breaks}

pub returns : goal.returns
returns c = unsigned_hello_breaks
