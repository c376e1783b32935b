use Rattle.near_misses.proofs.unsigned_seal_breaks.Goals as goal
use Rattle.near_misses.proofs.Leaks.{unsigned_seal_breaks}

pub returns : goal.returns
returns c = unsigned_seal_breaks
