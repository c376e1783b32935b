use Rattle.near_misses.proofs.one_key_breaks.Goals as goal
use Rattle.near_misses.proofs.Leaks.{one_key_breaks}

pub returns : goal.returns
returns c = one_key_breaks
