use Rattle.near_misses.proofs.keeping_keys_breaks.Goals as goal
use Rattle.near_misses.proofs.Leaks.{keeping_keys_breaks}

pub returns : goal.returns
returns c = keeping_keys_breaks
