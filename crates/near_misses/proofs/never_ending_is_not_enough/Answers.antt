use Rattle.near_misses.proofs.never_ending_is_not_enough.Goals as goal
use Rattle.near_misses.proofs.Quiet.{never_ending_is_not_enough}

pub returns : goal.returns
returns c = never_ending_is_not_enough
