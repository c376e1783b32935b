use Rattle.near_misses.proofs.marks_are_a_safeguard.Goals as goal
use Rattle.near_misses.proofs.Safeguards.{marks_are_a_safeguard}

pub returns : goal.returns
returns c = marks_are_a_safeguard
