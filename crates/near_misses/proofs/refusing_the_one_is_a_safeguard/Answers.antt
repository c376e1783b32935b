use Rattle.near_misses.proofs.refusing_the_one_is_a_safeguard.Goals as goal
use Rattle.near_misses.proofs.Safeguards.{refusing_the_one_is_a_safeguard}

pub returns : goal.returns
returns c = refusing_the_one_is_a_safeguard
