use Rattle.near_misses.proofs.believing_hellos_breaks.Goals as goal
use Rattle.near_misses.proofs.Broken.{believing_hellos_breaks}

pub returns : goal.returns
returns c = believing_hellos_breaks
