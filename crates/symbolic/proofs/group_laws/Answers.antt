use Rattle.symbolic.proofs.group_laws.Goals as goal
use Rattle.symbolic.proofs.Terms.{rise_swap, one_stays}

pub returns : goal.returns
returns c = record { commutes = rise_swap; one_stays = one_stays }
