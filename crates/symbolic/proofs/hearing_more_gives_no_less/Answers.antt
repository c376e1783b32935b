use Rattle.symbolic.proofs.hearing_more_gives_no_less.Goals as goal
use Rattle.symbolic.proofs.More.{more_gets}

pub returns : goal.returns
returns c = λ few many sub t g. more_gets sub g
