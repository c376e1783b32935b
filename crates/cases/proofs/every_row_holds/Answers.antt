use Rattle.cases.proofs.every_row_holds.Goals as goal
use Rattle.cases.proofs.Rows.{every_row_holds}

pub returns : goal.returns
returns c = every_row_holds
