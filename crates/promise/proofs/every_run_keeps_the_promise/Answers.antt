use Rattle.promise.proofs.every_run_keeps_the_promise.Goals as goal
use Rattle.promise.proofs.Promised.{every_run}

pub returns : goal.returns
returns c = every_run
