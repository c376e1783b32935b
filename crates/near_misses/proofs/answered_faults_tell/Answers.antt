use Rattle.near_misses.proofs.answered_faults_tell.Goals as goal
use Rattle.near_misses.proofs.Quiet.{answered_faults_tell}

pub returns : goal.returns
returns c = answered_faults_tell
