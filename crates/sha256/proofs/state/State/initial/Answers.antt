use Rattle.std.proofs.Common.{refl}
use Rattle.sha256.specs.Sha256.{initial}
use Rattle.sha256.proofs.state.State.initial.Goals as goal

pub returns : goal.returns
unfolding initial
returns c = refl
