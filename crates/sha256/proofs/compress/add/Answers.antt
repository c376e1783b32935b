use Rattle.std.proofs.Common.{refl}
use Rattle.sha256.specs.Sha256.{added}
use Rattle.sha256.proofs.compress.add.Goals as goal

pub returns : goal.returns
unfolding added
returns c = refl
