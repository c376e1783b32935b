use Rattle.primitives.proofs.Sealings.{sealed_apart}
use Rattle.primitives.proofs.seals.sealed_apart.Goals as goal

pub returns : goal.returns
returns g c = sealed_apart g.G.Group.model g.met.G.Group.size
