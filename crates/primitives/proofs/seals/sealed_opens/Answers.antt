use Rattle.primitives.proofs.Sealings.{sealed_opens}
use Rattle.primitives.proofs.seals.sealed_opens.Goals as goal

pub returns : goal.returns
returns g c = λ x key before between after answer made. sealed_opens g.G.Group.model g.met.G.Group.size g.met.G.Group.commutes x key before between made after answer
