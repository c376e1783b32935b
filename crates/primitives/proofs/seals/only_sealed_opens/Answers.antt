use Rattle.primitives.proofs.Sealings.{only_sealed_opens}
use Rattle.primitives.proofs.seals.only_sealed_opens.Goals as goal

pub returns : goal.returns
returns g c = only_sealed_opens g.G.Group.model
