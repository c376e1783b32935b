use Rattle.aead.proofs.Closed.{closed_apart}
use Rattle.aead.proofs.closing.closed_apart.Goals as goal

pub returns : goal.returns
returns c = closed_apart
