use Rattle.aead.proofs.Closed.{closed_opens}
use Rattle.aead.proofs.closing.closed_opens.Goals as goal

pub returns : goal.returns
returns c = closed_opens
