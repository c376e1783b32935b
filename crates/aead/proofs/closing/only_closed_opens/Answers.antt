use Rattle.aead.proofs.Closed.{only_closed_opens}
use Rattle.aead.proofs.closing.only_closed_opens.Goals as goal

pub returns : goal.returns
returns c = only_closed_opens
