use Rattle.formats.proofs.Words.{signed_apart}
use Rattle.formats.proofs.laws.signed_bytes_are_apart.Goals as goal

pub returns : goal.returns
returns c = signed_apart
