use Rattle.formats.proofs.Words.{as_written}
use Rattle.formats.proofs.laws.parts_are_as_written.Goals as goal

pub returns : goal.returns
returns c = as_written
