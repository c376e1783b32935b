use Rattle.formats.proofs.Words.{one_way}
use Rattle.formats.proofs.laws.bytes_are_read_one_way.Goals as goal

pub returns : goal.returns
returns c = one_way
