use Rattle.record_formats.proofs.Packets.{one_way}
use Rattle.record_formats.proofs.laws.records_are_read_one_way.Goals as goal

pub returns : goal.returns
returns c = one_way
