use Rattle.record_formats.proofs.Keys.{one_way}
use Rattle.record_formats.proofs.laws.settings_are_read_one_way.Goals as goal

pub returns : goal.returns
returns c = one_way
