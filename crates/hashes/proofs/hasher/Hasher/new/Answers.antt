use Rattle.std.proofs.Common.{refl}
use Rattle.hashes.proofs.Holding.{holds_none}
use Rattle.hashes.proofs.hasher.Hasher.new.Goals as goal

pub returns : goal.returns
returns c = holds_none _ refl c.initial.result c.initial.ensures
