use Rattle.std.proofs.Common.{refl}
use Rattle.hashes.proofs.Holding.{holds_completed}
use Rattle.hashes.proofs.hasher.Hasher.completed.Goals as goal

pub returns-clause-holds : goal.returns-clause-holds
returns-clause-holds c m held = holds_completed c.args.self m c.args.bytes.now c.written-block.result c.compress.result _ c.requires c.written-block.ensures c.compress.ensures refl held
