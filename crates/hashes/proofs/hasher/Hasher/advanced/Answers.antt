use Rattle.std.proofs.Common.{refl}
use Rattle.hashes.proofs.Holding.{holds_advanced}
use Rattle.hashes.proofs.hasher.Hasher.advanced.Goals as goal

pub returns-clause-holds : goal.returns-clause-holds
returns-clause-holds c m held = holds_advanced c.args.self m c.args.bytes.now c.compress_blocks.result _ c.requires.0 c.requires.1 c.compress_blocks.ensures refl held
