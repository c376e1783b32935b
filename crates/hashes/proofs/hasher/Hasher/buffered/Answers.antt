use Rattle.std.proofs.Common.{refl}
use Rattle.hashes.proofs.Holding.{holds_buffered}
use Rattle.hashes.proofs.hasher.Hasher.buffered.Goals as goal

pub returns : goal.returns
returns c m held = holds_buffered c.args.self m c.args.bytes.now c.written.result _ c.requires c.written.ensures refl held
