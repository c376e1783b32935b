use Rattle.std.proofs.Common.{refl}
use Rattle.hashes.proofs.Holding.{holds_block}
use Rattle.hashes.proofs.hasher.Hasher.after_block.Goals as goal

pub returns : goal.returns
returns c block size is = holds_block c.args.state _ block refl size is
