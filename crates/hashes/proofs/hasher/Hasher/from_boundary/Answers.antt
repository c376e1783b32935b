use Rattle.hashes.proofs.Holding.{holds_both}
use Rattle.hashes.proofs.hasher.Hasher.from_boundary.Goals as goal

pub returns : goal.returns
returns c m held =
    holds_both c.buffered.result m _ _ c.args.bytes.now c.split_at.ensures.by_index.0
    (c.buffered.ensures _ (c.advanced.ensures.holds m held))
