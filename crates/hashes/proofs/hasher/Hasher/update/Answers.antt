use Rattle.hashes.proofs.Holding.{holds_both}
use Rattle.hashes.proofs.hasher.Hasher.update.Goals as goal

pub returns-else-bytes-room : goal.returns-else-bytes-room
returns-else-bytes-room c m held =
    holds_both c.from_boundary-else-bytes-room.result m _ _ c.args.bytes.now c.split_at.ensures.by_index.0
    (c.from_boundary-else-bytes-room.ensures _ (c.completed.ensures.holds m held))
