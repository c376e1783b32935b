use Rattle.hashes.specs.Hmac.{outer_pad}
use Rattle.hashes.proofs.Keys.{summed, length_pad}
use Rattle.hashes.proofs.hmac.KeyedHasher.finish.Goals as goal

pub returns : goal.returns
returns c key m held =
    summed key m c.finish-inner.result c.finish.result
    (c.finish-inner.ensures _ held.inner)
    (c.finish.ensures _ (c.update.ensures _ (c.after_block.ensures (outer_pad key) (length_pad 0x5c key) held.outer)))
