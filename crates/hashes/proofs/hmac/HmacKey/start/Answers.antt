use Rattle.hashes.specs.Hmac.{inner_pad}
use Rattle.hashes.proofs.Keys.{holds_pad_alone, length_pad}
use Rattle.hashes.proofs.hmac.HmacKey.start.Goals as goal

pub returns : goal.returns
returns c key keyed =
    record {
      inner = holds_pad_alone c.after_block.result (inner_pad key) (c.after_block.ensures (inner_pad key) (length_pad 0x36 key) keyed.inner);
      outer = keyed.outer;
    }
