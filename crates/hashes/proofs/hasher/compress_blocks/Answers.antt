use Rattle.std.proofs.Common.{◌/◌, [], length, get_or, ap, ◌∙◌, arith}
use Rattle.sha256.proofs.Rounds.{chunk_at}
use Rattle.hashes.proofs.Blocks.{blocks_more, blocks_none}
use Rattle.hashes.proofs.hasher.compress_blocks.Goals as goal

pub loop-block-init : goal.loop-block-init
loop-block-init c = blocks_none c.args.state c.args.bytes.now

pub loop-block-preserved : goal.loop-block-preserved
loop-block-preserved c =
    let block = ap (λ cs. get_or cs c.loop-block.block-index []) c.as_chunks.ensures.front ∙ chunk_at 64 (length c.args.bytes.now / 64) c.loop-block.block-index c.args.bytes.now (omega (arith, c.as_chunks.ensures.front_len, c.loop-block-test.true)) in
    c.compress-s.ensures ∙ blocks_more c.loop-block.block-index c.args.state c.loop-block.s c.args.bytes.now _ c.loop-block.invariant block
