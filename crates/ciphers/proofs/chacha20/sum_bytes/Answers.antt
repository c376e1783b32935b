use Rattle.std.proofs.Common.{map, ◌*◌, ◌∙◌, arith}
use Rattle.ciphers.specs.ChaCha20.{plus}
use Rattle.ciphers.proofs.Bytes.{part_length, word_written}
use Rattle.ciphers.proofs.Lanes.{lane_sum}
use Rattle.ciphers.proofs.chacha20.sum_bytes.Goals as goal

pub loop-i-preserved : goal.loop-i-preserved
loop-i-preserved g c = (
  part_length c.loop-i.out c.copy_from_slice.new.self (4 * c.loop-i.i) _ (omega arith) (omega (arith, c.copy_from_slice.ensures.len)) ∙ c.loop-i.invariant.0,
  word_written (map (g.T.Word.lane c.args.n) c.args.a.now) (map (g.T.Word.lane c.args.n) c.args.b.now) c.loop-i.out c.copy_from_slice.new.self c.loop-i.i _ (plus c.of_block.result c.of_block-in-loop-i.result) (omega arith) (omega arith)
      (lane_sum (g.T.Word.lane c.args.n) c.args.a.now c.args.b.now c.loop-i.i c.index-a-i.result c.index-b-i.result c.of_block.result c.of_block-in-loop-i.result (omega arith) (omega arith) c.of_block.ensures c.of_block-in-loop-i.ensures)
      c.loop-i.invariant.0 c.loop-i.invariant.1 (c.copy_from_slice.ensures.after ∙ c.to_le_bytes-word.ensures),
)
