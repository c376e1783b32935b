use Rattle.std.proofs.Common.{◌*◌, arith, rules}
use Rattle.ciphers.proofs.Parts.{stream_more, stream_whole}
use Rattle.ciphers.proofs.chacha20.turn.Goals as goal

pub loop-done-preserved : goal.loop-done-preserved
loop-done-preserved c = stream_more c.args.key.now c.args.counter c.args.nonce.now c.args.bytes.now c.loop-done.bytes c.turn_next-done.new.bytes c.loop-done.done c.turn_next-done.result c.loop-done.invariant c.turn_next-done.ensures.turned

pub returns : goal.returns
returns c = (search rules, stream_whole c.args.key.now c.args.counter c.args.nonce.now c.args.bytes.now c.loop-done.bytes (64 * c.loop-done.done) (omega arith) c.loop-done.invariant)
