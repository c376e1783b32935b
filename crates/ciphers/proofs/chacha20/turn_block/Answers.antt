use Rattle.std.proofs.Common.{get_or, arith}
use Rattle.std.proofs.lemmas.List.{get_or-take}
use Rattle.ciphers.proofs.Parts.{byte_more}
use Rattle.ciphers.proofs.chacha20.turn_block.Goals as goal

pub loop-j-preserved : goal.loop-j-preserved
loop-j-preserved c = byte_more (λ j. get_or c.args.stream.now j 0) c.args.bytes.now c.loop-j.bytes c.args.at c.loop-j.j _ (omega arith) c.loop-j.invariant (grind (arith, get_or-take))
