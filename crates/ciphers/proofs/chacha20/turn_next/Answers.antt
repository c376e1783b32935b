use Rattle.std.proofs.Common.{map}
use Rattle.ciphers.proofs.Parts.{blocks_of_stream}
use Rattle.ciphers.proofs.chacha20.turn_next.Goals as goal

pub returns-else-takes_four-clause-turned : goal.returns-else-takes_four-clause-turned
returns-else-takes_four-clause-turned c = blocks_of_stream c.args.key.now c.args.counter c.args.nonce.now (λ n. map (λ w. w) c.initial-else-takes_four.result) c.args.bytes.now c.turn_blocks-else-takes_four.new.bytes c.args.at 1 c.initial-else-takes_four.ensures c.turn_blocks-else-takes_four.ensures
