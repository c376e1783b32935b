use Rattle.std.proofs.Common.{arith}
use Rattle.sha256.proofs.BitLaws.{choice_law}
use Rattle.sha256.proofs.word.choose.Goals as goal

pub returns : goal.returns
returns c = choice_law c.args.x c.args.y c.args.z (omega arith) (omega arith)
