use Rattle.sha256.proofs.BitLaws.{majority_law}
use Rattle.sha256.proofs.word.most.Goals as goal

pub returns : goal.returns
returns c = majority_law c.args.x c.args.y c.args.z
