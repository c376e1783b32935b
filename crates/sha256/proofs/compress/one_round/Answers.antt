use Rattle.sha256.proofs.Rounds.{one_round}
use Rattle.sha256.proofs.compress.one_round.Goals as goal

pub returns : goal.returns
returns c = one_round c.args.s c.args.sum _ _ _ _ c.choose.ensures c.big_sigma1.ensures c.big_sigma0.ensures c.most.ensures
