use Rattle.sha256.proofs.WrittenOut.{eight_rounds}
use Rattle.sha256.proofs.compress.eight_rounds.Goals as goal

pub returns : goal.returns
returns c =
    eight_rounds c.args.constants.now c.args.w.now c.told-constants c.told-w _ _ _ _ _ _ _ _ _
    c.one_round-s.ensures c.one_round-s-2.ensures c.one_round-s-3.ensures c.one_round-s-4.ensures
    c.one_round-s-5.ensures c.one_round-s-6.ensures c.one_round-s-7.ensures c.one_round-s-8.ensures
