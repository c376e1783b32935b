use Rattle.sha256.specs.Sha256.{constants}
use Rattle.sha256.proofs.WrittenOut.{later_rounds}
use Rattle.sha256.proofs.compress.more_rounds.Goals as goal

pub returns : goal.returns
unfolding constants
returns g c =
    let both =
    later_rounds g.row.FROM c.requires c.args.w.now c.told-w _ _ _ _ _ _ _ _ _ _ _ _ _ _ _ _ _ _ _ _ _ _ _ _ _ _ _ _ _ _ _ _ _
    c.following-w0.ensures c.following-w1.ensures c.following-w2.ensures c.following-w3.ensures
    c.following-w4.ensures c.following-w5.ensures c.following-w6.ensures c.following-w7.ensures
    c.following-w8.ensures c.following-w9.ensures c.following-w10.ensures c.following-w11.ensures
    c.following-w12.ensures c.following-w13.ensures c.following-w14.ensures c.following-w15.ensures
    c.one_round-s.ensures c.one_round-s-2.ensures c.one_round-s-3.ensures c.one_round-s-4.ensures
    c.one_round-s-5.ensures c.one_round-s-6.ensures c.one_round-s-7.ensures c.one_round-s-8.ensures
    c.one_round-s-9.ensures c.one_round-s-10.ensures c.one_round-s-11.ensures c.one_round-s-12.ensures
    c.one_round-s-13.ensures c.one_round-s-14.ensures c.one_round-s-15.ensures c.one_round-s-16.ensures in
    record { state = both.0; words = both.1 }
