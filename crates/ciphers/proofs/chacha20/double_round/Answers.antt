use Rattle.std.proofs.Common.{◌≡◌, map, ◌∙◌, arith}
use lib.ListN.{length-map}
use Rattle.ciphers.proofs.Diagonals.{backwards, any_order}
use Rattle.ciphers.proofs.chacha20.double_round.Goals as goal

pub returns : goal.returns
returns g c n h =
    let a = c.quarter_at.ensures.each n h in
    let b = c.quarter_at-2.ensures.each n h in
    let d = c.quarter_at-3.ensures.each n h in
    let e = c.quarter_at-4.ensures.each n h in
    let f = c.quarter_at-5.ensures.each n h in
    let i = c.quarter_at-6.ensures.each n h in
    let j = c.quarter_at-7.ensures.each n h in
    let k = c.quarter_at-8.ensures.each n h in
    let all : map (g.T.Word.lane n) c.quarter_at-8.new.s ≡ backwards (map (g.T.Word.lane n) c.args.s.now) = cc in
    all ∙ any_order (map (g.T.Word.lane n) c.args.s.now) (simp length-map (omega (arith, c.quarter_at.ensures.sized)))
