use Rattle.std.proofs.Common.{arith}
use Rattle.ciphers.proofs.Lanes.{lane_quarter}
use Rattle.ciphers.proofs.chacha20.quarter_at.Goals as goal

pub returns-clause-each : goal.returns-clause-each
returns-clause-each g c n h = lane_quarter (g.T.Word.lane n) c.args.s.now c.args.i c.args.j c.args.k c.args.l c.index-s-i.result c.index-s-j.result c.index-s-l.result c.index-s-k.result c.index-s-j-2.result c.mix-a.result c.mix-c.result c.mix-a-2.result c.mix-c-2.result (omega arith) (omega arith) (omega arith) (omega arith) (c.mix-a.ensures n h) (c.mix-c.ensures n h) (c.mix-a-2.ensures n h) (c.mix-c-2.ensures n h)
