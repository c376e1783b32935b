use Rattle.std.proofs.Common.{map, sym}
use Rattle.ciphers.proofs.Rounds.{rounds_none, rounds_more}
use Rattle.ciphers.proofs.chacha20.rounds.Goals as goal

pub loop-i-init : goal.loop-i-init
loop-i-init g c n h = sym (rounds_none (map (g.T.Word.lane n) c.args.start.now))

pub loop-i-preserved : goal.loop-i-preserved
loop-i-preserved g c n h = rounds_more c.loop-i.i (map (g.T.Word.lane n) c.args.start.now) (map (g.T.Word.lane n) c.loop-i.s) (map (g.T.Word.lane n) c.double_round.new.s) (c.double_round.ensures n h) (c.loop-i.invariant n h)
