use Rattle.ciphers.proofs.Lanes.{lane_mixed}
use Rattle.ciphers.proofs.word.U32x4Word.mix.Goals as goal

pub returns : goal.returns
returns c n h = lane_mixed c.args.k c.args.a c.args.b c.args.d n c.requires.0 c.requires.1 c.fits-a.0 c.fits-b.0 c.fits-d.0 h
