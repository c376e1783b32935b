use Rattle.std.proofs.Common.{◌≡◌, subst, arith}
use Rattle.hashes.specs.Streams.{Holds}
use Rattle.vectors.specs.Repeated.{repeated}
use Rattle.vectors.proofs.Repeating.{holds_none, holds_more}
use Rattle.vectors.proofs.digests.DigestVector.digest.Goals as goal

pub loop-i-init : goal.loop-i-init
loop-i-init c = holds_none c.new-hasher.result c.args.self.now.part.now c.new-hasher.ensures

pub loop-i-preserved : goal.loop-i-preserved
loop-i-preserved c = holds_more c.update-hasher.result c.loop-i.i c.args.self.now.part.now (c.update-hasher.ensures (repeated c.loop-i.i c.args.self.now.part.now) c.loop-i.invariant)

pub returns : goal.returns
returns c =
    let all : c.loop-i.i ≡ c.args.self.now.times = omega arith in
    c.finish.ensures (repeated c.args.self.now.times c.args.self.now.part.now) (subst (λ n. Holds c.loop-i.hasher (repeated n c.args.self.now.part.now)) all c.loop-i.invariant)
