use Rattle.hashes.specs.Streams.{Holds}
use Rattle.vectors.specs.Repeated.{repeated}
use Rattle.vectors.proofs.digests.DigestVector.digest.Given as goal

abbrev pub invariant-loop-i : goal.invariant-loop-i
invariant-loop-i l = Holds l.hasher (repeated l.i l.self.part.now)
