use Rattle.std.proofs.Common.{◌≡◌}
use Rattle.sha256.specs.Sha256.{blocks}
use Rattle.hashes.proofs.hasher.compress_blocks.Given as goal

abbrev pub invariant-loop-block : goal.invariant-loop-block
invariant-loop-block l = l.s ≡ blocks l.block-index l.fn.state l.bytes
