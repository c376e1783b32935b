use Rattle.std.proofs.Common.{◌≡◌, length, take}
use Rattle.sha256.specs.Words.{words}
use Rattle.sha256.proofs.compress.block_words.Given as goal

abbrev pub invariant-loop-t : goal.invariant-loop-t
invariant-loop-t l = (length l.w ≡ 16) × (take l.t l.w ≡ words l.t l.block)
