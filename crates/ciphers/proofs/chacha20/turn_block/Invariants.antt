use Rattle.std.proofs.Common.{◌+◌, min, length, get_or}
use Rattle.ciphers.specs.Parts.{PartTurned}
use Rattle.ciphers.proofs.chacha20.turn_block.Given as goal

abbrev pub invariant-loop-j : goal.invariant-loop-j
invariant-loop-j l = PartTurned (λ j. get_or l.stream j 0) l.initial.bytes l.bytes l.at (min (length l.initial.bytes) (l.at + l.j))
