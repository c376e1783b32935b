use Rattle.std.proofs.Common.{◌+◌, ◌*◌, min, map, length}
use Rattle.ciphers.specs.Parts.{PartTurned}
use Rattle.ciphers.proofs.Parts.{in_turn}
use Rattle.ciphers.proofs.chacha20.turn_blocks.Given as goal

abbrev pub invariant-loop-n : goal.invariant-loop-n
invariant-loop-n g l = PartTurned (in_turn (λ n. map (g.T.Word.lane n) l.start)) l.initial.bytes l.bytes l.at (min (length l.initial.bytes) (l.at + 64 * l.n))
