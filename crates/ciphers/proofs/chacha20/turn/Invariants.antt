use Rattle.std.proofs.Common.{◌-◌, ◌*◌, min, length}
use Rattle.ciphers.specs.ChaCha20.{stream_byte}
use Rattle.ciphers.specs.Parts.{PartTurned}
use Rattle.ciphers.proofs.chacha20.turn.Given as goal

abbrev pub invariant-loop-done : goal.invariant-loop-done
invariant-loop-done l = PartTurned (stream_byte l.key l.counter l.nonce) l.initial.bytes l.bytes 0 (min (length l.initial.bytes) (64 * l.done))

abbrev pub decreases-loop-done : goal.decreases-loop-done
decreases-loop-done l = l.blocks - l.done
