use Rattle.std.proofs.Common.{◌≡◌, ℕ, ◌<◌, map}
use Rattle.ciphers.specs.ChaCha20.{double_rounds}
use Rattle.ciphers.proofs.chacha20.rounds.Given as goal

abbrev pub invariant-loop-i : goal.invariant-loop-i
invariant-loop-i g l = (n : ℕ) → n < g.T.Word.lanes → map (g.T.Word.lane n) l.s ≡ double_rounds l.i (map (g.T.Word.lane n) l.start)
