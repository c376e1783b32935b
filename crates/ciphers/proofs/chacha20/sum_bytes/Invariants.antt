use Rattle.std.proofs.Common.{◌≡◌, ℕ, ◌*◌, ◌<◌, map, length, get_or}
use Rattle.ciphers.specs.ChaCha20.{sum_byte}
use Rattle.ciphers.proofs.chacha20.sum_bytes.Given as goal

abbrev pub invariant-loop-i : goal.invariant-loop-i
invariant-loop-i g l = (length l.out ≡ 64) × ((k : ℕ) → k < 4 * l.i → get_or l.out k 0 ≡ sum_byte (map (g.T.Word.lane l.n) l.a) (map (g.T.Word.lane l.n) l.b) k)
