-- Rounds, one line after the other. Assumes nothing.
use Rattle.std.proofs.Common.{◌≡◌, ℕ, ◌+◌, List, get_or, set, refl, ap, ◌∙◌, add-one}
use Rattle.ciphers.specs.ChaCha20.{mixed, quarter_round, quarter_at, double_round, double_rounds}

-- the four lines of a quarter round
pub quarter_lines : (s : List ℕ) (i j k l : ℕ) (x y z w : ℕ × ℕ) → x ≡ mixed 16 (get_or s i 0) (get_or s j 0) (get_or s l 0) → y ≡ mixed 12 (get_or s k 0) x.1 (get_or s j 0) → z ≡ mixed 8 x.0 y.1 x.1 → w ≡ mixed 7 y.0 z.1 y.1 → set (set (set (set s i z.0) j w.1) k w.0) l z.1 ≡ quarter_at i j k l s
unfolding quarter_round quarter_at
quarter_lines s i j k l x y z w a b c d = rw (d, c, b, a)

pub rounds_none : (s : List ℕ) → double_rounds 0 s ≡ s
unfolding double_rounds
rounds_none s = refl

-- one double round more
pub rounds_more : (n : ℕ) (start s t : List ℕ) → t ≡ double_round s → s ≡ double_rounds n start → t ≡ double_rounds (n + 1) start
unfolding double_rounds
rounds_more n start s t e f = rw add-one (e ∙ ap double_round f)
