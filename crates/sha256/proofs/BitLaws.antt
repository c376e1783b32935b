-- Two shorter ways to compute a choice and a majority give the same bits. Assumes nothing.
use Rattle.std.proofs.Common.{◌≡◌, ℕ, ◌^◌, ◌<◌, bit_and, bit_xor, arith}
use Rattle.std.proofs.lemmas.Nat.{and_le_l, and_le_r, xor_lt}
use Rattle.std.proofs.lemmas.Nat.Bits.{bit_at-lt, bit_at_and, bit_at_not, bit_at_xor, same_from_bits, same_from_bits_below}
use Rattle.std.proofs.Common.{w32}
use Rattle.sha256.specs.Words.{choice, majority, complement}

-- the choice with one exclusive or less
pub choice_law : (x y z : ℕ) → x < 2 ^ 32 → z < 2 ^ 32 → bit_xor (bit_and x (bit_xor y z)) z ≡ choice x y z
choice_law x y z hx hz =
    same_from_bits_below 32 _ _
    (xor_lt 32 (bit_and x (bit_xor y z)) z (omega (arith, and_le_l x (bit_xor y z))) hz)
    (xor_lt 32 (bit_and x y) (bit_and (complement x) z) (omega (arith, and_le_l x y)) (omega (arith, and_le_r (complement x) z)))
    (λ i low. simp (bit_at_xor, bit_at_and, bit_at_not w32 x i hx low) (omega (arith, bit_at-lt x i, bit_at-lt y i, bit_at-lt z i)))

-- the majority with one operation less
pub majority_law : (x y z : ℕ) → bit_xor (bit_and (bit_xor x y) (bit_xor y z)) y ≡ majority x y z
majority_law x y z = same_from_bits _ _ (λ i. simp (bit_at_xor, bit_at_and) (omega (arith, bit_at-lt x i, bit_at-lt y i, bit_at-lt z i)))
