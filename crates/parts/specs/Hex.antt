-- Bytes that are written in hex. Assumes nothing.
use Rattle.std.specs.Prelude.{ℕ, ◌+◌, ◌-◌, ◌*◌, cond, ◌&&◌, List, [], ◌∷◌, ◌++◌, Some, None, Option, nat_le, slice_index}

-- the value of a digit: 0 to 9, a to f, A to F
abbrev pub digit_value : ℕ → Option ℕ
digit_value c =
    cond (nat_le 48 c && nat_le c 57) (Some (c - 48))
    (cond (nat_le 97 c && nat_le c 102) (Some (c - 87))
    (cond (nat_le 65 c && nat_le c 70) (Some (c - 55)) None))

abbrev pub needs : {X Y : Type 0} → Option X → (X → Option Y) → Option Y
needs None k = None
needs (Some x) k = k x

-- the bytes that pairs of digits stand for, behind others
unfoldable pub unhexed : List ℕ → List ℕ → Option (List ℕ)
unhexed bs [] = Some bs
unhexed bs (a ∷ []) = None
unhexed bs (a ∷ b ∷ rest) = needs (digit_value a) (λ h. needs (digit_value b) (λ l. unhexed (bs ++ (h * 16 + l) ∷ []) rest))

-- the byte of a pair of digits
abbrev pub pair_byte : List ℕ → Option ℕ
pair_byte pair = needs (digit_value (slice_index pair 0)) (λ h. needs (digit_value (slice_index pair 1)) (λ l. Some (h * 16 + l)))
