-- Bytes read as a number, and written back. Assumes nothing.
use Rattle.std.proofs.Common.{◌≡◌, ℕ, zero, suc, ◌+◌, ◌*◌, ◌/◌, ◌%◌, ◌^◌, ◌<◌, ◌≤◌, List, [], ◌∷◌, ◌++◌, length, take, drop, sym, refl, ap, ◌∙◌, subst, ap₂, mod-eq_of_lt, mod-lt, mul_assoc, lit<}
use native.Mathlib.Nat.{pow-succ', mul-add-div_right, mul-add-mod_self_right}
use lib.Arith.{digits_lt, digits_div}
use Rattle.std.proofs.ByRecursion.{All-take}
use Rattle.std.proofs.lemmas.List.{take-append-drop, length-take-le}
use Rattle.fixed_bytes.specs.Numbers.{big_endian, value}
use Rattle.fixed_bytes.proofs.Numbers.{some_power}
use Rattle.formats.specs.Whole.{Bytes}

-- bytes read as a number that fits them
pub value_fits : (bs : List ℕ) → Bytes bs → value bs < 256 ^ length bs
value_fits [] all = lit< tt
value_fits (b ∷ bs) all = subst (λ m. b * 256 ^ length bs + value bs < m) (sym (pow-succ' 256 (length bs))) (digits_lt all.0 (value_fits bs all.1))

-- what stands above the width isn't written
above_width : (k m v : ℕ) → big_endian k (m * 256 ^ k + v) ≡ big_endian k v
above_width zero m v = refl
above_width (suc k) m v =
    let same : m * 256 ^ suc k ≡ m * 256 * 256 ^ k = ap (λ p. m * p) (pow-succ' 256 k) ∙ sym (mul_assoc m 256 (256 ^ k)) in
    ap (λ x. big_endian (suc k) (x + v)) same
    ∙ ap₂ (λ b bs. b ∷ bs) (ap (λ x. x % 256) (mul-add-div_right (some_power k) (m * 256) v) ∙ mul-add-mod_self_right m 256 (v / 256 ^ k)) (above_width k (m * 256) v)

-- and are written so
pub written_back : (bs : List ℕ) → Bytes bs → big_endian (length bs) (value bs) ≡ bs
written_back [] all = refl
written_back (b ∷ bs) all =
    ap₂ (λ c cs. c ∷ cs)
    (ap (λ x. x % 256) (digits_div b (value_fits bs all.1)) ∙ mod-eq_of_lt all.0)
    (above_width (length bs) b (value bs) ∙ written_back bs all.1)

-- what is written are bytes
pub digits : (k n : ℕ) → Bytes (big_endian k n)
digits zero n = tt
digits (suc k) n = (mod-lt (n / 256 ^ k) (lit< tt), digits k n)

-- a number at the front of some bytes
module _ (n : ℕ) (bs : List ℕ) (within : n ≤ length bs) (all : Bytes bs) where
  pub number_is : bs ≡ big_endian n (value (take n bs)) ++ drop n bs
  number_is = sym (take-append-drop n bs) ∙ ap (λ p. p ++ drop n bs) (sym (ap (λ k. big_endian k (value (take n bs))) (sym (length-take-le n bs within)) ∙ written_back (take n bs) (All-take (λ b. b < 256) n bs all)))

  pub number_fits : value (take n bs) < 256 ^ n
  number_fits = subst (λ k. value (take n bs) < 256 ^ k) (length-take-le n bs within) (value_fits (take n bs) (All-take (λ b. b < 256) n bs all))
