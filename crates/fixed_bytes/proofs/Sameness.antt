-- The test of equality says whether two strings are equal. Assumes nothing.
use Rattle.std.proofs.Common.{◌≡◌, ℕ, Bool, true, false, ◌&&◌, eqb, List, [], ◌∷◌, Decides, sym, refl, subst, ap₂}
use mathlib.Core.Bool.{and-eq-true_iff, false≢true}
use Rattle.std.proofs.lemmas.Bool.{eqb-true, eq-eqb}
use Rattle.fixed_bytes.specs.Same.{same}

pub same_refl : (a : List ℕ) → same a a ≡ true
unfolding same
same_refl [] = refl
same_refl (x ∷ xs) = ap₂ (λ p q. p && q) (eq-eqb x x refl) (same_refl xs)

pub same_equal : (a b : List ℕ) → same a b ≡ true → a ≡ b
unfolding same
same_equal [] [] e = refl
same_equal [] (y ∷ ys) e = absurd (false≢true e)
same_equal (x ∷ xs) [] e = absurd (false≢true e)
same_equal (x ∷ xs) (y ∷ ys) e = let both = (and-eq-true_iff (eqb x y) (same xs ys)).0 e in ap₂ (λ z zs. z ∷ zs) (eqb-true x y both.0) (same_equal xs ys both.1)

-- an answer that decides equality is the test's
pub decided : (r : Bool) (a b : List ℕ) → Decides r (a ≡ b) → r ≡ same a b
decided true a b d = sym (subst (λ x. same a x ≡ true) (d.0 refl) (same_refl a))
decided false a b d = not_same (same a b) refl
  where
    not_same : (s : Bool) → same a b ≡ s → false ≡ same a b
    not_same true e = absurd (false≢true (d.1 (same_equal a b e)))
    not_same false e = sym e
