-- Comparing strings byte by byte, without an early exit. Assumes nothing.
use Rattle.std.proofs.Common.{◌≡◌, ℕ, eqb, List, [], ◌∷◌, length, Decides, sym, refl, ap, ◌∙◌, ap₂, arith}
use lib.Bits.{bit_or, bit_xor, or_add_and, xor_add_and, and_le_l, and_le_r, xor_self}
use Rattle.std.proofs.lemmas.Bool.{eqb-true, eq-eqb}

-- the bits in which two strings differ somewhere, joined to others
abbrev pub difference : ℕ → List ℕ → List ℕ → ℕ
difference d [] ys = d
difference d (x ∷ xs) [] = d
difference d (x ∷ xs) (y ∷ ys) = difference (bit_or d (bit_xor x y)) xs ys

-- two numbers joined are 0 only if each is
or_zero : (a b : ℕ) → bit_or a b ≡ 0 → (a ≡ 0) × (b ≡ 0)
or_zero a b e = (omega (arith, or_add_and a b, and_le_l a b, and_le_r a b), omega (arith, or_add_and a b, and_le_l a b, and_le_r a b))

xor_same : (x y : ℕ) → bit_xor x y ≡ 0 → x ≡ y
xor_same x y e = omega (arith, xor_add_and x y, and_le_l x y, and_le_r x y)

-- no bit is set only if none was and the strings are the same
no_difference : (d : ℕ) (a b : List ℕ) → length a ≡ length b → difference d a b ≡ 0 → (d ≡ 0) × (a ≡ b)
no_difference d [] [] n e = (e, refl)
no_difference d [] (y ∷ ys) n e = absurd (omega (arith, n))
no_difference d (x ∷ xs) [] n e = absurd (omega (arith, n))
no_difference d (x ∷ xs) (y ∷ ys) n e =
    let p = no_difference (bit_or d (bit_xor x y)) xs ys (omega (arith, n)) e in
    let z = or_zero d (bit_xor x y) p.0 in
    (z.0, ap₂ (λ v vs. v ∷ vs) (xor_same x y z.1) p.1)

from_itself : (a : List ℕ) → difference 0 a a ≡ 0
from_itself [] = refl
from_itself (x ∷ xs) = ap (λ z. difference (bit_or 0 z) xs xs) (xor_self x) ∙ from_itself xs

-- the bits of all bytes compared: 0 says that the strings are the same
pub same_decides : (a b : List ℕ) → length a ≡ length b → Decides (eqb (difference 0 a b) 0) (a ≡ b)
same_decides a b n = (λ e. (no_difference 0 a b n (eqb-true (difference 0 a b) 0 e)).1, λ e. eq-eqb (difference 0 a b) 0 (ap (difference 0 a) (sym e) ∙ from_itself a))
