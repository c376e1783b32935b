-- Numbers written in bytes, high byte first, and read back. Assumes nothing.
use Rattle.std.proofs.Common.{◌≡◌, ℕ, zero, suc, ◌+◌, ◌*◌, ◌/◌, ◌%◌, ◌^◌, ◌<◌, List, length, get_or, sym, refl, ap, ◌∙◌, ap₂, mod-eq_of_lt, arith, lit<}
use native.Mathlib.Nat.{pow-succ'}
use lib.Arith.{mod-mul}
use Rattle.std.proofs.lemmas.List.FromFn.{fill_by_all}
use Rattle.fixed_bytes.specs.Numbers.{big_endian, value}

pub length_big_endian : (k n : ℕ) → length (big_endian k n) ≡ k
length_big_endian zero n = refl
length_big_endian (suc k) n = ap suc (length_big_endian k n)

pub some_power : (k : ℕ) → 0 < 256 ^ k
some_power zero = lit< tt
some_power (suc k) = omega (arith, some_power k, pow-succ' 256 k)

-- what is written reads as the number, up to the width
pub value_rest : (k n : ℕ) → value (big_endian k n) ≡ n % 256 ^ k
value_rest zero n = omega arith
value_rest (suc k) n =
    ap₂ (λ l v. n / 256 ^ k % 256 * 256 ^ l + v) (length_big_endian k n) (value_rest k n)
    ∙ sym (mod-mul n {m = 256} {c = 256 ^ k} (lit< tt) (some_power k))
    ∙ ap (λ m. n % m) (sym (pow-succ' 256 k))

pub value_back : (k n : ℕ) → n < 256 ^ k → value (big_endian k n) ≡ n
value_back k n h = value_rest k n ∙ mod-eq_of_lt h

-- the number of eight bytes, written out
pub value_of_eight : (l : List ℕ) → length l ≡ 8 → get_or l 0 0 * 72057594037927936 + get_or l 1 0 * 281474976710656 + get_or l 2 0 * 1099511627776 + get_or l 3 0 * 4294967296 + get_or l 4 0 * 16777216 + get_or l 5 0 * 65536 + get_or l 6 0 * 256 + get_or l 7 0 ≡ value l
value_of_eight l e = omega (arith, ap value (fill_by_all (λ k. get_or l k 0) l 8 0 e (λ k h. refl)))
