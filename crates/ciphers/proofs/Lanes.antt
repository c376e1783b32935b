-- Words of several blocks side by side: each lane goes as one word does. Assumes nothing.
use Rattle.std.proofs.Common.{◌≡◌, ℕ, ◌-◌, ◌*◌, ◌/◌, ◌%◌, ◌^◌, ◌<◌, List, [], ◌∷◌, map, length, get_or, set, replicate, sym, ap, ◌∙◌, ap₂, arith}
use lib.Bits.{bit_or, bit_xor}
use lib.Lanes.{zip2}
use lib.LanesLaws.{length-zip2}
use lib.ListN.{get_or-replicate}
use lib.Seq.{map-set}
use Rattle.std.proofs.lemmas.Simd.{get_or-zip2}
use Rattle.std.proofs.lemmas.List.{get_or-map}
use Rattle.ciphers.specs.ChaCha20.{plus, turned, mixed, quarter_at, word_at, initial}
use Rattle.ciphers.proofs.Rounds.{quarter_lines}

-- four words of a state mixed in each lane
pub lane_quarter : {A : Type 0} (f : A → ℕ) (s : List A) (i j k l : ℕ) (p q r t u : A) (x y z w : A × A) → i < length s → j < length s → k < length s → l < length s → (f x.0, f x.1) ≡ mixed 16 (f (get_or s i p)) (f (get_or s j q)) (f (get_or s l r)) → (f y.0, f y.1) ≡ mixed 12 (f (get_or s k t)) (f x.1) (f (get_or s j u)) → (f z.0, f z.1) ≡ mixed 8 (f x.0) (f y.1) (f x.1) → (f w.0, f w.1) ≡ mixed 7 (f y.0) (f z.1) (f y.1) → map f (set (set (set (set s i z.0) j w.1) k w.0) l z.1) ≡ quarter_at i j k l (map f s)
lane_quarter f s i j k l p q r t u x y z w hi hj hk hl a b c d =
    simp map-set (quarter_lines (map f s) i j k l (f x.0, f x.1) (f y.0, f y.1) (f z.0, f z.1) (f w.0, f w.1) (rw (get_or-map f s i p 0 hi, get_or-map f s j q 0 hj, get_or-map f s l r 0 hl) a) (rw (get_or-map f s k t 0 hk, get_or-map f s j u 0 hj) b) c d)

-- a word's bits moved left and right
abbrev shl : ℕ → ℕ → ℕ
shl x m = (x * 2 ^ m) % 2 ^ 32

abbrev shr : ℕ → ℕ → ℕ
shr x m = x / 2 ^ m

-- the turn of a word, by two shifts
turned_by_shifts : (k x : ℕ) → 0 < k → k < 32 → bit_or (shl x k) (shr x (32 - k)) ≡ turned k x
turned_by_shifts k x h l =
    let e : k % 32 ≡ k = omega arith in
    let f : (32 - k) % 32 ≡ 32 - k = omega arith in
    rw (e, f)

-- one line of a quarter round, in a lane
pub lane_mixed : (k : ℕ) (a b d : List ℕ) (n : ℕ) → 0 < k → k < 32 → length a ≡ 4 → length b ≡ 4 → length d ≡ 4 → n < 4 → (get_or (zip2 plus a b) n 0, get_or (zip2 bit_or (zip2 shl (zip2 bit_xor d (zip2 plus a b)) (replicate 4 k)) (zip2 shr (zip2 bit_xor d (zip2 plus a b)) (replicate 4 (32 - k)))) n 0) ≡ mixed k (get_or a n 0) (get_or b n 0) (get_or d n 0)
lane_mixed k a b d n h l la lb ld m =
    let sum = get_or-zip2 plus a b n 0 0 0 (omega arith) (omega arith) in
    let many = length-zip2 plus a b (la ∙ sym lb) ∙ la in
    let x = get_or-zip2 bit_xor d (zip2 plus a b) n 0 0 0 (omega arith) (omega arith) ∙ ap (bit_xor (get_or d n 0)) sum in
    let wide = length-zip2 bit_xor d (zip2 plus a b) (ld ∙ sym many) ∙ ld in
    let left = get_or-zip2 shl (zip2 bit_xor d (zip2 plus a b)) (replicate 4 k) n 0 0 0 (omega arith) m ∙ ap₂ shl x (get_or-replicate 4 n k 0 m) in
    let right = get_or-zip2 shr (zip2 bit_xor d (zip2 plus a b)) (replicate 4 (32 - k)) n 0 0 0 (omega arith) m ∙ ap₂ shr x (get_or-replicate 4 n (32 - k) 0 m) in
    let turn = get_or-zip2 bit_or (zip2 shl (zip2 bit_xor d (zip2 plus a b)) (replicate 4 k)) (zip2 shr (zip2 bit_xor d (zip2 plus a b)) (replicate 4 (32 - k))) n 0 0 0 (simp length-zip2 (omega arith)) (simp length-zip2 (omega arith)) in
    ap₂ (λ p q. (p, q)) sum (turn ∙ ap₂ bit_or left right ∙ turned_by_shifts k (bit_xor (get_or d n 0) (plus (get_or a n 0) (get_or b n 0))) h l)

-- the sum of two words of a lane
pub lane_sum : {A : Type 0} (f : A → ℕ) (a b : List A) (i : ℕ) (p q : A) (x y : ℕ) → i < length a → i < length b → x ≡ f (get_or a i p) → y ≡ f (get_or b i q) → plus x y ≡ plus (get_or (map f a) i 0) (get_or (map f b) i 0)
lane_sum f a b i p q x y h l e g = ap₂ plus (e ∙ sym (get_or-map f a i p 0 h)) (g ∙ sym (get_or-map f b i q 0 l))

-- the words that a block begins with
pub initial_words : (key : List ℕ) (counter : ℕ) (nonce : List ℕ) (a0 a1 a2 a3 a4 a5 a6 a7 a8 a9 a10 a11 a12 a13 a14 a15 : ℕ)
    → a0 ≡ 0x61707865
    → a1 ≡ 0x3320646e
    → a2 ≡ 0x79622d32
    → a3 ≡ 0x6b206574
    → a4 ≡ word_at key 0
    → a5 ≡ word_at key 1
    → a6 ≡ word_at key 2
    → a7 ≡ word_at key 3
    → a8 ≡ word_at key 4
    → a9 ≡ word_at key 5
    → a10 ≡ word_at key 6
    → a11 ≡ word_at key 7
    → a12 ≡ counter
    → a13 ≡ word_at nonce 0
    → a14 ≡ word_at nonce 1
    → a15 ≡ word_at nonce 2
    → a0 ∷ a1 ∷ a2 ∷ a3 ∷ a4 ∷ a5 ∷ a6 ∷ a7 ∷ a8 ∷ a9 ∷ a10 ∷ a11 ∷ a12 ∷ a13 ∷ a14 ∷ a15 ∷ [] ≡ initial key counter nonce
initial_words key counter nonce a0 a1 a2 a3 a4 a5 a6 a7 a8 a9 a10 a11 a12 a13 a14 a15 e0 e1 e2 e3 e4 e5 e6 e7 e8 e9 e10 e11 e12 e13 e14 e15 = cc
