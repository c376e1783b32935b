-- Words written as bytes, low byte first. Assumes nothing.
use Rattle.std.proofs.Common.{◌≡◌, ℕ, zero, suc, ◌+◌, ◌-◌, ◌*◌, ◌/◌, ◌%◌, ◌^◌, ◌<◌, ◌≤◌, ◌⊎◌, List, [], ◌∷◌, ◌++◌, length, take, drop, get_or, sym, ap, ◌∙◌, refl, inl, inr, arith, length-append, length-drop, length-take-le}
use borrow.Rule.Slice.PartMut.{put_mid, post_of}
use Rattle.std.proofs.lemmas.Bool.{cases_lt}
use Rattle.std.proofs.lemmas.List.{get_or-take, get_or_append_left, get_or-append_right}
use Rattle.ciphers.specs.ChaCha20.{plus, sum_byte}

-- some places more are written
part_written : (f : ℕ → ℕ) (out ys : List ℕ) (a n : ℕ) → a ≤ length out → length ys ≡ n → ((k : ℕ) → k < a → get_or out k 0 ≡ f k) → ((m : ℕ) → m < n → get_or ys m 0 ≡ f (a + m)) → (k : ℕ) → k < a + n → get_or (put_mid a n out ys) k 0 ≡ f k
part_written f out ys a n room long below here k h = go (cases_lt k a)
  where
    front : length (take a out) ≡ a
    front = length-take-le a out room

    go : (k < a) ⊎ (a ≤ k) → get_or (put_mid a n out ys) k 0 ≡ f k
    go (inl l) = get_or_append_left (take a out) (ys ++ post_of a n out) 0 k (omega (arith, front)) ∙ get_or-take a out k 0 l ∙ below k l
    go (inr l) =
        let off : a + (k - a) ≡ k = omega arith in
        get_or-append_right (take a out) (ys ++ post_of a n out) a k 0 front l ∙ get_or_append_left ys (post_of a n out) 0 (k - a) (omega arith) ∙ here (k - a) (omega arith) ∙ ap f off

pub part_length : (out ys : List ℕ) (a n : ℕ) → a + n ≤ length out → length ys ≡ n → length (put_mid a n out ys) ≡ length out
part_length out ys a n room long =
    let all = length-append (take a out) (ys ++ post_of a n out) in
    let last = length-append ys (post_of a n out) in
    let after = length-drop n (drop a out) in
    let before = length-drop a out in
    let front = length-take-le a out (omega (arith, room)) in
    omega arith

-- the place of byte n of word i
pub quotient : (i n : ℕ) → n < 4 → (4 * i + n) / 4 ≡ i
quotient i n h = omega arith

pub rest : (i n : ℕ) → n < 4 → (4 * i + n) % 4 ≡ n
rest i n h = omega arith

word_byte : (a b : List ℕ) (i n x m : ℕ) → n < 4 → x ≡ plus (get_or a i 0) (get_or b i 0) → m ≡ x / 256 ^ n % 256 → m ≡ sum_byte a b (4 * i + n)
word_byte a b i n x m h sum e = e ∙ ap (λ y. y / 256 ^ n % 256) sum ∙ ap (λ x. plus (get_or a x 0) (get_or b x 0) / 256 ^ n % 256) (sym (quotient i n h)) ∙ ap (λ x. plus (get_or a ((4 * i + n) / 4) 0) (get_or b ((4 * i + n) / 4) 0) / 256 ^ x % 256) (sym (rest i n h))

-- a byte of a word
byte_of : (x m : ℕ) → m < 4 → get_or ((x % 256) ∷ (x / 256 % 256) ∷ (x / 65536 % 256) ∷ (x / 16777216 % 256) ∷ []) m 0 ≡ x / 256 ^ m % 256
byte_of x zero h = omega arith
byte_of x (suc zero) h = refl
byte_of x (suc (suc zero)) h = refl
byte_of x (suc (suc (suc zero))) h = refl
byte_of x (suc (suc (suc (suc m)))) h = absurd (omega (arith, h))

-- the bytes of one word more
pub word_written : (a b out w : List ℕ) (i n x : ℕ) → i < 16 → n ≡ 4 → x ≡ plus (get_or a i 0) (get_or b i 0) → length out ≡ 64 → ((k : ℕ) → k < 4 * i → get_or out k 0 ≡ sum_byte a b k) → w ≡ (x % 256) ∷ (x / 256 % 256) ∷ (x / 65536 % 256) ∷ (x / 16777216 % 256) ∷ [] → (k : ℕ) → k < 4 * (i + 1) → get_or (put_mid (4 * i) n out w) k 0 ≡ sum_byte a b k
word_written a b out w i n x h four sum len below e k l =
    part_written (sum_byte a b) out w (4 * i) n (omega arith) (ap length e ∙ sym four) below
    (λ m g. let small : m < 4 = omega arith in word_byte a b i m x (get_or w m 0) small sum (ap (λ v. get_or v m 0) e ∙ byte_of x m small))
    k (omega arith)
