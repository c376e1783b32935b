-- How words, schedules and rounds split, and the order of a round's sum. Assumes nothing.
use Rattle.std.proofs.Common.{◌≡◌, ◌⊎◌, inl, inr, ℕ, zero, suc, ◌+◌, ◌*◌, ◌<◌, ◌≤◌, List, [], ◌∷◌, ◌++◌, length, get_or, take, drop, sym, refl, ap, ◌∙◌, suc-add, zero-add, mul-zero, mul-suc, arith, length-append, length-drop}
use Rattle.std.proofs.lemmas.List.{drop-drop, take-append-drop, take-append-le, take_all, get_or-take, length-take-le}
use Rattle.std.specs.Simd.{first_chunks}
use Rattle.sha256.specs.declared.state.State.{State}
use Rattle.sha256.specs.Sha256.{slid, slid_by, schedule, sums, round, rounds, added, compressed, constants}
use Rattle.sha256.specs.Words.{plus, choice, majority, big_sigma0, big_sigma1, first_word, words}

-- a round whose sum is taken in another order is the same
pub reordered : (kw h chosen sigma : ℕ) → plus (plus (plus kw h) chosen) sigma ≡ plus (plus (plus h sigma) chosen) kw
reordered kw h chosen sigma = omega arith

-- one more word
pub words_more : (n : ℕ) (bytes : List ℕ) → words (n + 1) bytes ≡ words n bytes ++ first_word (drop (4 * n) bytes) ∷ []
unfolding words
words_more zero bytes = refl
words_more (suc n) bytes =
    let e : suc n + 1 ≡ suc (n + 1) = omega arith in
    let f : 4 * suc n ≡ 4 + 4 * n = omega arith in
    rw (e, f, ← drop-drop (4 * n) 4 bytes) (ap (λ ws. first_word bytes ∷ ws) (words_more n (drop 4 bytes)))

pub rounds_append : (s : State) (xs ys : List ℕ) → rounds s (xs ++ ys) ≡ rounds (rounds s xs) ys
unfolding rounds
rounds_append s [] ys = refl
rounds_append s (x ∷ xs) ys = rounds_append (round s x) xs ys

pub sums_append : (ks ws ks' ws' : List ℕ) → length ks ≡ length ws → sums (ks ++ ks') (ws ++ ws') ≡ sums ks ws ++ sums ks' ws'
unfolding sums
sums_append [] [] ks' ws' h = refl
sums_append [] (w ∷ ws) ks' ws' h = absurd (omega arith)
sums_append (k ∷ ks) [] ks' ws' h = absurd (omega arith)
sums_append (k ∷ ks) (w ∷ ws) ks' ws' h = ap (λ rest. plus k w ∷ rest) (sums_append ks ws ks' ws' (omega arith))

-- a schedule goes on from the words that it has come to
pub schedule_append : (n m : ℕ) (last : List ℕ) → schedule (n + m) last ≡ schedule n last ++ schedule m (slid_by n last)
unfolding schedule slid_by
schedule_append zero m last = rw zero-add refl
schedule_append (suc n) m last = rw suc-add (ap (λ ws. get_or last 0 0 ∷ ws) (schedule_append n m (slid last)))

-- it begins with the words that it has
pub schedule_begins : (n : ℕ) (last : List ℕ) → n ≤ length last → schedule n last ≡ take n last
unfolding schedule slid
schedule_begins zero last h = refl
schedule_begins (suc n) [] h = absurd (omega arith)
schedule_begins (suc n) (w ∷ last) h =
    let short : n ≤ length last = omega arith in
    let rest = schedule_begins n (slid (w ∷ last)) (rw length-append (omega arith)) in
    ap (λ ws. w ∷ ws) (rest ∙ take-append-le n last _ short)

pub length_slid_by : (n : ℕ) (last : List ℕ) → 0 < length last → length (slid_by n last) ≡ length last
unfolding slid_by slid
length_slid_by zero last h = refl
length_slid_by (suc n) [] h = absurd (omega arith)
length_slid_by (suc n) (w ∷ last) h =
    let same : length (slid (w ∷ last)) ≡ length (w ∷ last) = rw length-append (omega arith) in
    length_slid_by n (slid (w ∷ last)) (omega arith) ∙ same

-- sixteen words are the schedule that they begin
pub whole_schedule : (last : List ℕ) → length last ≡ 16 → schedule 16 last ≡ last
whole_schedule last h = schedule_begins 16 last (omega arith) ∙ take_all 16 last (omega arith)

-- one quarter of the rounds, and then the rest with the words that follow
pub quarter : (s : State) (ks ks' last : List ℕ) (n : ℕ) → length ks ≡ 16 → length last ≡ 16
    → rounds s (sums (ks ++ ks') (schedule (16 + n) last)) ≡ rounds (rounds s (sums ks last)) (sums ks' (schedule n (slid_by 16 last)))
quarter s ks ks' last n hk hl =
    let same : length ks ≡ length last = hk ∙ sym hl in
    rw (schedule_append 16 n last, whole_schedule last hl, sums_append ks last ks' (schedule n (slid_by 16 last)) same, rounds_append) refl

-- the four quarters of the rounds of a block
pub quarters : (s : State) (k0 k1 k2 k3 last : List ℕ) → length k0 ≡ 16 → length k1 ≡ 16 → length k2 ≡ 16 → length k3 ≡ 16 → length last ≡ 16
    → rounds s (sums (k0 ++ (k1 ++ (k2 ++ k3))) (schedule 64 last))
    ≡ rounds (rounds (rounds (rounds s (sums k0 last)) (sums k1 (slid_by 16 last))) (sums k2 (slid_by 16 (slid_by 16 last)))) (sums k3 (slid_by 16 (slid_by 16 (slid_by 16 last))))
quarters s k0 k1 k2 k3 last h0 h1 h2 h3 hl =
    let l1 : length (slid_by 16 last) ≡ 16 = length_slid_by 16 last (omega arith) ∙ hl in
    let l2 : length (slid_by 16 (slid_by 16 last)) ≡ 16 = length_slid_by 16 (slid_by 16 last) (omega arith) ∙ l1 in
    let l3 : length (slid_by 16 (slid_by 16 (slid_by 16 last))) ≡ 16 = length_slid_by 16 (slid_by 16 (slid_by 16 last)) (omega arith) ∙ l2 in
    quarter s k0 (k1 ++ (k2 ++ k3)) last 48 h0 hl
    ∙ quarter _ k1 (k2 ++ k3) (slid_by 16 last) 32 h1 l1
    ∙ quarter _ k2 k3 (slid_by 16 (slid_by 16 last)) 16 h2 l2
    ∙ ap (λ ws. rounds (rounds (rounds (rounds s (sums k0 last)) (sums k1 (slid_by 16 last))) (sums k2 (slid_by 16 (slid_by 16 last)))) (sums k3 ws)) (whole_schedule _ l3)

-- a round with its parts computed apart and its sum in another order
pub one_round : (s : State) (kw chosen sigma1 sigma0 most : ℕ)
    → chosen ≡ choice s.e s.f s.g → sigma1 ≡ big_sigma1 s.e → sigma0 ≡ big_sigma0 s.a → most ≡ majority s.a s.b s.c
    → ◌≡◌ {A = State}
    (record {
      a = plus (plus (plus (plus kw s.h) chosen) sigma1) (plus sigma0 most);
      b = s.a;
      c = s.b;
      d = s.c;
      e = plus s.d (plus (plus (plus kw s.h) chosen) sigma1);
      f = s.e;
      g = s.f;
      h = s.g;
    })
    (round s kw)
unfolding round
one_round s kw chosen sigma1 sigma0 most p q m n = rw (p, q, m, n, reordered kw s.h (choice s.e s.f s.g) (big_sigma1 s.e)) refl

pub length_words : (n : ℕ) (bytes : List ℕ) → length (words n bytes) ≡ n
unfolding words
length_words zero bytes = refl
length_words (suc n) bytes = ap suc (length_words n (drop 4 bytes))

-- a piece of n
pub chunk_at : (n k i : ℕ) (xs : List ℕ) → i < k → get_or (first_chunks n k xs) i [] ≡ take n (drop (n * i) xs)
chunk_at n zero i xs h = absurd (omega (arith, h))
chunk_at n (suc k) zero xs h = ap (λ m. take n (drop m xs)) (sym (mul-zero n))
chunk_at n (suc k) (suc i) xs h =
    let on : n + n * i ≡ n * suc i = omega (arith, mul-suc n i) in
    chunk_at n k i (drop n xs) (omega (arith, h)) ∙ ap (take n) (drop-drop (n * i) n xs ∙ ap (λ m. drop m xs) on)

-- the word of four bytes that are a chunk
pub chunk_word : (bytes : List ℕ) (chunks : List (List ℕ)) (k i x : ℕ) → i < k → chunks ≡ first_chunks 4 k bytes → x ≡ get_or (get_or chunks i []) 0 0 * 16777216 + get_or (get_or chunks i []) 1 0 * 65536 + get_or (get_or chunks i []) 2 0 * 256 + get_or (get_or chunks i []) 3 0 → x ≡ first_word (drop (4 * i) bytes)
chunk_word bytes chunks k i x h e sum =
    let at = ap (λ cs. get_or cs i []) e ∙ chunk_at 4 k i bytes h in
    let rest = drop (4 * i) bytes in
    sum ∙ ap (λ c. get_or c 0 0 * 16777216 + get_or c 1 0 * 65536 + get_or c 2 0 * 256 + get_or c 3 0) at
    ∙ rw (get_or-take 4 rest 0 0 (omega arith), get_or-take 4 rest 1 0 (omega arith), get_or-take 4 rest 2 0 (omega arith), get_or-take 4 rest 3 0 (omega arith)) refl

-- the rounds by pieces of constants and pieces of words
unfoldable pub rounds_by : State → List (List ℕ) → List (List ℕ) → State
rounds_by s [] wss = s
rounds_by s (ks ∷ kss) [] = s
rounds_by s (ks ∷ kss) (ws ∷ wss) = rounds_by (rounds s (sums ks ws)) kss wss

-- sixteen numbers are two pieces of eight
eights : (xs : List ℕ) → length xs ≡ 16 → take 8 xs ++ take 8 (drop 8 xs) ≡ xs
eights xs h = ap (λ rest. take 8 xs ++ rest) (take_all 8 (drop 8 xs) (omega (arith, length-drop 8 xs))) ∙ take-append-drop 8 xs

-- sixteen rounds by pieces of eight
rounds_by_eights : (s : State) (ks ws : List ℕ) → length ks ≡ 16 → length ws ≡ 16 → rounds_by s (first_chunks 8 2 ks) (first_chunks 8 2 ws) ≡ rounds s (sums ks ws)
unfolding rounds_by
rounds_by_eights s ks ws hk hw =
    let same : length (take 8 ks) ≡ length (take 8 ws) = length-take-le 8 ks (omega arith) ∙ sym (length-take-le 8 ws (omega arith)) in
    sym (rounds_append s (sums (take 8 ks) (take 8 ws)) (sums (take 8 (drop 8 ks)) (take 8 (drop 8 ws))))
    ∙ ap (rounds s) (sym (sums_append (take 8 ks) (take 8 ws) (take 8 (drop 8 ks)) (take 8 (drop 8 ws)) same))
    ∙ rw (eights ks hk, eights ws hw) refl

-- the constants in pieces of eight: sixteen words need the first two
pub first_eights : (s : State) (ws : List ℕ) → length ws ≡ 16 → rounds_by s (first_chunks 8 8 constants) (first_chunks 8 2 ws) ≡ rounds s (sums (take 16 constants) ws)
unfolding rounds_by constants
first_eights s ws h = rounds_by_eights s (take 16 constants) ws refl h

-- without constants, or without words, there is no round
pub none_left : (s : State) (kss wss : List (List ℕ)) → (kss ≡ []) ⊎ (wss ≡ []) → rounds_by s kss wss ≡ s
unfolding rounds_by
none_left s kss wss (inl e) = ap (λ l. rounds_by s l wss) e
none_left s [] wss (inr e) = refl
none_left s (ks ∷ kss) wss (inr e) = ap (λ l. rounds_by s (ks ∷ kss) l) e

-- the compression of a block, in quarters of its rounds
pub by_quarters : (s : State) (block k0 k1 k2 k3 : List ℕ)
    → constants ≡ k0 ++ (k1 ++ (k2 ++ k3)) → length k0 ≡ 16 → length k1 ≡ 16 → length k2 ≡ 16 → length k3 ≡ 16
    → (w0 w1 w2 : List ℕ) (s0 s1 s2 s3 r : State)
    → w0 ≡ words 16 block → s0 ≡ rounds s (sums k0 w0)
    → s1 ≡ rounds s0 (sums k1 (slid_by 16 w0)) → w1 ≡ slid_by 16 w0
    → s2 ≡ rounds s1 (sums k2 (slid_by 16 w1)) → w2 ≡ slid_by 16 w1
    → s3 ≡ rounds s2 (sums k3 (slid_by 16 w2))
    → r ≡ added s s3 → r ≡ compressed s block
unfolding compressed
by_quarters s block k0 k1 k2 k3 k h0 h1 h2 h3 w0 w1 w2 s0 s1 s2 s3 r e0 f0 f1 e1 f2 e2 f3 g =
    let q : rounds s (sums (k0 ++ (k1 ++ (k2 ++ k3))) (schedule 64 (words 16 block))) ≡ s3 = quarters s k0 k1 k2 k3 (words 16 block) h0 h1 h2 h3 (length_words 16 block) ∙ (cc) in
    cc
