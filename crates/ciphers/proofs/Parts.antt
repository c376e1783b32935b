-- Turning block by block, and turning back. Assumes nothing.
use Rattle.std.proofs.Common.{◌≡◌, ℕ, ◌+◌, ◌-◌, ◌*◌, ◌/◌, ◌%◌, ◌<◌, ◌≤◌, ◌≢◌, min, ◌⊎◌, List, length, get_or, set, ap, ◌∙◌, subst, ap₂, inl, inr, arith, length-set, get_or-set_other, get_or-set_same}
use lib.Bits.{bit_xor}
use Rattle.std.proofs.lemmas.Bool.{cases_lt}
use Rattle.ciphers.specs.ChaCha20.{initial, block_byte, stream_byte, Turned}
use Rattle.ciphers.specs.Parts.{PartTurned}

-- a part more, turned by what the stream has next
pub part_more : (f g : ℕ → ℕ) (before s t : List ℕ) (at a b : ℕ) → ((j : ℕ) → j < b → g j ≡ f (a + j)) → PartTurned f before s at (min (length before) (at + a)) → PartTurned g s t (at + a) (min (length s) (at + a + b)) → PartTurned f before t at (min (length before) (at + (a + b)))
part_more f g before s t at a b next P Q = record {
  len = Q.len ∙ P.len;
  each = λ p l m. go p l m (cases_lt p (at + a));
  front = λ p l. Q.front p (omega arith) ∙ P.front p l;
  rest = λ p l. let n = P.len in Q.rest p (omega arith) ∙ P.rest p (omega arith);
}
  where
    go : (p : ℕ) → at ≤ p → p < min (length before) (at + (a + b)) → (p < at + a) ⊎ (at + a ≤ p) → get_or t p 0 ≡ bit_xor (get_or before p 0) (f (p - at))
    go p l m (inl x) = Q.front p x ∙ P.each p l (omega arith)
    go p l m (inr y) =
        let n = P.len in
        let here : a + (p - (at + a)) ≡ p - at = omega arith in
        Q.each p y (omega arith) ∙ ap (λ z. bit_xor z (g (p - (at + a)))) (P.rest p (omega arith)) ∙ ap (bit_xor (get_or before p 0)) (next (p - (at + a)) (omega arith) ∙ ap f here)

-- blocks that begin one after the other, as one stream
abbrev pub in_turn : (ℕ → List ℕ) → ℕ → ℕ
in_turn start p = block_byte (start (p / 64)) (p % 64)

-- blocks that begin with the counter's states are the keystream's
pub blocks_of_stream : (key : List ℕ) (counter : ℕ) (nonce : List ℕ) (start : ℕ → List ℕ) (before after : List ℕ) (at many : ℕ) → ((n : ℕ) → n < many → start n ≡ initial key (counter + n) nonce) → PartTurned (in_turn start) before after at (min (length before) (at + 64 * many)) → PartTurned (stream_byte key counter nonce) before after at (min (length before) (at + 64 * many))
blocks_of_stream key counter nonce start before after at many begins P = record {
  len = P.len;
  each = λ p l m. let inside : (p - at) / 64 < many = omega arith in P.each p l m ∙ ap (λ s. bit_xor (get_or before p 0) (block_byte s ((p - at) % 64))) (begins ((p - at) / 64) inside);
  front = P.front;
  rest = P.rest;
}

-- the keystream from a later block on
stream_further : (key : List ℕ) (counter : ℕ) (nonce : List ℕ) (m j : ℕ) → stream_byte key (counter + m) nonce j ≡ stream_byte key counter nonce (64 * m + j)
stream_further key counter nonce m j =
    let block : counter + m + j / 64 ≡ counter + (64 * m + j) / 64 = omega arith in
    let place : j % 64 ≡ (64 * m + j) % 64 = omega arith in
    ap₂ (λ b p. block_byte (initial key b nonce) p) block place

-- some blocks more of the keystream
pub stream_more : (key : List ℕ) (counter : ℕ) (nonce before s t : List ℕ) (m n : ℕ) → PartTurned (stream_byte key counter nonce) before s 0 (min (length before) (64 * m)) → PartTurned (stream_byte key (counter + m) nonce) s t (64 * m) (min (length s) (64 * m + 64 * n)) → PartTurned (stream_byte key counter nonce) before t 0 (min (length before) (64 * (m + n)))
stream_more key counter nonce before s t m n P Q =
    let start : 64 * m ≡ 0 + 64 * m = omega arith in
    let more : 0 + (64 * m + 64 * n) ≡ 64 * (m + n) = omega arith in
    subst (λ k. PartTurned (stream_byte key counter nonce) before t 0 (min (length before) k)) more
    (part_more (stream_byte key counter nonce) (stream_byte key (counter + m) nonce) before s t 0 (64 * m) (64 * n)
    (λ j h. stream_further key counter nonce m j)
    (subst (λ k. PartTurned (stream_byte key counter nonce) before s 0 (min (length before) k)) start P)
    (subst (λ k. PartTurned (stream_byte key (counter + m) nonce) s t k (min (length s) (k + 64 * n))) start Q))

-- all of it
pub stream_whole : (key : List ℕ) (counter : ℕ) (nonce before after : List ℕ) (n : ℕ) → length before ≤ n → PartTurned (stream_byte key counter nonce) before after 0 (min (length before) n) → Turned key counter nonce before after
stream_whole key counter nonce before after n h P = record {
  len = P.len;
  each = λ p l. let start : p - 0 ≡ p = omega arith in P.each p (omega arith) (omega arith) ∙ ap (λ q. bit_xor (get_or before p 0) (stream_byte key counter nonce q)) start;
}

-- one byte more, turned by what stands there in the stream
pub byte_more : (f : ℕ → ℕ) (before s : List ℕ) (at j b : ℕ) → at + j < length before → PartTurned f before s at (min (length before) (at + j)) → b ≡ f j → PartTurned f before (set s (at + j) (bit_xor (get_or s (at + j) 0) b)) at (min (length before) (at + (j + 1)))
byte_more f before s at j b h P e = record {
  len = length-set s (at + j) (bit_xor (get_or s (at + j) 0) b) ∙ P.len;
  each = λ p l m. go p l m (cases_lt p (at + j));
  front = λ p l. let ne : p ≢ at + j = omega arith in get_or-set_other s (at + j) p (bit_xor (get_or s (at + j) 0) b) 0 ne ∙ P.front p l;
  rest = λ p l. let n = P.len in let ne : p ≢ at + j = omega arith in get_or-set_other s (at + j) p (bit_xor (get_or s (at + j) 0) b) 0 ne ∙ P.rest p (omega arith);
}
  where
    there : get_or (set s (at + j) (bit_xor (get_or s (at + j) 0) b)) (at + j) 0 ≡ bit_xor (get_or before (at + j) 0) (f j)
    there = let n = P.len in get_or-set_same s (at + j) (bit_xor (get_or s (at + j) 0) b) 0 (omega arith) ∙ ap₂ bit_xor (P.rest (at + j) (omega arith)) e

    go : (p : ℕ) → at ≤ p → p < min (length before) (at + (j + 1)) → (p < at + j) ⊎ (at + j ≤ p) → get_or (set s (at + j) (bit_xor (get_or s (at + j) 0) b)) p 0 ≡ bit_xor (get_or before p 0) (f (p - at))
    go p l m (inl x) = let ne : p ≢ at + j = omega arith in get_or-set_other s (at + j) p (bit_xor (get_or s (at + j) 0) b) 0 ne ∙ P.each p l (omega arith)
    go p l m (inr y) =
        let here : at + j ≡ p = omega arith in
        let off : j ≡ p - at = omega arith in
        subst (λ q. get_or (set s (at + j) (bit_xor (get_or s (at + j) 0) b)) q 0 ≡ bit_xor (get_or before q 0) (f (p - at))) here (there ∙ ap (λ k. bit_xor (get_or before (at + j) 0) (f k)) off)
