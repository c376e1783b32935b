-- Bytes written in hex by the library's definitions, and hex read pair by pair. Assumes nothing.
use Rattle.std.proofs.Common.{◌≡◌, ℕ, zero, suc, ◌+◌, ◌*◌, ◌/◌, ◌%◌, ◌<◌, ◌≤◌, false, List, [], ◌∷◌, ◌++◌, length, drop, slice_index, slice_index_or, Option, Some, None, sym, refl, ap, ap₂, ◌∙◌, arith}
use Rattle.std.specs.Simd.{first_chunks}
use Rattle.std.specs.Fmt.{digit_glyph}
use Rattle.std.proofs.lemmas.List.{drop_more, drop_all}
use Rattle.std.proofs.lemmas.List.FromFn.{get_or-map-range_with_len}
use Rattle.hex.specs.Hex.{IsBytes, lower_digits, encode_lower, encode_with}
use Rattle.parts.specs.Lines.{hex_digits}
use Rattle.parts.specs.Hex.{digit_value, needs, pair_byte, unhexed}

-- the table has each digit at its place
glyph : (n : ℕ) → n < 16 → slice_index lower_digits n ≡ digit_glyph false n
glyph n h = get_or-map-range_with_len (digit_glyph false) 0 16 n n 0 h (omega arith)

-- bytes are encoded in digits of both halves
pub encoded : (bs : List ℕ) → IsBytes bs → encode_lower bs ≡ hex_digits bs
unfolding encode_with
encoded [] fit = refl
encoded (b ∷ bs) fit =
    let byte : b < 256 = fit 0 in
    ap₂ (λ (x y : ℕ). x ∷ (y ∷ encode_lower bs)) (glyph (b / 16) (omega arith)) (glyph (b % 16) (omega arith))
    ∙ ap (λ (l : List ℕ). digit_glyph false (b / 16) ∷ (digit_glyph false (b % 16) ∷ l)) (encoded bs (λ i. fit (suc i)))

-- the bytes of pairs behind others, pair by pair
unfoldable pub each_pair : List ℕ → List (List ℕ) → Option (List ℕ)
each_pair bs [] = Some bs
each_pair bs (p ∷ ps) = needs (pair_byte p) (λ b. each_pair (bs ++ b ∷ []) ps)

-- the next pair's byte is put behind the others, or none ends it
pub pair_next : (bs : List ℕ) (ps : List (List ℕ)) (i : ℕ) (d : List ℕ) (o : Option ℕ) → i < length ps → o ≡ pair_byte (slice_index_or ps i d) → each_pair bs (drop i ps) ≡ needs o (λ b. each_pair (bs ++ b ∷ []) (drop (i + 1) ps))
unfolding each_pair
pair_next bs ps i d o h e = ap (each_pair bs) (drop_more ps i d h) ∙ ap (λ x. needs x (λ b. each_pair (bs ++ b ∷ []) (drop (i + 1) ps))) (sym e)

-- with no pair left, all bytes are there
pub pairs_done : (bs : List ℕ) (ps : List (List ℕ)) (i : ℕ) → length ps ≤ i → each_pair bs (drop i ps) ≡ Some bs
unfolding each_pair
pairs_done bs ps i h = ap (each_pair bs) (drop_all i ps h)

-- an even number of digits is unhexed pair by pair
pub in_pairs : (n : ℕ) (bs ds : List ℕ) → length ds ≡ 2 * n → unhexed bs ds ≡ each_pair bs (first_chunks 2 n ds)
unfolding unhexed each_pair
in_pairs zero bs [] h = refl
in_pairs zero bs (a ∷ ds) h = absurd (omega (arith, h))
in_pairs (suc n) bs [] h = absurd (omega (arith, h))
in_pairs (suc n) bs (a ∷ []) h = absurd (omega (arith, h))
in_pairs (suc n) bs (a ∷ b ∷ ds) h = go (digit_value a) (digit_value b) (λ v. in_pairs n (bs ++ v ∷ []) ds (omega (arith, h))) where
  go : (x y : Option ℕ) → ((v : ℕ) → unhexed (bs ++ v ∷ []) ds ≡ each_pair (bs ++ v ∷ []) (first_chunks 2 n ds)) → needs x (λ h. needs y (λ l. unhexed (bs ++ (h * 16 + l) ∷ []) ds)) ≡ needs (needs x (λ h. needs y (λ l. Some (h * 16 + l)))) (λ b. each_pair (bs ++ b ∷ []) (first_chunks 2 n ds))
  go None y more = refl
  go (Some h) None more = refl
  go (Some h) (Some l) more = more (h * 16 + l)

-- an odd digit is left
pub odd : (bs ds : List ℕ) → length ds % 2 ≡ 1 → unhexed bs ds ≡ None
unfolding unhexed
odd bs [] h = absurd (omega arith)
odd bs (a ∷ []) h = refl
odd bs (a ∷ b ∷ rest) h = go (digit_value a) (digit_value b) (λ v. odd (bs ++ v ∷ []) rest (omega arith)) where
  go : (x y : Option ℕ) → ((v : ℕ) → unhexed (bs ++ v ∷ []) rest ≡ None) → needs x (λ high. needs y (λ low. unhexed (bs ++ (high * 16 + low) ∷ []) rest)) ≡ None
  go None y none = refl
  go (Some high) None none = refl
  go (Some high) (Some low) none = none (high * 16 + low)
