-- A text cut at the first byte that stops. Assumes nothing.
use Rattle.std.proofs.Common.{◌≡◌, ℕ, suc, ◌+◌, ◌<◌, Bool, true, false, cond, not, eqb, List, [], ◌∷◌, length, Some, None, nat_lt, take, drop, refl, ap, ◌∙◌, arith}
use Rattle.std.specs.List.{position_or_len, position}
use Rattle.std.specs.Option.{unwrap_or}
use Rattle.std.proofs.lemmas.List.Sums.{prefix_len-le-length}
use Rattle.std.proofs.lemmas.Bool.{eqb-false, ltb-false}
use Rattle.script.specs.Text.{IsCut, blank, in_word, until, from, word, behind}

one_more : (n : ℕ) → 1 + n ≡ suc n
one_more n = omega arith

-- up to the place of the first byte that stops
front : (stop : ℕ → Bool) (bs : List ℕ) → take (position_or_len stop bs) bs ≡ until stop bs
unfolding until
front stop [] = refl
front stop (b ∷ bs) = by_test (stop b) (front stop bs) where
  by_test : (t : Bool) → take (position_or_len stop bs) bs ≡ until stop bs → take (cond (not t) (1 + position_or_len stop bs) 0) (b ∷ bs) ≡ cond t [] (b ∷ until stop bs)
  by_test true same = refl
  by_test false same = ap (λ n. take n (b ∷ bs)) (one_more _) ∙ ap (λ l. b ∷ l) same

-- and from there on
back : (stop : ℕ → Bool) (bs : List ℕ) → drop (position_or_len stop bs) bs ≡ from stop bs
unfolding from
back stop [] = refl
back stop (b ∷ bs) = by_test (stop b) (back stop bs) where
  by_test : (t : Bool) → drop (position_or_len stop bs) bs ≡ from stop bs → drop (cond (not t) (1 + position_or_len stop bs) 0) (b ∷ bs) ≡ cond t (b ∷ bs) (from stop bs)
  by_test true same = refl
  by_test false same = ap (λ n. drop n (b ∷ bs)) (one_more _) ∙ same

-- where no byte stops, that place is the end
or_length : (stop : ℕ → Bool) (bs : List ℕ) → unwrap_or (position stop bs) (length bs) ≡ position_or_len stop bs
or_length stop bs = by_test (nat_lt (position_or_len stop bs) (length bs)) refl where
  by_test : (t : Bool) → nat_lt (position_or_len stop bs) (length bs) ≡ t → unwrap_or (cond t (Some (position_or_len stop bs)) None) (length bs) ≡ position_or_len stop bs
  by_test true e = refl
  by_test false e = omega (arith, prefix_len-le-length (λ b. not (stop b)) bs, ltb-false _ _ e)

-- a text that is split at that place is cut
pub split : (stop : ℕ → Bool) (bs before behind : List ℕ) (n : ℕ) → n ≡ unwrap_or (position stop bs) (length bs) → before ≡ take n bs → behind ≡ drop n bs → IsCut stop bs before behind
split stop bs before behind n at first last =
    let place = at ∙ or_length stop bs in
    record {
      front_is = first ∙ (ap (λ k. take k bs) place ∙ front stop bs);
      back_is = last ∙ (ap (λ k. drop k bs) place ∙ back stop bs);
    }

-- the two parts are as long as the text
pub parts : (stop : ℕ → Bool) (bs : List ℕ) → length (until stop bs) + length (from stop bs) ≡ length bs
unfolding until from
parts stop [] = refl
parts stop (b ∷ bs) = by_test (stop b) (parts stop bs) where
  by_test : (t : Bool) → length (until stop bs) + length (from stop bs) ≡ length bs → length (cond t [] (b ∷ until stop bs)) + length (cond t (b ∷ bs) (from stop bs)) ≡ suc (length bs)
  by_test true h = omega arith
  by_test false h = omega arith

-- what follows a word is shorter than what it stood in
pub shorter : (bs : List ℕ) → eqb (length (word bs)) 0 ≡ false → length (behind bs) < length bs
shorter bs some =
    let text = from in_word bs in
    omega (arith, parts in_word bs, parts blank text, eqb-false (length (word bs)) 0 some)
