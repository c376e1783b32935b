-- A number read digit by digit. Assumes nothing.
use Rattle.std.proofs.Common.{◌≡◌, ℕ, ◌+◌, ◌<◌, ◌≤◌, List, length, get_or, drop, Some, None, sym, ap, ◌∙◌}
use Rattle.std.proofs.lemmas.List.{at_drop_more, at_drop_all}
use Rattle.script.specs.Text.{with_digit, with_digits, and_then}

-- one digit on
pub goes_on : (n m : ℕ) (ds : List ℕ) (i : ℕ) → i < length ds → Some m ≡ with_digit n (get_or ds i 0) → with_digits n (drop i ds) ≡ with_digits m (drop (i + 1) ds)
unfolding with_digits
goes_on n m ds i h is = at_drop_more (with_digits n) ds i 0 h ∙ ap (λ o. and_then o (λ k. with_digits k (drop (i + 1) ds))) (sym is)

-- a byte that is no digit, or one too many
pub stops : (n : ℕ) (ds : List ℕ) (i : ℕ) → i < length ds → None ≡ with_digit n (get_or ds i 0) → with_digits n (drop i ds) ≡ None
unfolding with_digits
stops n ds i h is = at_drop_more (with_digits n) ds i 0 h ∙ ap (λ o. and_then o (λ k. with_digits k (drop (i + 1) ds))) (sym is)

pub ends : (n : ℕ) (ds : List ℕ) (i : ℕ) → length ds ≤ i → with_digits n (drop i ds) ≡ Some n
unfolding with_digits
ends n ds i h = at_drop_all (with_digits n) ds i h
