-- What doesn't matter on a line, and the latest preferences. Assumes nothing.
use Rattle.std.proofs.Common.{◌≡◌, ℕ, ◌<◌, Bool, true, false, cond, eqb, List, [], ◌∷◌, ◌++◌, get_or, set, Some, None, sym, refl, ap, ◌∙◌, subst, arith, length-set}
use Rattle.std.proofs.lemmas.List.{get_or-set_same, get_or-set_other}
use Rattle.std.proofs.lemmas.Bool.{cond-true, cond-false, eqb-true, eqb-false, not_from_true}
use Rattle.std.proofs.lemmas.Bool.Decides.{nat_tests}
use Rattle.script.specs.Laws.{Ignored, LatestHold, latest}
use Rattle.script.specs.Lines.{nothing, wishes, calls, first_word}
use Rattle.script.specs.Text.{blank, hash, in_word, until, from, uncommented, word, behind}

cut_again : (bs more : List ℕ) (h : ℕ) → hash h ≡ true → uncommented (uncommented bs ++ h ∷ more) ≡ uncommented bs
unfolding until
cut_again [] more h is = cond-true _ _ _ is
cut_again (b ∷ bs) more h is = by_test (hash b) refl (cut_again bs more h is) where
  by_test : (t : Bool) → hash b ≡ t → uncommented (uncommented bs ++ h ∷ more) ≡ uncommented bs → uncommented (cond t [] (b ∷ uncommented bs) ++ h ∷ more) ≡ cond t [] (b ∷ uncommented bs)
  by_test true e same = cond-true _ _ _ is
  by_test false e same = cond-false _ _ _ e ∙ ap (λ l. b ∷ l) same

-- a blank is no comment
blank_no_hash : (b : ℕ) → blank b ≡ true → hash b ≡ false
blank_no_hash b h = grind (arith, nat_tests)

-- a blank in front of the first word is skipped
skipped : (bs : List ℕ) (b : ℕ) → blank b ≡ true → from in_word (uncommented (b ∷ bs)) ≡ from in_word (uncommented bs)
unfolding until from
skipped bs b is = ap (from in_word) (cond-false _ _ _ (blank_no_hash b is)) ∙ cond-false _ _ _ (not_from_true _ is)

pub ignored : Ignored
ignored = record {
  comments = λ bs more h is. ap (λ u. first_word (word u) (behind u)) (cut_again bs more h is);
  blanks = λ bs b is. ap (λ t. first_word (until blank t) (from blank t)) (skipped bs b is);
}

pub latest_hold : LatestHold
latest_hold sides [] n h = refl
latest_hold sides (nothing ∷ ls) n h = latest_hold sides ls n h
latest_hold sides (wishes m cs ∷ ls) n h = latest_hold (set sides m (Some cs)) ls n (subst (λ k. n < k) (sym (length-set sides m (Some cs))) h) ∙ ap (λ o. latest n o ls) (one_set (eqb m n) refl)
  where
    one_set : (t : Bool) → eqb m n ≡ t → get_or (set sides m (Some cs)) n None ≡ cond t (Some cs) (get_or sides n None)
    one_set true e = let same = eqb-true m n e in ap (λ k. get_or (set sides k (Some cs)) n None) same ∙ get_or-set_same sides n (Some cs) None h
    one_set false e = get_or-set_other sides m n (Some cs) None (λ k. eqb-false m n e (sym k))
latest_hold sides (calls a b ∷ ls) n h = latest_hold sides ls n h
