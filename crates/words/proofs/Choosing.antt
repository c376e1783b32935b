-- How a choice is found step by step, and what it is. Assumes nothing.
use Rattle.std.proofs.Common.{◌≡◌, ℕ, zero, suc, ◌<◌, true, false, eqb, List, [], ◌∷◌, length, get_or, Some, None, Option, sym, refl, ap, ◌∙◌, subst, ⊎_elim, arith}
use Rattle.std.proofs.lemmas.Bool.{cond_both, cond-true, cond-false, or_cases, eqb-true, both_ways, ne_eqb, eq-eqb, or_left, or_right, or_from}
use Rattle.words.specs.declared.cipher.Cipher.{Cipher}
use Rattle.words.specs.Best.{Best}
use Rattle.words.specs.Choice.{holds, choose}
use Rattle.words.specs.Ciphers.{numbers, number_of}
use Rattle.words.specs.Search.{at, NoneOffered, Searched}

-- a cipher is held if it stands at some place, and not if it stands at none
held : (offered : List Cipher) (c : Cipher) (m : ℕ) → m < length offered → at offered m ≡ c → holds (numbers offered) c.number ≡ true
unfolding holds
held [] c m h is = absurd (omega arith)
held (o ∷ os) c zero h is = or_left _ _ (eq-eqb _ _ (ap (λ x. x.number) is))
held (o ∷ os) c (suc m) h is = or_right (eqb o.number c.number) _ (held os c m (omega arith) is)

not_held : (offered : List Cipher) (c : Cipher) → ((m : ℕ) → m < length offered → c ≡ at offered m → ⊥) → holds (numbers offered) c.number ≡ false
unfolding holds
not_held [] c out = refl
not_held (o ∷ os) c out = or_from _ _ (ne_eqb _ _ (λ e. out 0 (omega arith) (ap (λ n. record { number = n }) (sym e)))) (not_held os c (λ m h e. out (suc m) (omega arith) e))

-- nothing is chosen where none of the ranked is offered
chosen_none : (ranked offered : List Cipher) → NoneOffered ranked (length ranked) offered → choose (numbers ranked) (numbers offered) ≡ None
unfolding choose
chosen_none [] offered out = refl
chosen_none (c ∷ cs) offered out = cond-false _ _ _ (not_held offered c (λ m h e. out 0 m (omega arith) h e)) ∙ chosen_none cs offered (λ k m h. out (suc k) m (omega arith))

-- the first of the ranked that is offered is chosen
chosen_first : (ranked offered : List Cipher) (c : Cipher) (i : ℕ) → i < length ranked → at ranked i ≡ c → holds (numbers offered) c.number ≡ true → NoneOffered ranked i offered → choose (numbers ranked) (numbers offered) ≡ Some c.number
unfolding choose
chosen_first [] offered c i h is in' out = absurd (omega arith)
chosen_first (p ∷ ps) offered c zero h is in' out = cond-true _ _ _ (ap (λ x. holds (numbers offered) x.number) is ∙ in') ∙ ap (λ x. Some x.number) is
chosen_first (p ∷ ps) offered c (suc i) h is in' out = cond-false _ _ _ (not_held offered p (λ m l e. out 0 m (omega arith) l e)) ∙ chosen_first ps offered c i (omega arith) is in' (λ k m l. out (suc k) m (omega arith))

searched : (ranked offered : List Cipher) (r : Option Cipher) → Searched ranked offered r → number_of r ≡ choose (numbers ranked) (numbers offered)
searched ranked offered None h = sym (chosen_none ranked offered h)
searched ranked offered (Some c) h = sym (chosen_first ranked offered c h.place h.within h.stands (held offered c h.where_offered h.among h.is_offered) h.none_before)

-- one more preference in front that isn't offered
best_on : (p : ℕ) (ps offer : List ℕ) → holds offer p ≡ false → (o : Option ℕ) → Best ps offer o → Best (p ∷ ps) offer o
unfolding holds
best_on p ps offer out None none = λ c here there. ⊎_elim
    (λ is. both_ways (holds offer p) out (ap (holds offer) (eqb-true p c is) ∙ there))
    (λ later. none c later there)
    (or_cases (eqb p c) (holds ps c) here)
best_on p ps offer out (Some c) b = record {
  place = suc b.place;
  within = omega (arith, b.within);
  stands = b.stands;
  is_offered = b.is_offered;
  none_before = before;
} where
  before : (k : ℕ) → k < suc b.place → holds offer (get_or (p ∷ ps) k 0) ≡ false
  before zero h = out
  before (suc k) h = b.none_before k (omega arith)

-- the choice is the best common cipher
pub best : (ps offer : List ℕ) → Best ps offer (choose ps offer)
unfolding choose holds
best [] offer = λ c here there. both_ways false refl here
best (p ∷ ps) offer = cond_both (holds offer p) (Some p) (choose ps offer) (Best (p ∷ ps) offer)
    (λ in'. record { place = 0; within = omega arith; stands = refl; is_offered = in'; none_before = λ k h. absurd (omega arith) })
    (λ out. best_on p ps offer out (choose ps offer) (best ps offer))

-- what is found in the slices is the answer of the lists that they stand for
pub answered : (ranked offered : List Cipher) (ps os : List ℕ) (found : Option Cipher) → numbers ranked ≡ ps → numbers offered ≡ os → Searched ranked offered found → (number_of found ≡ choose ps os) × Best ps os (number_of found)
answered ranked offered ps os found p o is =
    let same : number_of found ≡ choose ps os = searched ranked offered found is ∙ ap (λ l. choose l (numbers offered)) p ∙ ap (choose ps) o in
    (same, subst (Best ps os) (sym same) (best ps os))
