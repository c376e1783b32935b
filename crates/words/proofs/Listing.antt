-- Lists of ciphers that grow at their end: what is taken, and which fault refuses them. Assumes nothing.
use Rattle.std.proofs.Common.{◌≡◌, ℕ, ◌+◌, ◌<◌, ◌≤◌, Bool, true, false, cond, not, ◌&&◌, ◌||◌, nat_eq, eqb, ltb, leb, List, [], ◌∷◌, ◌++◌, length, get_or, take, drop, set, is_ok, Ok, Err, Result, sym, refl, ap, ◌∙◌, subst, ⊎_elim, append_assoc, arith, length-append}
use lib.ListN.{length-map}
use Rattle.std.specs.List.{list_any}
use Rattle.std.proofs.lemmas.Bool.Decides.{nat_tests}
use Rattle.std.proofs.lemmas.List.{drop_more, length_push, length-take-le, take_more_set, map_push}
use Rattle.std.proofs.lemmas.Bool.{both_ways, cases_Bool, cond-true, cond-false, or_cases, or_parts, or_from, or_left, or_right, and_parts, and_from, and_left, and_right, and_cases, not_from_true, not_from_false, not-true, not-false, eqb-true, eq-eqb, ne_eqb, eqb-false, leb-true, le-leb, le-ltb, lt-ltb, ltb-true, ltb-false}
use Rattle.words.specs.declared.cipher.Cipher.{Cipher}
use Rattle.words.specs.declared.fault.Fault.{Fault}
use Rattle.words.specs.declared.fault.Fault.TheVariants.{NoCipher, TooManyCiphers, CipherTwice}
use Rattle.words.specs.declared.preferences.Preferences.{Preferences}
use Rattle.words.specs.Choice.{most_ciphers, holds, distinct, proper}
use Rattle.words.specs.Ciphers.{numbers}
use Rattle.words.specs.Listed.{taken, made, addable}

-- what the search of a slice says is what the list of numbers holds
pub contained : (cs : List Cipher) (c : Cipher) → list_any (λ y. nat_eq y.number c.number) cs ≡ holds (numbers cs) c.number
unfolding holds
contained [] c = refl
contained (x ∷ cs) c = ap (λ b. eqb x.number c.number || b) (contained cs c)

pub one_distinct : (c : ℕ) → distinct (c ∷ []) ≡ true
unfolding distinct holds
one_distinct c = refl

holds_append : (xs ys : List ℕ) (c : ℕ) → holds xs c ≡ true → holds (xs ++ ys) c ≡ true
unfolding holds
holds_append [] ys c h = absurd (both_ways false refl h)
holds_append (x ∷ xs) ys c h = ⊎_elim (λ e. or_left _ _ e) (λ e. or_right (eqb x c) _ (holds_append xs ys c e)) (or_cases (eqb x c) (holds xs c) h)

holds_at : (xs ys : List ℕ) (c : ℕ) → holds (xs ++ c ∷ ys) c ≡ true
unfolding holds
holds_at [] ys c = or_left _ _ (eq-eqb c c refl)
holds_at (x ∷ xs) ys c = or_right (eqb x c) _ (holds_at xs ys c)

-- one that stands before is there twice
pub distinct_again : (xs ys : List ℕ) (c : ℕ) → holds xs c ≡ true → distinct (xs ++ c ∷ ys) ≡ false
unfolding holds distinct
distinct_again [] ys c h = absurd (both_ways false refl h)
distinct_again (x ∷ xs) ys c h = ⊎_elim
    (λ e. and_left _ _ (not_from_true _ (ap (holds (xs ++ c ∷ ys)) (eqb-true x c e) ∙ holds_at xs ys c)))
    (λ e. and_right (not (holds (xs ++ c ∷ ys) x)) _ (distinct_again xs ys c e))
    (or_cases (eqb x c) (holds xs c) h)

-- a list whose front has one twice has it twice
pub distinct_front : (xs ys : List ℕ) → distinct xs ≡ false → distinct (xs ++ ys) ≡ false
unfolding holds distinct
distinct_front [] ys h = absurd (both_ways true h refl)
distinct_front (x ∷ xs) ys h = ⊎_elim
    (λ e. and_left _ _ (not_from_true _ (holds_append xs ys x (not-false _ e))))
    (λ e. and_right (not (holds (xs ++ ys) x)) _ (distinct_front xs ys e))
    (and_cases (not (holds xs x)) (distinct xs) h)

-- another one at the end of those is not among them
other_at_end : (xs : List ℕ) (x c : ℕ) → holds xs x ≡ false → (x ≡ c → ⊥) → holds (xs ++ c ∷ []) x ≡ false
unfolding holds
other_at_end [] x c h ne = or_from _ _ (ne_eqb c x (λ e. ne (sym e))) refl
other_at_end (y ∷ xs) x c h ne = let p = or_parts (eqb y x) (holds xs x) h in or_from _ _ p.0 (other_at_end xs x c p.1 ne)

pub distinct_push : (xs : List ℕ) (c : ℕ) → distinct xs ≡ true → holds xs c ≡ false → distinct (xs ++ c ∷ []) ≡ true
unfolding holds distinct
distinct_push [] c d h = refl
distinct_push (x ∷ xs) c d h =
    let p = and_parts (not (holds xs x)) (distinct xs) d in
    let q = or_parts (eqb x c) (holds xs c) h in
    and_from _ _ (not_from_false _ (other_at_end xs x c (not-true _ p.0) (eqb-false x c q.0))) (distinct_push xs c p.1 q.1)

-- which lists are taken
taken_many : (cs : List ℕ) → most_ciphers < length cs → taken cs ≡ Err TooManyCiphers
taken_many cs h = cond-false _ _ _ (ne_eqb (length cs) 0 (λ e. omega arith)) ∙ cond-true _ _ _ (lt-ltb 16 _ h)

taken_twice : (cs : List ℕ) → 0 < length cs → length cs ≤ most_ciphers → distinct cs ≡ false → taken cs ≡ Err CipherTwice
taken_twice cs some few d = cond-false _ _ _ (ne_eqb (length cs) 0 (λ e. omega arith)) ∙ (cond-false _ _ _ (le-ltb 16 _ few) ∙ cond-false _ _ _ d)

taken_good : (cs : List ℕ) → 0 < length cs → length cs ≤ most_ciphers → distinct cs ≡ true → taken cs ≡ Ok cs
taken_good cs some few d = cond-false _ _ _ (ne_eqb (length cs) 0 (λ e. omega arith)) ∙ (cond-false _ _ _ (le-ltb 16 _ few) ∙ cond-true _ _ _ d)

-- the parts of a proper list
pub record Proper (cs : List ℕ) : Type 0 where
  pub some : 0 < length cs
  pub few : length cs ≤ most_ciphers
  pub apart : distinct cs ≡ true

pub proper_parts : (cs : List ℕ) → proper cs ≡ true → Proper cs
proper_parts cs h =
    let p = and_parts (leb 1 (length cs) && leb (length cs) most_ciphers) (distinct cs) h in
    let q = and_parts (leb 1 (length cs)) (leb (length cs) most_ciphers) p.0 in
    record { some = leb-true 1 _ q.0; few = leb-true _ 16 q.1; apart = p.1 }

pub proper_from : (cs : List ℕ) → Proper cs → proper cs ≡ true
proper_from cs h = and_from _ _ (and_from _ _ (le-leb 1 _ h.some) (le-leb _ 16 h.few)) h.apart

-- a list is taken exactly if it is proper
taken_exactly : (cs : List ℕ) → is_ok (taken cs) ≡ proper cs
taken_exactly cs = by_tests (length cs) (distinct cs) where
  by_tests : (n : ℕ) (d : Bool) → is_ok {E = Fault} (cond (eqb n 0) (Err NoCipher) (cond (ltb most_ciphers n) (Err TooManyCiphers) (cond d (Ok cs) (Err CipherTwice)))) ≡ (leb 1 n && leb n most_ciphers && d)
  by_tests n d = grind (arith, nat_tests)

-- one more at the end
full : (cs : List ℕ) (c : ℕ) → ltb (length cs) most_ciphers ≡ false → taken (cs ++ c ∷ []) ≡ Err TooManyCiphers
full cs c h = taken_many (cs ++ c ∷ []) (omega (arith, ltb-false _ 16 h, length_push cs c))

again : (cs : List ℕ) (c : ℕ) → ltb (length cs) most_ciphers ≡ true → holds cs c ≡ true → taken (cs ++ c ∷ []) ≡ Err CipherTwice
again cs c room h = taken_twice (cs ++ c ∷ []) (omega (arith, length_push cs c)) (omega (arith, ltb-true _ 16 room, length_push cs c)) (distinct_again cs [] c h)

grown : (cs : List ℕ) (c : ℕ) → ltb (length cs) most_ciphers ≡ true → proper cs ≡ true → holds cs c ≡ false → proper (cs ++ c ∷ []) ≡ true
grown cs c room h out = proper_from (cs ++ c ∷ []) (record {
  some = omega (arith, length_push cs c);
  few = omega (arith, ltb-true _ 16 room, length_push cs c);
  apart = distinct_push cs c (proper_parts cs h).apart out;
})

-- a fault of the front is the list's, unless it is too long
refused_front : (cs ds : List ℕ) (f : Fault) → 0 < length cs → length (cs ++ ds) ≤ most_ciphers → taken cs ≡ Err f → taken (cs ++ ds) ≡ Err f
refused_front cs ds f some few h =
    let long = length-append cs ds in
    let short : length cs ≤ most_ciphers = omega arith in
    ⊎_elim
    (λ d. let good = taken_good cs some short d in let z : ◌≡◌ {A = ℕ} 0 1 = cc in absurd (omega arith))
    (λ d. taken_twice (cs ++ ds) (omega arith) few (distinct_front cs ds d) ∙ sym (taken_twice cs some short d) ∙ h)
    (cases_Bool (distinct cs))

-- what can be added has room and is not there
addable_parts : (cs : List ℕ) (c : ℕ) → addable cs c ≡ Ok tt → (ltb (length cs) most_ciphers ≡ true) × (holds cs c ≡ false)
addable_parts cs c h = by_tests (ltb (length cs) most_ciphers) (holds cs c) h where
  by_tests : (room there : Bool) → ◌≡◌ {A = Result (Unit {0}) Fault} (cond room (cond there (Err CipherTwice) (Ok tt)) (Err TooManyCiphers)) (Ok tt) → (room ≡ true) × (there ≡ false)
  by_tests true true h = let z : ◌≡◌ {A = ℕ} 0 1 = cc in absurd (omega arith)
  by_tests true false h = (refl, refl)
  by_tests false there h = let z : ◌≡◌ {A = ℕ} 0 1 = cc in absurd (omega arith)

-- what can't be added refuses the longer list
refuses : (cs : List ℕ) (c : ℕ) (f : Fault) → addable cs c ≡ Err f → taken (cs ++ c ∷ []) ≡ Err f
refuses cs c f h = by_tests (ltb (length cs) most_ciphers) (holds cs c) refl refl h where
  by_tests : (room there : Bool) → ltb (length cs) most_ciphers ≡ room → holds cs c ≡ there → ◌≡◌ {A = Result (Unit {0}) Fault} (cond room (cond there (Err CipherTwice) (Ok tt)) (Err TooManyCiphers)) (Err f) → taken (cs ++ c ∷ []) ≡ Err f
  by_tests true true r t h = again cs c r t ∙ ap Err same where
    same : CipherTwice ≡ f
    same = cc
  by_tests true false r t h = let z : ◌≡◌ {A = ℕ} 0 1 = cc in absurd (omega arith)
  by_tests false there r t h = full cs c r ∙ ap Err same where
    same : TooManyCiphers ≡ f
    same = cc

-- the first n of an array, and one more stored behind them
module _ (cs : List Cipher) (n : ℕ) (c : Cipher) where
  pub counted : n ≤ length cs → length (numbers (take n cs)) ≡ n
  counted h = length-map (take n cs) (λ x. x.number) ∙ length-take-le n cs h

  pub stored : n < length cs → numbers (take (n + 1) (set cs n c)) ≡ numbers (take n cs) ++ c.number ∷ []
  stored h = ap numbers (take_more_set cs n c h) ∙ map_push (λ x. x.number) (take n cs) c

  pub has_room : length cs ≡ most_ciphers → n ≤ most_ciphers → addable (numbers (take n cs)) c.number ≡ Ok tt → n < length cs
  has_room long few h = omega (arith, counted (omega arith), ltb-true (length (numbers (take n cs))) 16 (addable_parts (numbers (take n cs)) c.number h).0)

  pub grown_array : n < length cs → proper (numbers (take n cs)) ≡ true → addable (numbers (take n cs)) c.number ≡ Ok tt → proper (numbers (take (n + 1) (set cs n c))) ≡ true
  grown_array h sound can = let p = addable_parts (numbers (take n cs)) c.number can in ap proper (stored h) ∙ grown _ _ p.0 sound p.1

-- an answer that is the list's is Ok exactly if the list is proper
pub told : (cs : List ℕ) (r : Result Preferences Fault) → made r ≡ taken cs → is_ok r ≡ proper cs
told cs (Ok p) h = ap is_ok h ∙ taken_exactly cs
told cs (Err f) h = ap is_ok h ∙ taken_exactly cs

goes_on : (sofar : List ℕ) (rest : List Cipher) (i : ℕ) (d : Cipher) → i < length rest → sofar ++ numbers (drop i rest) ≡ (sofar ++ (get_or rest i d).number ∷ []) ++ numbers (drop (i + 1) rest)
goes_on sofar rest i d h = ap (λ l. sofar ++ numbers l) (drop_more rest i d h) ∙ sym (append_assoc sofar ((get_or rest i d).number ∷ []) (numbers (drop (i + 1) rest)))

-- a cipher that can't be added is a fault of the whole list
pub stops : (sofar all : List ℕ) (rest : List Cipher) (i : ℕ) (d : Cipher) (f : Fault) → i < length rest → sofar ++ numbers (drop i rest) ≡ all → length all ≤ most_ciphers → addable sofar (get_or rest i d).number ≡ Err f → taken all ≡ Err f
stops sofar all rest i d f h is few bad =
    let whole = sym (goes_on sofar rest i d h) ∙ is in
    ap taken (sym whole) ∙ refused_front (sofar ++ (get_or rest i d).number ∷ []) (numbers (drop (i + 1) rest)) f (omega (arith, length_push sofar (get_or rest i d).number)) (subst (λ l. length l ≤ most_ciphers) (sym whole) few) (refuses sofar (get_or rest i d).number f bad)
