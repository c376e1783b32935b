-- Ciphers read one by one up to the line's end. Assumes nothing.
use Rattle.std.proofs.Common.{◌≡◌, ℕ, zero, suc, ◌-◌, ◌<◌, ◌≤◌, Bool, true, false, cond, eqb, List, [], ◌∷◌, ◌++◌, length, Option, Some, None, Ok, Err, Result, sym, refl, ap, ◌∙◌, arith}
use Rattle.std.proofs.lemmas.List.{length_push}
use Rattle.std.proofs.lemmas.Bool.{cond-true, cond-false, lt-ltb, le-ltb}
use Rattle.words.specs.Choice.{holds, most_ciphers}
use Rattle.script.specs.declared.expected.Expected.{Expected}
use Rattle.script.specs.declared.expected.Expected.TheVariants.{NumberOfCipher, AtMostSixteen, NoneTwice}
use Rattle.script.specs.Lines.{needs, more_ciphers, one_more}
use Rattle.script.specs.Text.{word, behind, decimal}

-- the line ends
pub done : (room : ℕ) (cs bs : List ℕ) → eqb (length (word bs)) 0 ≡ true → more_ciphers room cs bs ≡ Ok cs
unfolding more_ciphers
done zero cs bs h = cond-true _ _ _ h
done (suc room) cs bs h = cond-true _ _ _ h

-- a word that is a number, and one that is none
is_number : (o : Option ℕ) (c : ℕ) → Ok c ≡ needs o NumberOfCipher Ok → o ≡ Some c
is_number None c h = grind arith
is_number (Some n) c h = grind arith

lacks : (o : Option ℕ) (e : Expected) → Err e ≡ needs o NumberOfCipher Ok → (o ≡ None) × (e ≡ NumberOfCipher)
lacks None e h = (refl, grind arith)
lacks (Some n) e h = absurd (grind arith)

pub no_number : (room : ℕ) (cs bs : List ℕ) (e : Expected) → eqb (length (word bs)) 0 ≡ false → Err e ≡ needs (decimal (word bs)) NumberOfCipher Ok → more_ciphers room cs bs ≡ Err e
unfolding more_ciphers
no_number zero cs bs e h lacking =
    let is = lacks _ e lacking in
    cond-false _ _ _ h ∙ ap (λ o. needs o NumberOfCipher (λ c. Err AtMostSixteen)) is.0 ∙ ap Err (sym is.1)
no_number (suc room) cs bs e h lacking =
    let is = lacks _ e lacking in
    cond-false _ _ _ h ∙ ap (λ o. needs o NumberOfCipher (λ c. cond (holds cs c) (Err NoneTwice) (more_ciphers room (cs ++ c ∷ []) (behind bs)))) is.0 ∙ ap Err (sym is.1)

-- what is read, handed on
abbrev then : Result (List ℕ) Expected → (List ℕ → Result (List ℕ) Expected) → Result (List ℕ) Expected
then (Ok x) k = k x
then (Err e) k = Err e

-- a cipher is read
one_read : (room : ℕ) (cs bs : List ℕ) (c : ℕ) → room ≡ most_ciphers - length cs → eqb (length (word bs)) 0 ≡ false → decimal (word bs) ≡ Some c → more_ciphers room cs bs ≡ then (one_more cs c) (λ ds. more_ciphers (most_ciphers - length ds) ds (behind bs))
unfolding more_ciphers
one_read zero cs bs c left h is =
    let full : most_ciphers ≤ length cs = omega arith in
    cond-false _ _ _ h ∙ (ap (λ o. needs o NumberOfCipher (λ c. Err AtMostSixteen)) is
    ∙ ap (λ r. then r (λ ds. more_ciphers (most_ciphers - length ds) ds (behind bs))) (sym (cond-false _ _ _ (le-ltb (length cs) 16 full))))
one_read (suc room) cs bs c left h is =
    let few : length cs < most_ciphers = omega arith in
    cond-false _ _ _ h ∙ (ap (λ o. needs o NumberOfCipher (λ c. cond (holds cs c) (Err NoneTwice) (more_ciphers room (cs ++ c ∷ []) (behind bs)))) is
    ∙ (by_test (holds cs c) (omega (arith, length_push cs c))
    ∙ ap (λ r. then r (λ ds. more_ciphers (most_ciphers - length ds) ds (behind bs))) (sym (cond-true _ _ _ (lt-ltb (length cs) 16 few)))))
  where
    by_test : (there : Bool) → room ≡ most_ciphers - length (cs ++ c ∷ []) → cond there (Err NoneTwice) (more_ciphers room (cs ++ c ∷ []) (behind bs)) ≡ then (cond there (Err NoneTwice) (Ok (cs ++ c ∷ []))) (λ ds. more_ciphers (most_ciphers - length ds) ds (behind bs))
    by_test true same = refl
    by_test false same = ap (λ n. more_ciphers n (cs ++ c ∷ []) (behind bs)) same

pub refused : (cs bs : List ℕ) (c : ℕ) (e : Expected) → eqb (length (word bs)) 0 ≡ false → Ok c ≡ needs (decimal (word bs)) NumberOfCipher Ok → one_more cs c ≡ Err e → more_ciphers (most_ciphers - length cs) cs bs ≡ Err e
refused cs bs c e h is bad = one_read _ cs bs c refl h (is_number _ c is) ∙ ap (λ r. then r (λ ds. more_ciphers (most_ciphers - length ds) ds (behind bs))) bad

pub added : (cs ds bs rest : List ℕ) (c : ℕ) → eqb (length (word bs)) 0 ≡ false → Ok c ≡ needs (decimal (word bs)) NumberOfCipher Ok → one_more cs c ≡ Ok ds → rest ≡ behind bs → more_ciphers (most_ciphers - length ds) ds rest ≡ more_ciphers (most_ciphers - length cs) cs bs
added cs ds bs rest c h is good on = ap (more_ciphers (most_ciphers - length ds) ds) on ∙ sym (one_read _ cs bs c refl h (is_number _ c is) ∙ ap (λ r. then r (λ ds. more_ciphers (most_ciphers - length ds) ds (behind bs))) good)
