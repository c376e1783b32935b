-- Preferences as the list of numbers that they stand for, and which lists can be preferences. Assumes nothing.
use Rattle.std.specs.Prelude.{◌≡◌, ℕ, cond, List, [], ◌∷◌, ◌++◌, length, take, Ok, Err, Result, ◌==◌, nat_lt}
use Rattle.words.specs.declared.cipher.Cipher.{Cipher}
use Rattle.words.specs.declared.fault.Fault.{Fault}
use Rattle.words.specs.declared.fault.Fault.TheVariants.{NoCipher, TooManyCiphers, CipherTwice}
use Rattle.words.specs.declared.preferences.Preferences.{Preferences}
use Rattle.words.specs.Choice.{most_ciphers, holds, distinct}
use Rattle.words.specs.Ciphers.{numbers}

abbrev pub listed : Preferences → List ℕ
listed p = numbers (take p.count p.ciphers)

-- a list that can be preferred or offered, or the first of its faults
abbrev pub taken : List ℕ → Result (List ℕ) Fault
taken cs =
    cond (length cs == 0) (Err NoCipher)
    (cond (nat_lt most_ciphers (length cs)) (Err TooManyCiphers)
    (cond (distinct cs) (Ok cs) (Err CipherTwice)))

-- an answer with preferences as one with their list
abbrev pub made : Result Preferences Fault → Result (List ℕ) Fault
made (Ok p) = Ok (listed p)
made (Err f) = Err f

-- whether a list has room for one cipher more and lacks it, or which fault refuses it
abbrev pub addable : List ℕ → ℕ → Result (Unit {0}) Fault
addable cs c = cond (nat_lt (length cs) most_ciphers) (cond (holds cs c) (Err CipherTwice) (Ok tt)) (Err TooManyCiphers)

-- one cipher more, at the end; what is refused leaves all as it was
abbrev pub Added : Preferences → Cipher → Result (Unit {0}) Fault → Preferences → Type 0
Added before c (Ok _) after = (addable (listed before) c.number ≡ Ok tt) × (listed after ≡ listed before ++ c.number ∷ [])
Added before c (Err f) after = (addable (listed before) c.number ≡ Err f) × (after ≡ before)
