-- Bytes read from front to back, up to the first fault. Assumes nothing.
use Rattle.std.specs.Prelude.{ℕ, zero, suc, Bool, cond, not, List, [], ◌∷◌, ◌++◌, length, take, drop, Ok, Err, Result, ◌==◌, nat_le, nat_lt}
use Rattle.fixed_bytes.specs.Numbers.{value}
use Rattle.words.specs.declared.fault.Fault.{Fault}
use Rattle.words.specs.declared.fault.Fault.TheVariants.{UnknownKind, BadLength, NoCipher}
use Rattle.words.specs.Choice.{holds, most_ciphers}

-- an answer with another value
abbrev pub with : {X Y : Type 0} → (X → Y) → Result X Fault → Result Y Fault
with f (Ok x) = Ok (f x)
with f (Err e) = Err e

-- what is read, without what follows it
abbrev pub alone : {X : Type 0} → Result (X × List ℕ) Fault → Result X Fault
alone r = with (λ p. p.0) r

-- what is read goes on, and the first fault is the answer
abbrev pub and_then : {X Y : Type 0} → Result X Fault → (X → Result Y Fault) → Result Y Fault
and_then (Ok x) k = k x
and_then (Err f) k = Err f

-- refused with a fault unless a test passes
abbrev pub must : {X : Type 0} → Bool → Fault → Result X Fault → Result X Fault
must test fault rest = cond test rest (Err fault)

-- the first byte, and what follows it
abbrev pub byte : {X : Type 0} → List ℕ → (ℕ → List ℕ → Result X Fault) → Result X Fault
byte [] k = Err BadLength
byte (b ∷ bs) k = k b bs

-- the first n bytes, and what follows them
abbrev pub part : {X : Type 0} → ℕ → List ℕ → (List ℕ → List ℕ → Result X Fault) → Result X Fault
part n bs k = cond (nat_lt (length bs) n) (Err BadLength) (k (take n bs) (drop n bs))

-- a number of n bytes, and what follows it
abbrev pub number : {X : Type 0} → ℕ → List ℕ → (ℕ → List ℕ → Result X Fault) → Result X Fault
number n bs k = part n bs (λ p rest. k (value p) rest)

-- the first byte must be this one
abbrev pub kind : {X : Type 0} → ℕ → List ℕ → (List ℕ → Result X Fault) → Result X Fault
kind n bs k = byte bs (λ b rest. must (b == n) UnknownKind (k rest))

-- what follows a kind
abbrev pub behind_kind : ℕ → List ℕ → Result (List ℕ) Fault
behind_kind n bs = kind n bs (λ rest. Ok rest)

-- nothing may follow
abbrev pub done : {X : Type 0} → List ℕ → X → Result X Fault
done bs x = must (length bs == 0) BadLength (Ok x)

-- what follows a kind and the length of all that follows, in two bytes
abbrev pub behind_length : ℕ → List ℕ → Result (List ℕ) Fault
behind_length n bs = kind n bs (λ rest. number 2 rest (λ len behind. must (len == length behind) BadLength (Ok behind)))

-- so many ciphers behind those that are read, each refused at its byte if it was there before; and what follows them
unfoldable pub more_ciphers : Fault → ℕ → List ℕ → List ℕ → Result (List ℕ × List ℕ) Fault
more_ciphers twice zero cs bs = Ok (cs, bs)
more_ciphers twice (suc n) cs bs = byte bs (λ c rest. must (not (holds cs c)) twice (more_ciphers twice n (cs ++ c ∷ []) rest))

-- 1 to 16 ciphers behind their count, none twice, and what follows them; too many and one twice are faults of their own
abbrev pub listing : Fault → Fault → List ℕ → Result (List ℕ × List ℕ) Fault
listing many twice bs = byte bs (λ n rest. must (not (n == 0)) NoCipher (must (nat_le n most_ciphers) many (more_ciphers twice n [] rest)))
