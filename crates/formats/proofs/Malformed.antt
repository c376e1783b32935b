-- Whatever reading a word refuses is malformed. Assumes nothing.
use Rattle.std.proofs.Common.{◌≡◌, ℕ, zero, suc, Bool, true, false, cond, not, eqb, ltb, leb, List, [], ◌∷◌, ◌++◌, length, take, drop, Some, None, Ok, Err, Option, Result, sym, refl, ap, ◌∙◌}
use Rattle.words.specs.declared.fault.Fault.{Fault}
use Rattle.words.specs.declared.fault.Fault.TheVariants.{UnknownKind, BadLength, NoCipher, TooManyCiphers, CipherTwice}
use Rattle.words.specs.declared.registry.Kind.{Kind}
use Rattle.words.specs.declared.registry.Kind.TheVariants.{Hello as KindHello, Reply as KindReply, End as KindEnd, Record as KindRecord, Settings as KindSettings}
use Rattle.words.specs.Bytes.{kind_of}
use Rattle.words.specs.Choice.{holds, most_ciphers}
use Rattle.words.specs.Faults.{fault_number}
use Rattle.words.specs.Numbers.{malformed}
use Rattle.words.specs.Registry.{kind_hello, kind_reply, kind_end}
use Rattle.fixed_bytes.specs.Numbers.{value}
use Rattle.protocol.specs.Words.{Hello, a_hello, a_reply, an_end}
use Rattle.formats.specs.Reading.{with, and_then, must, byte, part, number, kind, done, behind_length, more_ciphers, listing}
use Rattle.formats.specs.Decoding.{names, keys, hello_front, read_hello, answer, read_reply, lockable, read_end, read_as, read_word}
use Rattle.formats.specs.Laws.{OnlyMalformed}
use Rattle.formats.proofs.Stages.{err_ok, err_same}
use Rattle.formats.proofs.Replies.{from_nonce, from_seal, from_box, from_signature}

pub taken : {X : Type 0} (x : X) → OnlyMalformed (Ok x)
taken x f e = err_ok f x (sym e)

pub refused : {X : Type 0} (g : Fault) → fault_number g ≡ malformed → OnlyMalformed {X = X} (Err g)
refused {X = X} g one f e = ap fault_number (sym (err_same {X = X} g f e)) ∙ one

pub at_must : {X : Type 0} (b : Bool) (g : Fault) (r : Result X Fault) → fault_number g ≡ malformed → OnlyMalformed r → OnlyMalformed (must b g r)
at_must true g r one h = h
at_must false g r one h = refused g one

pub at_then : {X Y : Type 0} (r : Result X Fault) (k : X → Result Y Fault) → OnlyMalformed r → ((x : X) → OnlyMalformed (k x)) → OnlyMalformed (and_then r k)
at_then (Ok x) k h g = g x
at_then {Y = Y} (Err f) k h g = refused {X = Y} f (h f refl)

at_with : {X Y : Type 0} (f : X → Y) (r : Result X Fault) → OnlyMalformed r → OnlyMalformed (with f r)
at_with f (Ok x) h = taken (f x)
at_with {Y = Y} f (Err g) h = refused {X = Y} g (h g refl)

pub at_byte : {X : Type 0} (bs : List ℕ) (k : ℕ → List ℕ → Result X Fault) → ((b : ℕ) (rest : List ℕ) → OnlyMalformed (k b rest)) → OnlyMalformed (byte bs k)
at_byte [] k h = refused BadLength refl
at_byte (b ∷ bs) k h = h b bs

pub at_part : {X : Type 0} (n : ℕ) (bs : List ℕ) (k : List ℕ → List ℕ → Result X Fault) → ((p rest : List ℕ) → OnlyMalformed (k p rest)) → OnlyMalformed (part n bs k)
at_part {X = X} n bs k h = go (ltb (length bs) n) where
  go : (t : Bool) → OnlyMalformed {X = X} (cond t (Err BadLength) (k (take n bs) (drop n bs)))
  go true = refused BadLength refl
  go false = h (take n bs) (drop n bs)

pub at_kind : {X : Type 0} (n : ℕ) (bs : List ℕ) (k : List ℕ → Result X Fault) → ((rest : List ℕ) → OnlyMalformed (k rest)) → OnlyMalformed (kind n bs k)
at_kind n bs k h = at_byte bs (λ b rest. must (eqb b n) UnknownKind (k rest)) (λ b rest. at_must (eqb b n) UnknownKind (k rest) refl (h rest))

pub at_number : {X : Type 0} (n : ℕ) (bs : List ℕ) (k : ℕ → List ℕ → Result X Fault) → ((m : ℕ) (rest : List ℕ) → OnlyMalformed (k m rest)) → OnlyMalformed (number n bs k)
at_number n bs k h = at_part n bs (λ p rest. k (value p) rest) (λ p rest. h (value p) rest)

at_done : {X : Type 0} (bs : List ℕ) (x : X) → OnlyMalformed (done bs x)
at_done bs x = at_must (eqb (length bs) 0) BadLength (Ok x) refl (taken x)

at_behind : (n : ℕ) (bs : List ℕ) → OnlyMalformed (behind_length n bs)
at_behind n bs =
    at_kind n bs (λ rest. number 2 rest (λ len behind. must (eqb len (length behind)) BadLength (Ok behind))) (λ rest.
    at_number 2 rest (λ len behind. must (eqb len (length behind)) BadLength (Ok behind)) (λ len behind.
    at_must (eqb len (length behind)) BadLength (Ok behind) refl (taken behind)))

at_more : (n : ℕ) (cs bs : List ℕ) → OnlyMalformed (more_ciphers CipherTwice n cs bs)
unfolding more_ciphers
at_more zero cs bs = taken (cs, bs)
at_more (suc n) cs bs =
    at_byte bs (λ c rest. must (not (holds cs c)) CipherTwice (more_ciphers CipherTwice n (cs ++ c ∷ []) rest)) (λ c rest.
    at_must (not (holds cs c)) CipherTwice (more_ciphers CipherTwice n (cs ++ c ∷ []) rest) refl (at_more n (cs ++ c ∷ []) rest))

at_listing : (bs : List ℕ) → OnlyMalformed (listing TooManyCiphers CipherTwice bs)
at_listing bs =
    at_byte bs (λ n rest. must (not (eqb n 0)) NoCipher (must (leb n most_ciphers) TooManyCiphers (more_ciphers CipherTwice n [] rest))) (λ n rest.
    at_must (not (eqb n 0)) NoCipher (must (leb n most_ciphers) TooManyCiphers (more_ciphers CipherTwice n [] rest)) refl
    (at_must (leb n most_ciphers) TooManyCiphers (more_ciphers CipherTwice n [] rest) refl (at_more n [] rest)))

at_names : (bs : List ℕ) → OnlyMalformed (names bs)
at_names bs =
    at_kind kind_hello bs (λ bs. number 2 bs (λ caller bs. number 2 bs (λ called bs. Ok (caller, called, bs)))) (λ bs.
    at_number 2 bs (λ caller bs. number 2 bs (λ called bs. Ok (caller, called, bs))) (λ caller bs.
    at_number 2 bs (λ called bs. Ok (caller, called, bs)) (λ called bs. taken (caller, called, bs))))

at_keys : (bs : List ℕ) → OnlyMalformed (keys bs)
at_keys bs =
    at_part 32 bs (λ nonce bs. part 32 bs (λ half bs. Ok (nonce, half, bs))) (λ nonce bs.
    at_part 32 bs (λ half bs. Ok (nonce, half, bs)) (λ half bs. taken (nonce, half, bs)))

at_front : (bs : List ℕ) → OnlyMalformed (hello_front bs)
at_front bs =
    at_then (names bs) _ (at_names bs) (λ n.
    at_then (listing TooManyCiphers CipherTwice n.2) _ (at_listing n.2) (λ offered.
    at_then (keys offered.1) _ (at_keys offered.1) (λ k.
    taken (record { caller = n.0; called = n.1; offer = offered.0; nonce = k.0; half = k.1 }, k.2))))

at_answer : (h : Hello (List ℕ)) (bs : List ℕ) → OnlyMalformed (answer h bs)
at_answer h bs =
    at_byte bs (from_nonce h) (λ b bs.
    at_part 32 bs (from_seal h b) (λ n bs.
    at_part 32 bs (from_box h b n) (λ s bs.
    at_part 48 bs (from_signature h b n s) (λ x bs.
    at_part 64 bs (λ g bs. done bs (record { body = record { hello = h; choice = b; nonce = n; seal = s; box = x }; signature = g })) (λ g bs.
    at_done bs (record { body = record { hello = h; choice = b; nonce = n; seal = s; box = x }; signature = g }))))))

at_word : (o : Option Kind) (bs : List ℕ) → OnlyMalformed (read_as o bs)
at_word (Some KindHello) bs = at_with a_hello (read_hello bs) (at_then (hello_front bs) (λ p. done p.1 p.0) (at_front bs) (λ p. at_done p.1 p.0))
at_word (Some KindReply) bs = at_with a_reply (read_reply bs) (at_then (behind_length kind_reply bs) (λ behind. and_then (hello_front behind) (λ p. answer p.0 p.1)) (at_behind kind_reply bs) (λ behind. at_then (hello_front behind) (λ p. answer p.0 p.1) (at_front behind) (λ p. at_answer p.0 p.1)))
at_word (Some KindEnd) bs = at_with an_end (read_end bs) (at_then (behind_length kind_end bs) (λ behind. must (lockable (length behind)) BadLength (Ok behind)) (at_behind kind_end bs) (λ behind. at_must (lockable (length behind)) BadLength (Ok behind) refl (taken behind)))
at_word (Some KindRecord) bs = refused UnknownKind refl
at_word (Some KindSettings) bs = refused UnknownKind refl
at_word None bs = refused UnknownKind refl

pub all_malformed : (bs : List ℕ) → OnlyMalformed (read_word bs)
all_malformed bs = at_byte bs (λ b _. read_as (kind_of b) bs) (λ b rest. at_word (kind_of b) bs)
