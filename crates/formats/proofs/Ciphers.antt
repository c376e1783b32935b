-- How a list of ciphers is read byte by byte. Assumes nothing.
use Rattle.std.proofs.Common.{◌≡◌, ℕ, zero, suc, ◌+◌, ◌-◌, ◌<◌, ◌≤◌, Bool, true, false, cond, not, eqb, leb, List, [], ◌∷◌, ◌++◌, length, take, drop, Ok, Err, Result, sym, refl, ap, ◌∙◌, ap₂, append_assoc, arith, length-append}
use Rattle.std.proofs.lemmas.List.{nil_from_length, append-nil, take-append-drop, length-take-le, take_at, drop_at}
use Rattle.std.proofs.lemmas.Bool.{both_ways, lt-ltb, not-true, not_from_false, ne_eqb, eqb-false, leb-true, le-leb}
use Rattle.words.specs.declared.cipher.Cipher.{Cipher}
use Rattle.words.specs.declared.fault.Fault.{Fault}
use Rattle.words.specs.declared.fault.Fault.TheVariants.{BadLength, NoCipher, TooManyCiphers, CipherTwice}
use Rattle.words.specs.declared.preferences.Preferences.{Preferences}
use Rattle.words.specs.Choice.{holds, distinct, proper, most_ciphers}
use Rattle.words.specs.Listed.{listed, Added}
use Rattle.formats.specs.Reading.{alone, must, more_ciphers, listing}
use Rattle.words.proofs.Listing.{distinct_again, distinct_push, proper_parts, proper_from}
use Rattle.formats.proofs.Stages.{err_ok, ok_same, not_alone, must_true, by_must, by_byte}

-- one cipher after another
one_more : (twice : Fault) (n : ℕ) (cs : List ℕ) (c : ℕ) (rest : List ℕ) → more_ciphers twice (suc n) cs (c ∷ rest) ≡ must (not (holds cs c)) twice (more_ciphers twice n (cs ++ c ∷ []) rest)
unfolding more_ciphers
one_more twice n cs c rest = refl

none_more : (twice : Fault) (n : ℕ) (cs : List ℕ) → more_ciphers twice (suc n) cs [] ≡ Err BadLength
unfolding more_ciphers
none_more twice n cs = refl

pub ended : (twice : Fault) (cs bs : List ℕ) → more_ciphers twice 0 cs bs ≡ Ok (cs, bs)
unfolding more_ciphers
ended twice cs bs = refl

module _ (twice : Fault) (count i : ℕ) (to-come : i < count) where
  left : count - i ≡ suc (count - (i + 1))
  left = omega arith

  pub cut_short : (cs bs : List ℕ) → length bs ≡ 0 → more_ciphers twice (count - i) cs bs ≡ Err BadLength
  cut_short cs bs e = ap (more_ciphers twice (count - i) cs) (nil_from_length bs e) ∙ ap (λ n. more_ciphers twice n cs []) left ∙ none_more twice (count - (i + 1)) cs

  pub there_twice : (cs bs rest : List ℕ) (c : ℕ) → bs ≡ c ∷ rest → holds cs c ≡ true → more_ciphers twice (count - i) cs bs ≡ Err twice
  there_twice cs bs rest c e h = ap (more_ciphers twice (count - i) cs) e ∙ ap (λ n. more_ciphers twice n cs (c ∷ rest)) left ∙ one_more twice (count - (i + 1)) cs c rest ∙ ap (λ t. must (not t) twice (more_ciphers twice (count - (i + 1)) (cs ++ c ∷ []) rest)) h

  pub there_once : (cs bs rest : List ℕ) (c : ℕ) → bs ≡ c ∷ rest → holds cs c ≡ false → more_ciphers twice (count - i) cs bs ≡ more_ciphers twice (count - (i + 1)) (cs ++ c ∷ []) rest
  there_once cs bs rest c e h = ap (more_ciphers twice (count - i) cs) e ∙ ap (λ n. more_ciphers twice n cs (c ∷ rest)) left ∙ one_more twice (count - (i + 1)) cs c rest ∙ ap (λ t. must (not t) twice (more_ciphers twice (count - (i + 1)) (cs ++ c ∷ []) rest)) h

from_first : (n : ℕ) → n - 0 ≡ n
from_first n = omega arith

-- the first cipher is never there before
pub first_once : (twice : Fault) (count : ℕ) → 0 < count → (bs rest : List ℕ) (c : ℕ) → bs ≡ c ∷ rest → more_ciphers twice count [] bs ≡ more_ciphers twice (count - 1) (c ∷ []) rest
unfolding holds
first_once twice count some bs rest c e = ap (λ n. more_ciphers twice n [] bs) (sym (from_first count)) ∙ there_once twice count 0 some [] bs rest c e refl

pub none_there : (twice : Fault) (count : ℕ) → 0 < count → (bs : List ℕ) → length bs ≡ 0 → more_ciphers twice count [] bs ≡ Err BadLength
none_there twice count some bs e = ap (λ n. more_ciphers twice n [] bs) (sym (from_first count)) ∙ cut_short twice count 0 some [] bs e

-- with room left, a cipher that isn't there is added
pub added_new : (before after : Preferences) (c : Cipher) (r : Result (Unit {0}) Fault) → length (listed before) < most_ciphers → holds (listed before) c.number ≡ false → Added before c r after → listed after ≡ listed before ++ c.number ∷ []
added_new before after c (Ok u) room new a = a.1
added_new before after c (Err f) room new a = err_ok f tt (sym a.0 ∙ ap (λ t. cond t (cond (holds (listed before) c.number) (Err CipherTwice) (Ok tt)) (Err TooManyCiphers)) (lt-ltb _ _ room) ∙ ap (λ t. cond t (Err CipherTwice) (Ok tt)) new)

-- what was read of a list: so many bytes, none of which was there before
pub record CiphersRead (n : ℕ) (cs bs ds rest : List ℕ) : Type 0 where
  pub within : n ≤ length bs
  pub all : ds ≡ cs ++ take n bs
  pub behind : rest ≡ drop n bs
  pub apart : distinct cs ≡ true → distinct ds ≡ true

pub more_is : (twice : Fault) (n : ℕ) (cs bs ds rest : List ℕ) → more_ciphers twice n cs bs ≡ Ok (ds, rest) → CiphersRead n cs bs ds rest
unfolding more_ciphers
more_is twice zero cs bs ds rest e =
    let p = ok_same (cs, bs) (ds, rest) e in
    record { within = omega arith; all = sym (ap (λ q. q.0) p) ∙ sym (append-nil cs); behind = sym (ap (λ q. q.1) p); apart = λ d. ap (λ q. distinct q.0) (sym p) ∙ d }
more_is twice (suc n) cs [] ds rest e = err_ok BadLength (ds, rest) e
more_is twice (suc n) cs (b ∷ bs) ds rest e =
    let p = by_must (not (holds cs b)) twice (more_ciphers twice n (cs ++ b ∷ []) bs) (ds, rest) e in
    let q = more_is twice n (cs ++ b ∷ []) bs ds rest p.1 in
    record {
      within = omega (arith, q.within);
      all = q.all ∙ append_assoc cs (b ∷ []) (take n bs);
      behind = q.behind;
      apart = λ d. q.apart (distinct_push cs b d (not-true _ p.0));
    }

-- what was read of a list behind its count
pub record ListingRead (bs cs rest : List ℕ) : Type 0 where
  pub is : bs ≡ length cs ∷ (cs ++ rest)
  pub fine : proper cs ≡ true

pub listing_is : (many twice : Fault) (bs cs rest : List ℕ) → listing many twice bs ≡ Ok (cs, rest) → ListingRead bs cs rest
unfolding distinct
listing_is many twice bs cs rest e =
    let p = by_byte bs _ (cs, rest) e in
    let n = p.0 in
    let q = by_must (not (eqb n 0)) NoCipher _ (cs, rest) p.3 in
    let r = by_must (leb n most_ciphers) many (more_ciphers twice n [] p.1) (cs, rest) q.1 in
    let s = more_is twice n [] p.1 cs rest r.1 in
    let long : length cs ≡ n = ap length s.all ∙ length-take-le n p.1 s.within in
    let some : 0 < n = not_zero n (not-true _ q.0) in
    let few : n ≤ most_ciphers = leb-true n most_ciphers r.0 in
    record {
      is = p.2 ∙ ap₂ (λ b l. b ∷ l) (sym long) (sym (take-append-drop n p.1) ∙ ap₂ ◌++◌ (sym s.all) (sym s.behind));
      fine = proper_from cs (record { some = omega arith; few = omega arith; apart = s.apart refl });
    }
  where
    not_zero : (n : ℕ) → eqb n 0 ≡ false → 0 < n
    not_zero n e = omega (arith, eqb-false n 0 e)

-- a listing that is read alone stands at the front, and what follows it behind its count and its ciphers
module _ (many twice : Fault) (bs cs : List ℕ) (n : ℕ) (read : Ok cs ≡ alone (listing many twice bs)) (counted : n ≡ length cs) where
  found : (rest : List ℕ) × (bs ≡ length cs ∷ (cs ++ rest)) × (listing many twice bs ≡ Ok (cs, rest))
  found = let p = not_alone (listing many twice bs) cs read in (p.0, (listing_is many twice bs cs p.0 p.1).is, p.1)

  one : length (length cs ∷ cs) ≡ 1 + n
  one = omega (arith, counted)

  pub listing_fits : 1 + n ≤ length bs
  listing_fits = let p = found in omega (arith, ap length p.1, length-append cs p.0)

  pub listing_front : take (1 + n) bs ≡ length cs ∷ cs
  listing_front = let p = found in ap (take (1 + n)) p.1 ∙ take_at (length cs ∷ cs) p.0 (1 + n) one

  pub listing_then : (behind : List ℕ) → behind ≡ drop (1 + n) bs → listing many twice bs ≡ Ok (cs, behind)
  listing_then behind is =
      let p = found in
      p.2 ∙ ap (λ l. Ok (cs, l)) (sym (drop_at (length cs ∷ cs) p.0 (1 + n) one) ∙ ap (drop (1 + n)) (sym p.1) ∙ sym is)

-- and what is written is read back
pub more_back : (twice : Fault) (cs ds rest : List ℕ) → distinct (cs ++ ds) ≡ true → more_ciphers twice (length ds) cs (ds ++ rest) ≡ Ok (cs ++ ds, rest)
unfolding more_ciphers
more_back twice cs [] rest d = ap (λ l. Ok (l, rest)) (sym (append-nil cs))
more_back twice cs (c ∷ ds) rest d =
    ap (λ t. must (not t) twice (more_ciphers twice (length ds) (cs ++ c ∷ []) (ds ++ rest))) (out (holds cs c) refl)
    ∙ more_back twice (cs ++ c ∷ []) ds rest (ap distinct (append_assoc cs (c ∷ []) ds) ∙ d)
    ∙ ap (λ l. Ok (l, rest)) (append_assoc cs (c ∷ []) ds)
  where
    out : (t : Bool) → holds cs c ≡ t → holds cs c ≡ false
    out false e = e
    out true e = absurd (both_ways _ (distinct_again cs ds c e) d)

pub listing_back : (many twice : Fault) (cs rest : List ℕ) → proper cs ≡ true → listing many twice (length cs ∷ (cs ++ rest)) ≡ Ok (cs, rest)
listing_back many twice cs rest h =
    let p = proper_parts cs h in
    must_true (not (eqb (length cs) 0)) NoCipher _ (not_from_false _ (ne_eqb (length cs) 0 (λ e. omega (arith, p.some))))
    ∙ must_true (leb (length cs) most_ciphers) many _ (le-leb _ _ p.few)
    ∙ more_back twice [] cs rest p.apart
