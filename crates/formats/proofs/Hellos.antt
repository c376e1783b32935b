-- Hellos: what is read was written so, and what is written is read back. Assumes nothing.
use Rattle.std.proofs.Common.{◌≡◌, ℕ, ◌+◌, ◌^◌, ◌<◌, ◌≤◌, true, eqb, List, [], ◌∷◌, ◌++◌, length, take, drop, Ok, Err, Result, sym, refl, ap, ◌∙◌, subst, ap₂, append_assoc, arith, length-append}
use Rattle.std.proofs.ByRecursion.{All-drop}
use Rattle.std.proofs.lemmas.List.{take-append-drop, length-take-le, length-drop, drop-drop, drop_at}
use Rattle.std.proofs.lemmas.Bool.{eq-eqb, ne_eqb}
use Rattle.fixed_bytes.specs.Numbers.{big_endian, value}
use Rattle.words.specs.declared.fault.Fault.{Fault}
use Rattle.words.specs.declared.fault.Fault.TheVariants.{BadLength, TooManyCiphers, CipherTwice}
use Rattle.words.specs.Choice.{proper}
use Rattle.words.specs.Registry.{kind_hello}
use Rattle.protocol.specs.Words.{Hello}
use Rattle.formats.specs.Reading.{alone, and_then, part, number, done, listing}
use Rattle.formats.specs.Encoding.{hello_bytes, hello_length}
use Rattle.formats.specs.Decoding.{names, keys, hello_front, read_hello}
use Rattle.formats.specs.Whole.{Bytes, WholeHello}
use Rattle.formats.proofs.Stages.{ok_same, not_alone, fault_alone, must_true, must_false, part_at, part_whole, part_short, then_ok, by_then, by_part, by_kind}
use Rattle.formats.proofs.Ciphers.{ListingRead, listing_is, listing_then, listing_back}
use Rattle.formats.proofs.Digits.{number_is, number_fits}
use Rattle.fixed_bytes.proofs.Numbers.{value_back}

-- all of some bytes are bytes if their two parts are, and the other way
pub both_bytes : (a b : List ℕ) → Bytes (a ++ b) → Bytes a × Bytes b
both_bytes [] b all = (tt, all)
both_bytes (x ∷ a) b all = let p = both_bytes a b all.1 in ((all.0, p.0), p.1)

-- the names: where they stand, and what follows
pub record NamesRead (bs : List ℕ) (a b : ℕ) (rest : List ℕ) : Type 0 where
  pub within : 5 ≤ length bs
  pub behind : rest ≡ drop 5 bs
  pub written : Bytes bs → (bs ≡ kind_hello ∷ (big_endian 2 a ++ (big_endian 2 b ++ rest))) × (a < 2 ^ 16) × (b < 2 ^ 16)

names_read : (bs : List ℕ) (a b : ℕ) (rest : List ℕ) → names bs ≡ Ok (a, b, rest) → NamesRead bs a b rest
names_read bs a b rest e =
    let p = by_kind kind_hello bs (λ bs. number 2 bs (λ caller bs. number 2 bs (λ called bs. Ok (caller, called, bs)))) (a, b, rest) e in
    let r = p.0 in
    let q = by_part 2 r (λ x bs. number 2 bs (λ called bs. Ok (value x, called, bs))) (a, b, rest) p.2 in
    let s = by_part 2 (drop 2 r) (λ x bs. Ok (value (take 2 r), value x, bs)) (a, b, rest) q.1 in
    let t = ok_same (value (take 2 r), value (take 2 (drop 2 r)), drop 2 (drop 2 r)) (a, b, rest) s.1 in
    let is-a = ap (λ x. x.0) t in
    let is_b = ap (λ x. x.1) t in
    let is-rest = ap (λ x. x.2) t in
    record {
      within = omega (arith, q.0, s.0, length-drop 2 r, ap length p.1);
      behind = sym is-rest ∙ drop-drop 2 2 r ∙ ap (drop 5) (sym p.1);
      written = λ all.
          let tail = (subst Bytes p.1 all).1 in
          let first = number_is 2 r q.0 tail in
          let second = number_is 2 (drop 2 r) s.0 (All-drop (λ x. x < 256) 2 r tail) in (
            p.1 ∙ ap (λ l. kind_hello ∷ l) (first ∙ ap₂ (λ n l. big_endian 2 n ++ l) is-a (second ∙ ap₂ (λ n l. big_endian 2 n ++ l) is_b is-rest)),
            subst (λ n. n < 2 ^ 16) is-a (number_fits 2 r q.0 tail),
            subst (λ n. n < 2 ^ 16) is_b (number_fits 2 (drop 2 r) s.0 (All-drop (λ x. x < 256) 2 r tail)),
          );
    }

names_back : (a b : ℕ) (rest : List ℕ) → a < 2 ^ 16 → b < 2 ^ 16 → names (kind_hello ∷ (big_endian 2 a ++ (big_endian 2 b ++ rest))) ≡ Ok (a, b, rest)
names_back a b rest fits-a fits-b =
    part_at 2 (big_endian 2 a) (big_endian 2 b ++ rest) (λ p bs. number 2 bs (λ called bs. Ok (value p, called, bs))) refl
    ∙ part_at 2 (big_endian 2 b) rest (λ p bs. Ok (value (big_endian 2 a), value p, bs)) refl
    ∙ ap₂ (λ x y. Ok (x, y, rest)) (value_back 2 a fits-a) (value_back 2 b fits-b)

-- the nonce and the half
pub record KeysRead (bs n k rest : List ℕ) : Type 0 where
  pub is : bs ≡ n ++ (k ++ rest)
  pub nonce_long : length n ≡ 32
  pub half_long : length k ≡ 32

keys_read : (bs n k rest : List ℕ) → keys bs ≡ Ok (n, k, rest) → KeysRead bs n k rest
keys_read bs n k rest e =
    let p = by_part 32 bs (λ nonce bs. part 32 bs (λ half bs. Ok (nonce, half, bs))) (n, k, rest) e in
    let q = by_part 32 (drop 32 bs) (λ half rest. Ok (take 32 bs, half, rest)) (n, k, rest) p.1 in
    let t = ok_same (take 32 bs, take 32 (drop 32 bs), drop 32 (drop 32 bs)) (n, k, rest) q.1 in
    let is-n = ap (λ x. x.0) t in
    let is-k = ap (λ x. x.1) t in
    let is-rest = ap (λ x. x.2) t in
    record {
      is = sym (take-append-drop 32 bs) ∙ ap₂ ◌++◌ is-n (sym (take-append-drop 32 (drop 32 bs)) ∙ ap₂ ◌++◌ is-k is-rest);
      nonce_long = ap length (sym is-n) ∙ length-take-le 32 bs p.0;
      half_long = ap length (sym is-k) ∙ length-take-le 32 (drop 32 bs) q.0;
    }

keys_back : (n k rest : List ℕ) → length n ≡ 32 → length k ≡ 32 → keys (n ++ (k ++ rest)) ≡ Ok (n, k, rest)
keys_back n k rest e f =
    part_at 32 n (k ++ rest) (λ nonce bs. part 32 bs (λ half bs. Ok (nonce, half, bs))) e
    ∙ part_at 32 k rest (λ half bs. Ok (n, half, bs)) f

-- a hello in front of something, field after field
then_rest : (h : Hello (List ℕ)) (rest : List ℕ) → hello_bytes h ++ rest ≡ kind_hello ∷ (big_endian 2 h.caller ++ (big_endian 2 h.called ++ (length h.offer ∷ (h.offer ++ (h.nonce ++ (h.half ++ rest))))))
then_rest h rest = ap (λ l. kind_hello ∷ (big_endian 2 h.caller ++ (big_endian 2 h.called ++ (length h.offer ∷ l)))) (append_assoc h.offer (h.nonce ++ h.half) rest ∙ ap (λ l. h.offer ++ l) (append_assoc h.nonce h.half rest))

-- what was read of a hello in front of something
pub record HelloRead (bs : List ℕ) (h : Hello (List ℕ)) (rest : List ℕ) : Type 0 where
  pub within : hello_length h ≤ length bs
  pub behind : rest ≡ drop (hello_length h) bs
  pub fine : proper h.offer ≡ true
  pub written : Bytes bs → (bs ≡ hello_bytes h ++ rest) × WholeHello h

pub hello_read : (bs : List ℕ) (h : Hello (List ℕ)) (rest : List ℕ) → hello_front bs ≡ Ok (h, rest) → HelloRead bs h rest
hello_read bs h rest e =
    let p = by_then (names bs) _ (h, rest) e in
    let n = p.0 in
    let q = by_then (listing TooManyCiphers CipherTwice n.2) _ (h, rest) p.2 in
    let cs = q.0.0 in
    let r = by_then (keys q.0.1) _ (h, rest) q.2 in
    let k = r.0 in
    let made : Hello (List ℕ) = record { caller = n.0; called = n.1; offer = cs; nonce = k.0; half = k.1 } in
    let t = ok_same (made, k.2) (h, rest) r.2 in
    let is-h : made ≡ h = ap (λ x. x.0) t in
    let is-rest = ap (λ x. x.1) t in
    let N = names_read bs n.0 n.1 n.2 p.1 in
    let L = listing_is TooManyCiphers CipherTwice n.2 cs q.0.1 q.1 in
    let K = keys_read q.0.1 k.0 k.1 k.2 r.1 in
    subst (λ x. HelloRead bs x rest) is-h (subst (λ x. HelloRead bs made x) is-rest (found bs n.0 n.1 n.2 cs q.0.1 k.0 k.1 k.2 N L K))
  where
    found : (bs : List ℕ) (a b : ℕ) (left1 cs left2 n k rest : List ℕ) → NamesRead bs a b left1 → ListingRead left1 cs left2 → KeysRead left2 n k rest → HelloRead bs (record { caller = a; called = b; offer = cs; nonce = n; half = k }) rest
    found bs a b left1 cs left2 n k rest N L K =
        let long = length-append cs left2 in
        let long-keys = ap length K.is ∙ length-append n (k ++ rest) in
        let long-half = length-append k rest in
        let total : length bs ≡ 70 + length cs + length rest = omega (arith, N.within, ap length N.behind, length-drop 5 bs, ap length L.is, K.nonce_long, K.half_long) in
        record {
          within = omega arith;
          behind = cut bs left1 cs left2 n k rest N L K;
          fine = L.fine;
          written = λ all.
              let W = N.written all in
              let all1 : Bytes left1 = subst Bytes (sym N.behind) (All-drop (λ x. x < 256) 5 bs all) in
              let all2 = both_bytes cs left2 (subst Bytes L.is all1).1 in
              let all3 = both_bytes n (k ++ rest) (subst Bytes K.is all2.1) in
              let all4 = both_bytes k rest all3.1 in (
                W.0 ∙ ap (λ l. kind_hello ∷ (big_endian 2 a ++ (big_endian 2 b ++ l))) (L.is ∙ ap (λ l. length cs ∷ (cs ++ l)) K.is) ∙ sym (then_rest (record { caller = a; called = b; offer = cs; nonce = n; half = k }) rest),
                record { caller_fits = W.1; called_fits = W.2; offer_proper = L.fine; offer_bytes = all2.0; nonce_sized = record { long = K.nonce_long; bytes = all3.0 }; half_sized = record { long = K.half_long; bytes = all4.0 } },
              );
        }
      where
        cut : (bs left1 cs left2 n k rest : List ℕ) {a b : ℕ} → NamesRead bs a b left1 → ListingRead left1 cs left2 → KeysRead left2 n k rest → rest ≡ drop (70 + length cs) bs
        cut bs left1 cs left2 n k rest N L K =
            let count : length (n ++ k) ≡ 64 = length-append n k ∙ ap₂ ◌+◌ K.nonce_long K.half_long in
            let from-keys : drop 64 left2 ≡ rest = ap (drop 64) (K.is ∙ sym (append_assoc n k rest)) ∙ drop_at (n ++ k) rest 64 count in
            let from_list : drop (1 + length cs) left1 ≡ left2 = ap (drop (1 + length cs)) L.is ∙ drop_at (length cs ∷ cs) left2 (1 + length cs) (omega arith) in
            let steps : 5 + (1 + length cs) + 64 ≡ 70 + length cs = omega arith in
            sym from-keys ∙ ap (drop 64) (sym from_list ∙ ap (drop (1 + length cs)) N.behind ∙ drop-drop (1 + length cs) 5 bs) ∙ drop-drop 64 (5 + (1 + length cs)) bs ∙ ap (λ m. drop m bs) steps

-- what is written is read back, whatever follows it
pub hello_front_back : (h : Hello (List ℕ)) (rest : List ℕ) → WholeHello h → hello_front (hello_bytes h ++ rest) ≡ Ok (h, rest)
hello_front_back h rest w =
    let behind = h.nonce ++ (h.half ++ rest) in
    let listed = length h.offer ∷ (h.offer ++ behind) in
    ap hello_front (then_rest h rest)
    ∙ then_ok (names (kind_hello ∷ (big_endian 2 h.caller ++ (big_endian 2 h.called ++ listed)))) _ (h.caller, h.called, listed) (names_back h.caller h.called listed w.caller_fits w.called_fits)
    ∙ then_ok (listing TooManyCiphers CipherTwice listed) _ (h.offer, behind) (listing_back TooManyCiphers CipherTwice h.offer behind w.offer_proper)
    ∙ then_ok (keys behind) _ (h.nonce, h.half, rest) (keys_back h.nonce h.half rest w.nonce_sized.long w.half_sized.long)

no_nonce : (bs : List ℕ) → length bs < 32 → keys bs ≡ Err BadLength
no_nonce bs h = part_short 32 bs (λ nonce bs. part 32 bs (λ half bs. Ok (nonce, half, bs))) h

no_half : (bs : List ℕ) → 32 ≤ length bs → length (drop 32 bs) < 32 → keys bs ≡ Err BadLength
no_half bs h g = part_whole 32 bs (λ nonce bs. part 32 bs (λ half bs. Ok (nonce, half, bs))) h ∙ part_short 32 (drop 32 bs) (λ half rest. Ok (take 32 bs, half, rest)) g

both_there : (bs : List ℕ) → 32 ≤ length bs → 32 ≤ length (drop 32 bs) → keys bs ≡ Ok (take 32 bs, take 32 (drop 32 bs), drop 32 (drop 32 bs))
both_there bs h g = part_whole 32 bs (λ nonce bs. part 32 bs (λ half bs. Ok (nonce, half, bs))) h ∙ part_whole 32 (drop 32 bs) (λ half rest. Ok (take 32 bs, half, rest)) g

-- a hello from its names, its offer, and what keys give
made : (a b : ℕ) (cs : List ℕ) → List ℕ × List ℕ × List ℕ → Result (Hello (List ℕ) × List ℕ) Fault
made a b cs k = Ok (record { caller = a; called = b; offer = cs; nonce = k.0; half = k.1 }, k.2)

-- the code's way through a hello: names, ciphers, and what is left for nonce and half
module _ (bs rest : List ℕ) (a b : ℕ) (cs : List ℕ) (n : ℕ) (named : Ok (a, b, rest) ≡ names bs) (offered : Ok cs ≡ alone (listing TooManyCiphers CipherTwice rest)) (counted : n ≡ length cs) where
  behind_list : (behind : List ℕ) → behind ≡ drop (1 + n) rest → hello_front bs ≡ and_then (keys behind) (made a b cs)
  unfolding made
  behind_list behind is =
      then_ok (names bs) _ (a, b, rest) (sym named) ∙ then_ok (listing TooManyCiphers CipherTwice rest) _ (cs, behind) (listing_then TooManyCiphers CipherTwice rest cs n offered counted behind is)

  pub nonce_cut : (behind : List ℕ) → behind ≡ drop (1 + n) rest → length behind < 32 → Err BadLength ≡ alone (hello_front bs)
  nonce_cut behind is short = sym (ap alone (behind_list behind is ∙ ap (λ r. and_then r (made a b cs)) (no_nonce behind short)))

  pub half_cut : (behind left : List ℕ) → behind ≡ drop (1 + n) rest → left ≡ drop 32 behind → length left + 32 ≡ length behind → length left < 32 → Err BadLength ≡ alone (hello_front bs)
  half_cut behind left is next long short = sym (ap alone (behind_list behind is ∙ ap (λ r. and_then r (made a b cs)) (no_half behind (omega arith) (omega (arith, ap length next)))))

  pub front_found : (behind left nonce half : List ℕ) → behind ≡ drop (1 + n) rest → left ≡ drop 32 behind → length left + 32 ≡ length behind → 32 ≤ length left → nonce ≡ take 32 behind → half ≡ take 32 left → Ok (record { caller = a; called = b; offer = cs; nonce = nonce; half = half }) ≡ alone (hello_front bs)
  unfolding made
  front_found behind left nonce half is next long more e f =
      let both = both_there behind (omega arith) (omega (arith, ap length next)) in
      ap₂ (λ n k. Ok (record { caller = a; called = b; offer = cs; nonce = n; half = k })) e (f ∙ ap (take 32) next)
      ∙ sym (ap alone (behind_list behind is ∙ ap (λ r. and_then r (made a b cs)) both))

-- a hello alone: nothing may follow it
pub refused_hello : (bs : List ℕ) (f : Fault) → Err f ≡ alone (hello_front bs) → read_hello bs ≡ Err f
refused_hello bs f e = ap (λ r. and_then r (λ p. done p.1 p.0)) (fault_alone (hello_front bs) f e)

module _ (bs : List ℕ) (h : Hello (List ℕ)) (e : Ok h ≡ alone (hello_front bs)) where
  done_hello : (rest : List ℕ) × (rest ≡ drop (hello_length h) bs) × (hello_length h ≤ length bs) × (read_hello bs ≡ done rest h)
  done_hello =
      let p = not_alone (hello_front bs) h e in
      let r = hello_read bs h p.0 p.1 in
      (p.0, r.behind, r.within, ap (λ r. and_then r (λ p. done p.1 p.0)) p.1)

  pub long_hello : (length bs ≡ hello_length h → ⊥) → read_hello bs ≡ Err BadLength
  long_hello other =
      let p = done_hello in
      p.3 ∙ must_false (eqb (length p.0) 0) BadLength (Ok h) (ne_eqb (length p.0) 0 (λ z. other (omega (arith, ap length p.1, length-drop (hello_length h) bs, p.2))))

  pub whole_hello : length bs ≡ hello_length h → read_hello bs ≡ Ok h
  whole_hello same =
      let p = done_hello in
      p.3 ∙ must_true (eqb (length p.0) 0) BadLength (Ok h) (eq-eqb (length p.0) 0 (omega (arith, ap length p.1, length-drop (hello_length h) bs)))
