-- Replies and ends: what is read was written so, and what is written is read back. Assumes nothing.
use Rattle.std.proofs.Common.{◌≡◌, ℕ, ◌+◌, ◌^◌, ◌<◌, ◌≤◌, eqb, leb, List, [], ◌∷◌, ◌++◌, length, take, drop, Ok, Err, Result, sym, refl, ap, ◌∙◌, subst, ap₂, append_assoc, arith, length-append}
use Rattle.std.proofs.ByRecursion.{All-drop}
use Rattle.std.proofs.lemmas.List.{append-nil, take-append-drop, length-take-le}
use Rattle.std.proofs.lemmas.Bool.{eqb-true, eq-eqb, and_parts, leb-true}
use Rattle.fixed_bytes.specs.Numbers.{big_endian, value}
use Rattle.words.specs.declared.fault.Fault.{Fault}
use Rattle.words.specs.declared.fault.Fault.TheVariants.{BadLength}
use Rattle.words.specs.Choice.{most_ciphers}
use Rattle.words.specs.Registry.{kind_reply, kind_end}
use Rattle.words.proofs.Listing.{proper_parts}
use Rattle.protocol.specs.Words.{Hello, Body, Reply}
use Rattle.formats.specs.Reading.{with, alone, and_then, must, part, number, done, behind_length}
use Rattle.formats.specs.Encoding.{hello_bytes, hello_length, answer_bytes, reply_bytes, end_bytes, signature_length}
use Rattle.formats.specs.Decoding.{hello_front, answer, read_reply, hello_part, lockable, read_end}
use Rattle.formats.specs.Whole.{Bytes, WholeHello, WholeBody, WholeReply, WholeEnd}
use Rattle.formats.proofs.Stages.{ok_same, not_alone, fault_alone, part_at, must_true, then_ok, by_then, by_must, by_byte, by_part, by_kind, by_done}
use Rattle.formats.proofs.Digits.{number_is, number_fits}
use Rattle.fixed_bytes.proofs.Numbers.{value_back}
use Rattle.formats.proofs.Hellos.{both_bytes, hello_read, hello_front_back}

-- what follows a kind and a length
pub record BehindRead (n : ℕ) (bs behind : List ℕ) : Type 0 where
  pub at : behind ≡ drop 3 bs
  pub written : Bytes bs → (bs ≡ n ∷ (big_endian 2 (length behind) ++ behind)) × (length behind < 2 ^ 16)

pub behind_read : (n : ℕ) (bs behind : List ℕ) → behind_length n bs ≡ Ok behind → BehindRead n bs behind
behind_read n bs behind e =
    let p = by_kind n bs (λ rest. number 2 rest (λ len behind. must (eqb len (length behind)) BadLength (Ok behind))) behind e in
    let r = p.0 in
    let q = by_part 2 r (λ x behind. must (eqb (value x) (length behind)) BadLength (Ok behind)) behind p.2 in
    let s = by_must (eqb (value (take 2 r)) (length (drop 2 r))) BadLength (Ok (drop 2 r)) behind q.1 in
    let same = ok_same (drop 2 r) behind s.1 in
    let len : value (take 2 r) ≡ length behind = eqb-true _ _ s.0 ∙ ap length same in
    record {
      at = sym same ∙ ap (drop 3) (sym p.1);
      written = λ all.
          let tail = (subst Bytes p.1 all).1 in (
            p.1 ∙ ap (λ l. n ∷ l) (number_is 2 r q.0 tail ∙ ap₂ (λ m l. big_endian 2 m ++ l) len same),
            subst (λ m. m < 2 ^ 16) len (number_fits 2 r q.0 tail),
          );
    }

pub behind_back : (n : ℕ) (behind : List ℕ) → length behind < 2 ^ 16 → behind_length n (n ∷ (big_endian 2 (length behind) ++ behind)) ≡ Ok behind
behind_back n behind fits =
    must_true (eqb n n) _ _ (eq-eqb n n refl)
    ∙ part_at 2 (big_endian 2 (length behind)) behind (λ x behind. must (eqb (value x) (length behind)) BadLength (Ok behind)) refl
    ∙ must_true (eqb (value (big_endian 2 (length behind))) (length behind)) BadLength (Ok behind) (eq-eqb _ _ (value_back 2 (length behind) fits))

-- what follows the hello, from each of its fields on
abbrev pub from_signature : Hello (List ℕ) → ℕ → List ℕ → List ℕ → List ℕ → List ℕ → Result (Reply (List ℕ)) Fault
from_signature h b n s x bs = part 64 bs (λ signature bs. done bs (record { body = record { hello = h; choice = b; nonce = n; seal = s; box = x }; signature = signature }))

abbrev pub from_box : Hello (List ℕ) → ℕ → List ℕ → List ℕ → List ℕ → Result (Reply (List ℕ)) Fault
from_box h b n s bs = part 48 bs (from_signature h b n s)

abbrev pub from_seal : Hello (List ℕ) → ℕ → List ℕ → List ℕ → Result (Reply (List ℕ)) Fault
from_seal h b n bs = part 32 bs (from_box h b n)

abbrev pub from_nonce : Hello (List ℕ) → ℕ → List ℕ → Result (Reply (List ℕ)) Fault
from_nonce h b bs = part 32 bs (from_seal h b)

-- what was read of it
pub record AnswerRead (h : Hello (List ℕ)) (bs : List ℕ) (r : Reply (List ℕ)) : Type 0 where
  pub same_hello : r.body.hello ≡ h
  pub is : bs ≡ answer_bytes r.body ++ r.signature
  pub nonce_long : length r.body.nonce ≡ 32
  pub seal_long : length r.body.seal ≡ 32
  pub box_long : length r.body.box ≡ 48
  pub signature_long : length r.signature ≡ 64

pub answer_read : (h : Hello (List ℕ)) (bs : List ℕ) (r : Reply (List ℕ)) → answer h bs ≡ Ok r → AnswerRead h bs r
answer_read h bs r e =
    let p = by_byte bs (from_nonce h) r e in
    let b = p.0 in
    let left0 = p.1 in
    let q = by_part 32 left0 (from_seal h b) r p.3 in
    let n = take 32 left0 in
    let left1 = drop 32 left0 in
    let s = by_part 32 left1 (from_box h b n) r q.1 in
    let k = take 32 left1 in
    let left2 = drop 32 left1 in
    let t = by_part 48 left2 (from_signature h b n k) r s.1 in
    let x = take 48 left2 in
    let left3 = drop 48 left2 in
    let made : List ℕ → Reply (List ℕ) = λ g. record { body = record { hello = h; choice = b; nonce = n; seal = k; box = x }; signature = g } in
    let u = by_part 64 left3 (λ g bs. done bs (made g)) r t.1 in
    let v = by_done (drop 64 left3) (made (take 64 left3)) r u.1 in
    subst (AnswerRead h bs) v.1 (record {
      same_hello = refl;
      is = p.2 ∙ ap (λ l. b ∷ l) (parts left0 (drop 64 left3) v.0);
      nonce_long = length-take-le 32 left0 q.0;
      seal_long = length-take-le 32 left1 s.0;
      box_long = length-take-le 48 left2 t.0;
      signature_long = length-take-le 64 left3 u.0;
    })
  where
    parts : (left0 end : List ℕ) → drop 64 (drop 48 (drop 32 (drop 32 left0))) ≡ [] → left0 ≡ (take 32 left0 ++ (take 32 (drop 32 left0) ++ take 48 (drop 32 (drop 32 left0)))) ++ take 64 (drop 48 (drop 32 (drop 32 left0)))
    parts left0 end none =
        let left1 = drop 32 left0 in
        let left2 = drop 32 left1 in
        let left3 = drop 48 left2 in
        let last : left3 ≡ take 64 left3 = sym (take-append-drop 64 left3) ∙ ap (λ l. take 64 left3 ++ l) none ∙ append-nil (take 64 left3) in
        sym (append_assoc (take 32 left0) (take 32 left1 ++ take 48 left2) (take 64 left3)
        ∙ ap (λ l. take 32 left0 ++ l) (append_assoc (take 32 left1) (take 48 left2) (take 64 left3) ∙ ap (λ l. take 32 left1 ++ l) (ap (λ l. take 48 left2 ++ l) (sym last) ∙ take-append-drop 48 left2) ∙ take-append-drop 32 left1)
        ∙ take-append-drop 32 left0)

pub answer_back : (r : Reply (List ℕ)) → WholeReply r → answer r.body.hello (answer_bytes r.body ++ r.signature) ≡ Ok r
answer_back r w =
    let b = r.body in
    let g = r.signature in
    let W = w.body_whole in
    ap (λ l. from_nonce b.hello b.choice l) (append_assoc b.nonce (b.seal ++ b.box) g ∙ ap (λ l. b.nonce ++ l) (append_assoc b.seal b.box g ∙ ap (λ l. b.seal ++ (b.box ++ l)) (sym (append-nil g))))
    ∙ part_at 32 b.nonce (b.seal ++ (b.box ++ (g ++ []))) (from_seal b.hello b.choice) W.nonce_sized.long
    ∙ part_at 32 b.seal (b.box ++ (g ++ [])) (from_box b.hello b.choice b.nonce) W.seal_sized.long
    ∙ part_at 48 b.box (g ++ []) (from_signature b.hello b.choice b.nonce b.seal) W.box_sized.long
    ∙ part_at 64 g [] (λ g bs. done bs (record { body = b; signature = g })) w.signature_sized.long

-- how long a whole hello is, and a whole answer
pub hello_long : (h : Hello (List ℕ)) → WholeHello h → length (hello_bytes h) ≡ hello_length h
hello_long h w = omega (arith, length-append h.offer (h.nonce ++ h.half), length-append h.nonce h.half, w.nonce_sized.long, w.half_sized.long)

pub answer_long : (b : Body (List ℕ)) → WholeBody b → length (answer_bytes b) ≡ 113
answer_long b w = omega (arith, length-append b.nonce (b.seal ++ b.box), length-append b.seal b.box, w.nonce_sized.long, w.seal_sized.long, w.box_sized.long)

pub offer_few : (h : Hello (List ℕ)) → WholeHello h → length h.offer ≤ most_ciphers
offer_few h w = (proper_parts h.offer w.offer_proper).few

-- all that follows the length of a reply
abbrev pub followed : Reply (List ℕ) → List ℕ
followed r = (hello_bytes r.body.hello ++ answer_bytes r.body) ++ r.signature

pub followed_long : (r : Reply (List ℕ)) → length r.signature ≡ 64 → length (followed r) ≡ length (hello_bytes r.body.hello ++ answer_bytes r.body) + signature_length
followed_long r e = length-append (hello_bytes r.body.hello ++ answer_bytes r.body) r.signature ∙ ap (λ n. length (hello_bytes r.body.hello ++ answer_bytes r.body) + n) e

pub followed_is : (r : Reply (List ℕ)) → length r.signature ≡ 64 → reply_bytes r ≡ kind_reply ∷ (big_endian 2 (length (followed r)) ++ followed r)
followed_is r e = ap (λ n. kind_reply ∷ (big_endian 2 n ++ followed r)) (sym (followed_long r e))

pub record ReplyRead (bs : List ℕ) (r : Reply (List ℕ)) : Type 0 where
  pub is : bs ≡ reply_bytes r
  pub whole : WholeReply r

pub reply_read : (bs : List ℕ) (r : Reply (List ℕ)) → Bytes bs → read_reply bs ≡ Ok r → ReplyRead bs r
reply_read bs r all e =
    let p = by_then (behind_length kind_reply bs) (λ behind. and_then (hello_front behind) (λ p. answer p.0 p.1)) r e in
    let behind = p.0 in
    let B = behind_read kind_reply bs behind p.1 in
    let q = by_then (hello_front behind) (λ p. answer p.0 p.1) r p.2 in
    let h = q.0.0 in
    let rest = q.0.1 in
    let H = hello_read behind h rest q.1 in
    let A = answer_read h rest r q.2 in
    let all-behind : Bytes behind = subst Bytes (sym B.at) (All-drop (λ x. x < 256) 3 bs all) in
    let hello = H.written all-behind in
    let both = both_bytes (hello_bytes h) rest (subst Bytes hello.0 all-behind) in
    let tail = both_bytes (answer_bytes r.body) r.signature (subst Bytes A.is both.1) in
    let n = both_bytes r.body.nonce (r.body.seal ++ r.body.box) tail.0.1 in
    let s = both_bytes r.body.seal r.body.box n.1 in
    let same : behind ≡ followed r = hello.0 ∙ ap₂ (λ h l. hello_bytes h ++ l) (sym A.same_hello) A.is ∙ sym (append_assoc (hello_bytes r.body.hello) (answer_bytes r.body) r.signature) in
    record {
      is = (B.written all).0 ∙ ap (λ l. kind_reply ∷ (big_endian 2 (length l) ++ l)) same ∙ sym (followed_is r A.signature_long);
      whole = record {
        body_whole = record {
          hello_whole = subst WholeHello (sym A.same_hello) hello.1;
          choice_byte = tail.0.0;
          nonce_sized = record { long = A.nonce_long; bytes = n.0 };
          seal_sized = record { long = A.seal_long; bytes = s.0 };
          box_sized = record { long = A.box_long; bytes = s.1 };
        };
        signature_sized = record { long = A.signature_long; bytes = tail.1 };
      };
    }

pub reply_back : (r : Reply (List ℕ)) → WholeReply r → read_reply (reply_bytes r) ≡ Ok r
reply_back r w =
    let W = w.body_whole in
    let h = r.body.hello in
    let few = offer_few h W.hello_whole in
    let fits : length (followed r) < 2 ^ 16 = omega (arith, followed_long r w.signature_sized.long, length-append (hello_bytes h) (answer_bytes r.body), hello_long h W.hello_whole, answer_long r.body W) in
    ap read_reply (followed_is r w.signature_sized.long)
    ∙ then_ok (behind_length kind_reply (kind_reply ∷ (big_endian 2 (length (followed r)) ++ followed r))) (λ behind. and_then (hello_front behind) (λ p. answer p.0 p.1)) (followed r) (behind_back kind_reply (followed r) fits)
    ∙ ap (λ l. and_then (hello_front l) (λ p. answer p.0 p.1)) (append_assoc (hello_bytes h) (answer_bytes r.body) r.signature)
    ∙ then_ok (hello_front (hello_bytes h ++ (answer_bytes r.body ++ r.signature))) (λ p. answer p.0 p.1) (h, answer_bytes r.body ++ r.signature) (hello_front_back h (answer_bytes r.body ++ r.signature) W.hello_whole)
    ∙ answer_back r w

-- ends
pub record EndRead (bs locked : List ℕ) : Type 0 where
  pub is : bs ≡ end_bytes locked
  pub whole : WholeEnd locked

pub end_read : (bs locked : List ℕ) → Bytes bs → read_end bs ≡ Ok locked → EndRead bs locked
end_read bs locked all e =
    let p = by_then (behind_length kind_end bs) (λ behind. must (lockable (length behind)) BadLength (Ok behind)) locked e in
    let q = by_must (lockable (length p.0)) BadLength (Ok p.0) locked p.2 in
    let same = ok_same p.0 locked q.1 in
    let B = behind_read kind_end bs p.0 p.1 in
    subst (EndRead bs) same (record { is = (B.written all).0; whole = record { lock_fits = q.0; lock_bytes = subst Bytes (sym B.at) (All-drop (λ x. x < 256) 3 bs all) } })

pub lock_few : (locked : List ℕ) → WholeEnd locked → length locked < 2 ^ 16
lock_few locked w = let p = and_parts (leb 331 (length locked)) (leb (length locked) 346) w.lock_fits in omega (arith, leb-true (length locked) 346 p.1)

pub end_back : (locked : List ℕ) → WholeEnd locked → read_end (end_bytes locked) ≡ Ok locked
end_back locked w =
    then_ok (behind_length kind_end (end_bytes locked)) (λ behind. must (lockable (length behind)) BadLength (Ok behind)) locked (behind_back kind_end locked (lock_few locked w))
    ∙ must_true (lockable (length locked)) BadLength (Ok locked) w.lock_fits

-- the parts of a reply as the code finds them
module _ (bs behind : List ℕ) (e : Ok behind ≡ behind_length kind_reply bs) where
  pub faulty_hello : (f : Fault) → Err f ≡ alone (hello_front behind) → Err f ≡ read_reply bs
  faulty_hello f g = sym (then_ok (behind_length kind_reply bs) (λ behind. and_then (hello_front behind) (λ p. answer p.0 p.1)) behind (sym e) ∙ ap (λ r. and_then r (λ p. answer p.0 p.1)) (fault_alone (hello_front behind) f g))

  pub faulty_part : (f : Fault) → Err f ≡ alone (hello_front behind) → Err f ≡ hello_part bs
  faulty_part f g = sym (then_ok (behind_length kind_reply bs) (λ behind. with (λ p. take (hello_length p.0) behind) (hello_front behind)) behind (sym e) ∙ ap (with (λ p. take (hello_length p.0) behind)) (fault_alone (hello_front behind) f g))

  module _ (h : Hello (List ℕ)) (g : Ok h ≡ alone (hello_front behind)) where
    pub hello_fits : hello_length h ≤ length behind
    hello_fits = let p = not_alone (hello_front behind) h g in (hello_read behind h p.0 p.1).within

    pub then_answer : (rest : List ℕ) → rest ≡ drop (hello_length h) behind → read_reply bs ≡ answer h rest
    then_answer rest is =
        let p = not_alone (hello_front behind) h g in
        let R = hello_read behind h p.0 p.1 in
        then_ok (behind_length kind_reply bs) (λ behind. and_then (hello_front behind) (λ p. answer p.0 p.1)) behind (sym e)
        ∙ then_ok (hello_front behind) (λ p. answer p.0 p.1) (h, p.0) p.1
        ∙ ap (answer h) (R.behind ∙ sym is)
