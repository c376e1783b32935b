-- All three words: read one way, no cut and nothing longer taken, and what is signed. Assumes nothing.
use Rattle.std.proofs.Common.{◌≡◌, ℕ, ◌+◌, ◌-◌, ◌*◌, ◌^◌, ◌<◌, cond, eqb, List, [], ◌∷◌, ◌++◌, length, get_or, take, drop, replicate, Some, None, Ok, Err, Option, Result, sym, refl, ap, ◌∙◌, subst, ap₂, append_assoc, arith, lit<, length-append}
use Rattle.std.proofs.ByRecursion.{All-append, All-take, All-from_get_or}
use Rattle.std.proofs.lemmas.List.{append-nil, take-append-drop, length-drop, nil_from_length, take_at, drop_at, get_or-replicate}
use Rattle.fixed_bytes.specs.Numbers.{big_endian}
use Rattle.words.specs.declared.fault.Fault.{Fault}
use Rattle.words.specs.declared.fault.Fault.TheVariants.{UnknownKind}
use Rattle.words.specs.declared.registry.Kind.{Kind}
use Rattle.words.specs.declared.registry.Kind.TheVariants.{Hello as KindHello, Reply as KindReply, End as KindEnd, Record as KindRecord, Settings as KindSettings}
use Rattle.words.specs.Bytes.{kind_of}
use Rattle.words.specs.Numbers.{malformed}
use Rattle.words.specs.Registry.{kind_hello, kind_reply, kind_end}
use Rattle.protocol.specs.Got.{No}
use Rattle.protocol.specs.Words.{Hello, Body, Reply, Word, a_hello, a_reply, an_end}
use Rattle.formats.specs.Reading.{with, and_then, done}
use Rattle.formats.specs.Encoding.{hello_bytes, hello_length, answer_bytes, body_bytes, reply_bytes, word_bytes, signature_length}
use Rattle.formats.specs.Decoding.{hello_front, read_hello, read_reply, hello_part, before_signature, last_signature, read_end, read_as, read_word, got}
use Rattle.formats.specs.Whole.{Bytes, Sized, WholeHello, WholeBody, WholeReply, Whole}
use Rattle.formats.specs.Laws.{OnlyMalformed, BytesAreReadOneWay, SignedBytesAreApart, PartsAreAsWritten}
use Rattle.formats.proofs.Stages.{err_ok, ok_same, with_ok, by_then, by_done, by_byte}
use Rattle.fixed_bytes.proofs.Numbers.{value_back}
use Rattle.formats.proofs.Digits.{digits}
use Rattle.formats.proofs.Hellos.{hello_read, hello_front_back}
use Rattle.formats.proofs.Replies.{followed, followed_long, followed_is, hello_long, answer_long, offer_few, lock_few, reply_read, reply_back, end_read, end_back, behind_back}
use Rattle.formats.proofs.Malformed.{all_malformed}

-- a hello alone
hello_back : (h : Hello (List ℕ)) → WholeHello h → read_hello (hello_bytes h) ≡ Ok h
hello_back h w = ap read_hello (sym (append-nil (hello_bytes h))) ∙ ap (λ r. and_then r (λ p. done p.1 p.0)) (hello_front_back h [] w)

hello_alone : (bs : List ℕ) (h : Hello (List ℕ)) → Bytes bs → read_hello bs ≡ Ok h → (bs ≡ hello_bytes h) × WholeHello h
hello_alone bs h all e =
    let p = by_then (hello_front bs) (λ p. done p.1 p.0) h e in
    let q = by_done p.0.1 p.0.0 h p.2 in
    let H = hello_read bs p.0.0 p.0.1 p.1 in
    let W = H.written all in
    (W.0 ∙ ap₂ (λ x l. hello_bytes x ++ l) q.1 q.0 ∙ append-nil (hello_bytes h), subst WholeHello q.1 W.1)

-- any word
word_back : (w : Word (List ℕ)) → Whole w → read_word (word_bytes w) ≡ Ok w
word_back (a_hello h) w = ap (with a_hello) (hello_back h w)
word_back (a_reply r) w = ap (with a_reply) (reply_back r w)
word_back (an_end x) w = ap (with an_end) (end_back x w)

word_read : (bs : List ℕ) (w : Word (List ℕ)) → Bytes bs → read_word bs ≡ Ok w → (bs ≡ word_bytes w) × Whole w
word_read bs w all e =
    let p = by_byte bs (λ b _. read_as (kind_of b) bs) w e in
    go (kind_of p.0) p.3
  where
    go : (o : Option Kind) → read_as o bs ≡ Ok w → (bs ≡ word_bytes w) × Whole w
    go (Some KindHello) e = let q = with_ok a_hello (read_hello bs) w e in subst (λ v. (bs ≡ word_bytes v) × Whole v) q.2 (hello_alone bs q.0 all q.1)
    go (Some KindReply) e = let q = with_ok a_reply (read_reply bs) w e in let R = reply_read bs q.0 all q.1 in subst (λ v. (bs ≡ word_bytes v) × Whole v) q.2 (R.is, R.whole)
    go (Some KindEnd) e = let q = with_ok an_end (read_end bs) w e in let R = end_read bs q.0 all q.1 in subst (λ v. (bs ≡ word_bytes v) × Whole v) q.2 (R.is, R.whole)
    go (Some KindRecord) e = err_ok UnknownKind w e
    go (Some KindSettings) e = err_ok UnknownKind w e
    go None e = err_ok UnknownKind w e

word_apart : (v w : Word (List ℕ)) → Whole v → Whole w → word_bytes v ≡ word_bytes w → v ≡ w
word_apart v w V W e = ok_same v w (sym (word_back v V) ∙ ap read_word e ∙ word_back w W)

-- whole words consist of bytes
front_bytes : (n : ℕ) (bs : List ℕ) → Bytes bs → Bytes (big_endian 2 n ++ bs)
front_bytes n bs all = All-append (λ b. b < 256) (big_endian 2 n) bs (digits 2 n) all

hello_all : (h : Hello (List ℕ)) → WholeHello h → Bytes (hello_bytes h)
hello_all h w =
    let keys = All-append (λ b. b < 256) h.nonce h.half w.nonce_sized.bytes w.half_sized.bytes in
    let offered = All-append (λ b. b < 256) h.offer (h.nonce ++ h.half) w.offer_bytes keys in
    let counted : Bytes (length h.offer ∷ (h.offer ++ (h.nonce ++ h.half))) = (omega (arith, offer_few h w), offered) in
    (lit< tt, front_bytes h.caller (big_endian 2 h.called ++ (length h.offer ∷ (h.offer ++ (h.nonce ++ h.half)))) (front_bytes h.called (length h.offer ∷ (h.offer ++ (h.nonce ++ h.half))) counted))

reply_all : (r : Reply (List ℕ)) → WholeReply r → Bytes (reply_bytes r)
reply_all r w =
    let W = w.body_whole in
    let b = r.body in
    let answered : Bytes (answer_bytes b) = (W.choice_byte, All-append (λ x. x < 256) b.nonce (b.seal ++ b.box) W.nonce_sized.bytes (All-append (λ x. x < 256) b.seal b.box W.seal_sized.bytes W.box_sized.bytes)) in
    let before = All-append (λ x. x < 256) (hello_bytes b.hello) (answer_bytes b) (hello_all b.hello W.hello_whole) answered in
    All-append (λ x. x < 256) (body_bytes b) r.signature (lit< tt, front_bytes (length (hello_bytes b.hello ++ answer_bytes b) + signature_length) (hello_bytes b.hello ++ answer_bytes b) before) w.signature_sized.bytes

word_all : (w : Word (List ℕ)) → Whole w → Bytes (word_bytes w)
word_all (a_hello h) w = hello_all h w
word_all (a_reply r) w = reply_all r w
word_all (an_end x) w = (lit< tt, front_bytes (length x) x w.lock_bytes)

-- a word says in its first bytes how long it is
told_hello : List ℕ → ℕ
told_hello bs = 70 + get_or bs 5 0

told_length : List ℕ → ℕ
told_length bs = 3 + (get_or bs 1 0 * 256 + get_or bs 2 0)

told : List ℕ → ℕ → ℕ
told bs b = cond (eqb b kind_hello) (told_hello bs) (told_length bs)

long_told : (n : ℕ) (rest : List ℕ) (kind : ℕ) → n < 2 ^ 16 → told_length (kind ∷ (big_endian 2 n ++ rest)) ≡ 3 + n
unfolding told_length
long_told n rest kind h = ap (λ m. 3 + m) (omega (arith, value_back 2 n h))

word_told : (w : Word (List ℕ)) (more : List ℕ) → Whole w → told (word_bytes w ++ more) (get_or (word_bytes w ++ more) 0 0) ≡ length (word_bytes w)
unfolding told told_hello
word_told (a_hello h) more w = sym (hello_long h w)
word_told (a_reply r) more w =
    let W = w.body_whole in
    let few = offer_few r.body.hello W.hello_whole in
    let long = followed_long r w.signature_sized.long in
    let fits : length (followed r) < 2 ^ 16 = omega (arith, long, length-append (hello_bytes r.body.hello) (answer_bytes r.body), hello_long r.body.hello W.hello_whole, answer_long r.body W) in
    ap (λ l. told_length (l ++ more)) (followed_is r w.signature_sized.long) ∙ long_told (length (followed r)) (followed r ++ more) kind_reply fits ∙ omega (arith, ap length (followed_is r w.signature_sized.long))
word_told (an_end x) more w = long_told (length x) (x ++ more) kind_end (lock_few x w) ∙ omega arith

-- so no whole word stands in front of another
no_front : (v w : Word (List ℕ)) (more : List ℕ) → Whole v → Whole w → word_bytes v ++ more ≡ word_bytes w → more ≡ []
no_front v w more V W e =
    let a = word_told v more V in
    let b = word_told w [] W in
    let same : length (word_bytes v) ≡ length (word_bytes w) = sym a ∙ ap (λ l. told l (get_or l 0 0)) (e ∙ sym (append-nil (word_bytes w))) ∙ b in
    nil_from_length more (omega (arith, ap length e, length-append (word_bytes v) more))

pub got_malformed : {X : Type 0} (r : Result X Fault) → OnlyMalformed r → ((x : X) → r ≡ Ok x → ⊥) → got r ≡ No malformed
got_malformed (Ok x) m none = absurd (none x refl)
got_malformed (Err f) m none = ap No (m f refl)

pub one_way : BytesAreReadOneWay
one_way = record {
  written_is_read = word_back;
  read_was_written = λ bs w all e. (word_read bs w all e).0;
  read_is_whole = λ bs w all e. (word_read bs w all e).1;
  apart = word_apart;
  refused_as_malformed = all_malformed;
  cut = λ w n W short. got_malformed (read_word (take n (word_bytes w))) (all_malformed (take n (word_bytes w))) (λ v e.
      let r = word_read (take n (word_bytes w)) v (All-take (λ b. b < 256) n (word_bytes w) (word_all w W)) e in
      let none = no_front v w (drop n (word_bytes w)) r.1 W (ap (λ l. l ++ drop n (word_bytes w)) (sym r.0) ∙ take-append-drop n (word_bytes w)) in
      omega (arith, ap length none, length-drop n (word_bytes w)));
  longer = λ w more W all some. got_malformed (read_word (word_bytes w ++ more)) (all_malformed (word_bytes w ++ more)) (λ v e.
      let r = word_read (word_bytes w ++ more) v (All-append (λ b. b < 256) (word_bytes w) more (word_all w W) all) e in
      let none = no_front w v more W r.1 r.0 in
      omega (arith, ap length none));
}

-- what is signed
zeros : Sized 64 (replicate 64 0)
zeros = record { long = refl; bytes = All-from_get_or (λ b. b < 256) (replicate 64 0) 0 (λ i h. subst (λ b. b < 256) (sym (get_or-replicate 64 i 0 0 h)) (lit< tt)) }

body_apart : (x y : Body (List ℕ)) → WholeBody x → WholeBody y → body_bytes x ≡ body_bytes y → x ≡ y
body_apart x y X Y e =
    let v : Reply (List ℕ) = record { body = x; signature = replicate 64 0 } in
    let w : Reply (List ℕ) = record { body = y; signature = replicate 64 0 } in
    let V : WholeReply v = record { body_whole = X; signature_sized = zeros } in
    let W : WholeReply w = record { body_whole = Y; signature_sized = zeros } in
    let same = ok_same v w (sym (reply_back v V) ∙ ap (λ l. read_reply (l ++ replicate 64 0)) e ∙ reply_back w W) in
    ap (λ r. r.body) same

pub signed_apart : SignedBytesAreApart
signed_apart = record {
  replies = body_apart;
  ends = λ v w e. ap (drop 3) e;
  marks = λ x w e. let z : ◌≡◌ {A = ℕ} 2 3 = ap (λ l. get_or l 0 0) e in omega arith;
}

-- the parts of a reply
pub as_written : PartsAreAsWritten
as_written = record {
  hello = λ bs r all e. let R = reply_read bs r all e in ap hello_part R.is ∙ part_of r R.whole;
  signed = λ bs r all e. let R = reply_read bs r all e in ap before_signature R.is ∙ take_at (body_bytes r.body) r.signature _ (before r R.whole);
  signature = λ bs r all e. let R = reply_read bs r all e in ap last_signature R.is ∙ drop_at (body_bytes r.body) r.signature _ (before r R.whole);
  front = λ reply locked e. ap (λ n. take 3 (big_three n)) (sym e);
} where
  big_three : ℕ → List ℕ
  big_three n = kind_end ∷ (big_endian 2 n ++ [])

  before : (r : Reply (List ℕ)) → WholeReply r → length (body_bytes r.body) ≡ length (reply_bytes r) - signature_length
  before r w = omega (arith, length-append (body_bytes r.body) r.signature, w.signature_sized.long)

  part_of : (r : Reply (List ℕ)) → WholeReply r → hello_part (reply_bytes r) ≡ Ok (hello_bytes r.body.hello)
  part_of r w =
      let W = w.body_whole in
      let h = r.body.hello in
      let rest = answer_bytes r.body ++ r.signature in
      let few = offer_few h W.hello_whole in
      let fits : length (followed r) < 2 ^ 16 = omega (arith, followed_long r w.signature_sized.long, length-append (hello_bytes h) (answer_bytes r.body), hello_long h W.hello_whole, answer_long r.body W) in
      let again = append_assoc (hello_bytes h) (answer_bytes r.body) r.signature in
      ap hello_part (followed_is r w.signature_sized.long)
      ∙ ap (λ x. and_then x (λ behind. with (λ p. take (hello_length p.0) behind) (hello_front behind))) (behind_back kind_reply (followed r) fits)
      ∙ ap (λ l. with (λ p. take (hello_length p.0) l) (hello_front l)) again
      ∙ ap (with (λ p. take (hello_length p.0) (hello_bytes h ++ rest))) (hello_front_back h rest W.hello_whole)
      ∙ ap Ok (take_at (hello_bytes h) rest (hello_length h) (hello_long h W.hello_whole))
