-- Reading over terms: what is read was written so, and what is written is read back. Assumes nothing.
use Rattle.std.proofs.Common.{◌≡◌, ℕ, Bool, true, false, cond, ◌&&◌, eqb, List, Some, None, sym, refl, ap, ◌∙◌, ap₂, arith}
use Rattle.std.proofs.lemmas.Bool.{eqb-true, eq-eqb, and_parts}
use Rattle.words.specs.Numbers.{malformed}
use Rattle.words.specs.Registry.{kind_hello, kind_end, mark_reply}
use Rattle.words.specs.Choice.{proper}
use Rattle.symbolic.specs.Key.{Key}
use Rattle.symbolic.specs.Term.{Term, Raw, Number, Listed, Public, Sign, Close, Both, Tag, same, Seen, a_number, a_list, a_secret, a_public, a_closed, a_pair, a_tagged, something, seen}
use Rattle.symbolic.proofs.Terms.{same_is, is_same, was_number, was_list, was_closed, was_pair, was_tagged}
use Rattle.protocol.specs.Got.{Got, Yes, bind, guard}
use Rattle.protocol.specs.Words.{Hello, Body, Reply, Word, a_hello, a_reply, an_end}
use Rattle.protocol.specs.Symbols.{hello_term, body_term, reply_term, word_term, as_tagged, as_pair, as_number, as_list, read_hello, read_body, read_seen, read_term, verified, public_seen, unclose_seen, front_seen, rear_seen}
use Rattle.protocol.proofs.Steps.{no_yes, yes_same, none_some, some_same, by_bind, by_guard}

by_tagged : {Y P : Type 0} (n : ℕ) (t : Term) (f : Term → Got Y) (y : Y) → as_tagged n (seen t) f ≡ Yes y → ((c : Term) → t ≡ Tag n c → f c ≡ Yes y → P) → P
unfolding as_tagged
by_tagged {P = P} n t f y e to = go (seen t) refl e
  where
    go : (s : Seen) → seen t ≡ s → as_tagged n s f ≡ Yes y → P
    go (a_tagged m c) g e = let p = by_guard malformed (eqb m n) (f c) y e in to c (was_tagged t c m g ∙ ap (λ k. Tag k c) (eqb-true m n p.0)) p.1
    go (a_number w k) g e = absurd (no_yes malformed y e)
    go (a_list ns) g e = absurd (no_yes malformed y e)
    go (a_secret k) g e = absurd (no_yes malformed y e)
    go (a_public k) g e = absurd (no_yes malformed y e)
    go (a_closed k m h c) g e = absurd (no_yes malformed y e)
    go (a_pair a b) g e = absurd (no_yes malformed y e)
    go something g e = absurd (no_yes malformed y e)

by_pair : {Y P : Type 0} (t : Term) (f : Term → Term → Got Y) (y : Y) → as_pair (seen t) f ≡ Yes y → ((a b : Term) → t ≡ Both a b → f a b ≡ Yes y → P) → P
unfolding as_pair
by_pair {P = P} t f y e to = go (seen t) refl e
  where
    go : (s : Seen) → seen t ≡ s → as_pair s f ≡ Yes y → P
    go (a_pair a b) g e = to a b (was_pair t a b g) e
    go (a_tagged m c) g e = absurd (no_yes malformed y e)
    go (a_number w k) g e = absurd (no_yes malformed y e)
    go (a_list ns) g e = absurd (no_yes malformed y e)
    go (a_secret k) g e = absurd (no_yes malformed y e)
    go (a_public k) g e = absurd (no_yes malformed y e)
    go (a_closed k m h c) g e = absurd (no_yes malformed y e)
    go something g e = absurd (no_yes malformed y e)

by_number : {Y P : Type 0} (n : ℕ) (t : Term) (f : ℕ → Got Y) (y : Y) → as_number n (seen t) f ≡ Yes y → ((k : ℕ) → t ≡ Number n k → f k ≡ Yes y → P) → P
unfolding as_number
by_number {P = P} n t f y e to = go (seen t) refl e
  where
    go : (s : Seen) → seen t ≡ s → as_number n s f ≡ Yes y → P
    go (a_number w k) g e = let p = by_guard malformed (eqb w n) (f k) y e in to k (was_number t w k g ∙ ap (λ v. Number v k) (eqb-true w n p.0)) p.1
    go (a_pair a b) g e = absurd (no_yes malformed y e)
    go (a_tagged m c) g e = absurd (no_yes malformed y e)
    go (a_list ns) g e = absurd (no_yes malformed y e)
    go (a_secret k) g e = absurd (no_yes malformed y e)
    go (a_public k) g e = absurd (no_yes malformed y e)
    go (a_closed k m h c) g e = absurd (no_yes malformed y e)
    go something g e = absurd (no_yes malformed y e)

by_list : {Y P : Type 0} (t : Term) (f : List ℕ → Got Y) (y : Y) → as_list (seen t) f ≡ Yes y → ((ns : List ℕ) → t ≡ Listed ns → f ns ≡ Yes y → P) → P
unfolding as_list
by_list {P = P} t f y e to = go (seen t) refl e
  where
    go : (s : Seen) → seen t ≡ s → as_list s f ≡ Yes y → P
    go (a_list ns) g e = to ns (was_list t ns g) e
    go (a_number w k) g e = absurd (no_yes malformed y e)
    go (a_pair a b) g e = absurd (no_yes malformed y e)
    go (a_tagged m c) g e = absurd (no_yes malformed y e)
    go (a_secret k) g e = absurd (no_yes malformed y e)
    go (a_public k) g e = absurd (no_yes malformed y e)
    go (a_closed k m h c) g e = absurd (no_yes malformed y e)
    go something g e = absurd (no_yes malformed y e)

-- a hello that is read is the one that was written
read_hello_is : (t : Term) (h : Hello Term) → read_hello t ≡ Yes h → t ≡ hello_term h
unfolding read_hello
read_hello_is t h e =
    by_tagged kind_hello t _ h e (λ c pc ec.
    by_pair c _ h ec (λ a d pd ed.
    by_number 2 a _ h ed (λ caller pa ea.
    by_pair d _ h ea (λ b g pg eg.
    by_number 2 b _ h eg (λ called pb eb.
    by_pair g _ h eb (λ o k pk ek.
    by_list o _ h ek (λ offer po eo.
    let q = by_guard malformed (proper offer) _ h eo in
    by_pair k _ h q.1 (λ nonce half ph eh.
    let l = yes_same (record { caller = caller; called = called; offer = offer; nonce = nonce; half = half }) h eh in
    pc ∙ ap (Tag kind_hello) (pd ∙ ap₂ Both pa (pg ∙ ap₂ Both pb (pk ∙ ap₂ Both po ph))) ∙ ap hello_term l))))))))

read_body_is : (t : Term) (x : Body Term) → read_body t ≡ Yes x → t ≡ body_term x
unfolding read_body
read_body_is t x e =
    by_tagged mark_reply t _ x e (λ c pc ec.
    by_pair c _ x ec (λ h d pd ed.
    let q = by_bind (read_hello h) _ x ed in
    let ph = read_hello_is h q.0 q.1 in
    by_pair d _ x q.2 (λ n g pg eg.
    by_number 1 n _ x eg (λ choice pn en.
    by_pair g _ x en (λ nonce k pk ek.
    by_pair k _ x ek (λ seal box pb eb.
    let l = yes_same (record { hello = q.0; choice = choice; nonce = nonce; seal = seal; box = box }) x eb in
    pc ∙ ap (Tag mark_reply) (pd ∙ ap₂ Both ph (pg ∙ ap₂ Both pn (pk ∙ ap (Both nonce) pb))) ∙ ap body_term l))))))

-- what is read was written so
pub read_is : (t : Term) (w : Word Term) → read_term t ≡ Yes w → t ≡ word_term w
unfolding read_seen
read_is t w e = go (seen t) refl e
  where
    go : (s : Seen) → seen t ≡ s → read_seen t s ≡ Yes w → t ≡ word_term w
    go (a_pair a b) g e =
        let q = by_bind (read_body a) _ w e in
        let l = yes_same (a_reply (record { body = q.0; signature = b })) w q.2 in
        was_pair t a b g ∙ ap (λ x. Both x b) (read_body_is a q.0 q.1) ∙ ap word_term l
    go (a_tagged n c) g e = either (eqb n kind_end) refl e
      where
        either : (b : Bool) → eqb n kind_end ≡ b → cond b (Yes (an_end c)) (bind (read_hello t) (λ h. Yes (a_hello h))) ≡ Yes w → t ≡ word_term w
        either true p e = was_tagged t c n g ∙ ap (λ k. Tag k c) (eqb-true n kind_end p) ∙ ap word_term (yes_same (an_end c) w e)
        either false p e = let q = by_bind (read_hello t) _ w e in read_hello_is t q.0 q.1 ∙ ap word_term (yes_same (a_hello q.0) w q.2)
    go (a_number v k) g e = absurd (no_yes malformed w e)
    go (a_list ns) g e = absurd (no_yes malformed w e)
    go (a_secret k) g e = absurd (no_yes malformed w e)
    go (a_public k) g e = absurd (no_yes malformed w e)
    go (a_closed k m h c) g e = absurd (no_yes malformed w e)
    go something g e = absurd (no_yes malformed w e)

-- what is written is read back
pub written_hello : (h : Hello Term) → proper h.offer ≡ true → read_term (hello_term h) ≡ Yes (a_hello h)
unfolding read_seen seen read_hello as_tagged as_pair as_number as_list guard bind
written_hello h p = simp p

pub written_reply : (r : Reply Term) → proper r.body.hello.offer ≡ true → read_term (reply_term r) ≡ Yes (a_reply r)
unfolding read_seen seen read_body read_hello as_tagged as_pair as_number as_list guard bind
written_reply r p = simp p

pub written_end : (x : Term) → read_term (word_term (an_end x)) ≡ Yes (an_end x)
unfolding read_seen seen
written_end x = refl

-- a signature that verifies is that key's over that message
pub verified_is : (k : Key) (p m s : Term) → p ≡ Public k → verified (public_seen (seen p)) m s ≡ true → s ≡ Sign k m
unfolding verified public_seen seen
verified_is k p m s e v = same_is s (Sign k m) (sym (ap (λ q. verified (public_seen (seen q)) m s) e) ∙ v)

-- what opens was closed so
pub unclosed_is : (k h t c : Term) (n : ℕ) → unclose_seen k n h (seen t) ≡ Some c → t ≡ Close k n h c
unfolding unclose_seen
unclosed_is k h t c n e = go (seen t) refl e
  where
    go : (s : Seen) → seen t ≡ s → unclose_seen k n h s ≡ Some c → t ≡ Close k n h c
    go (a_closed l m g d) p e = either (same k l && eqb n m && same h g) refl e
      where
        either : (b : Bool) → (same k l && eqb n m && same h g) ≡ b → cond b (Some d) None ≡ Some c → t ≡ Close k n h c
        either true q e =
            let x = and_parts (same k l && eqb n m) (same h g) q in
            let y = and_parts (same k l) (eqb n m) x.0 in
            let u = same_is k l y.0 in
            let v = eqb-true n m y.1 in
            let w = same_is h g x.1 in
            let z = some_same d c e in
            let a = was_closed t l g d m p in
            cc
        either false q e = absurd (none_some c e)
    go (a_pair a b) p e = absurd (none_some c e)
    go (a_tagged m d) p e = absurd (none_some c e)
    go (a_number w l) p e = absurd (none_some c e)
    go (a_list ns) p e = absurd (none_some c e)
    go (a_secret l) p e = absurd (none_some c e)
    go (a_public l) p e = absurd (none_some c e)
    go something p e = absurd (none_some c e)

raw_sign : (n : ℕ) (k : Key) (m : Term) → Raw n ≡ Sign k m → ⊥
raw_sign n k m e = let z : ◌≡◌ {A = ℕ} 0 1 = cc in omega arith

-- a content with a signature in its rear is a pair
pub content_is : (t m : Term) (k : Key) → rear_seen (seen t) ≡ Sign k m → t ≡ Both (front_seen t (seen t)) (Sign k m)
unfolding front_seen rear_seen
content_is t m k e = go (seen t) refl e
  where
    go : (s : Seen) → seen t ≡ s → rear_seen s ≡ Sign k m → t ≡ Both (front_seen t s) (Sign k m)
    go (a_pair a b) p e = was_pair t a b p ∙ ap (Both a) e
    go (a_tagged n d) p e = absurd (raw_sign 0 k m e)
    go (a_number w l) p e = absurd (raw_sign 0 k m e)
    go (a_list ns) p e = absurd (raw_sign 0 k m e)
    go (a_secret l) p e = absurd (raw_sign 0 k m e)
    go (a_public l) p e = absurd (raw_sign 0 k m e)
    go (a_closed l n h d) p e = absurd (raw_sign 0 k m e)
    go something p e = absurd (raw_sign 0 k m e)

-- and the other way: what was signed verifies, and what was closed opens
pub signed_verifies : (k : Key) (p m s : Term) → p ≡ Public k → s ≡ Sign k m → verified (public_seen (seen p)) m s ≡ true
unfolding verified public_seen seen
signed_verifies k p m s e f = ap (λ q. verified (public_seen (seen q)) m s) e ∙ is_same s (Sign k m) f

pub closed_opens : (k l h c t : Term) (n : ℕ) → t ≡ Close l n h c → k ≡ l → unclose_seen k n h (seen t) ≡ Some c
unfolding unclose_seen seen
closed_opens k l h c t n e f =
    let a = is_same k l f in
    let b = is_same h h refl in
    let d = eq-eqb n n refl in
    ap (λ x. unclose_seen k n h (seen x)) e ∙ ap (λ x. cond (x && eqb n n && same h h) (Some c) None) a ∙ ap (λ x. cond (x && same h h) (Some c) None) d ∙ ap (λ x. cond x (Some c) None) b
