-- Terms: equality is decided, keys raise in any order, and what is seen of a term says what it is. Assumes nothing.
use Rattle.std.proofs.Common.{◌≡◌, ℕ, true, List, [], sym, refl, ap, ◌∙◌}
use Rattle.std.proofs.lemmas.Bool.{false≢true}
use Rattle.symbolic.specs.Key.{Key, insert}
use Rattle.symbolic.specs.Term.{Term, Raw, Number, Listed, Fresh, Secret, Public, One, Small, Element, Power, Sign, Digest, Mac, Close, Both, Tag, terms_discrete, decided, same, rise, Seen, a_number, a_list, a_secret, a_public, a_closed, a_pair, a_tagged, something, seen}
use Rattle.symbolic.proofs.Insert.{insert_swap}

decided_true : {X : Type 0} (d : Dec X) → decided d ≡ true → X
unfolding decided
decided_true (yes x) e = x
decided_true (no n) e = absurd (false≢true e)

decided_of : {X : Type 0} (d : Dec X) → X → decided d ≡ true
unfolding decided
decided_of (yes x) y = refl
decided_of (no n) y = absurd (n y)

pub same_is : (a b : Term) → same a b ≡ true → a ≡ b
unfolding same
same_is a b e = decided_true (terms_discrete a b) e

pub is_same : (a b : Term) → a ≡ b → same a b ≡ true
unfolding same
is_same a b e = decided_of (terms_discrete a b) e

-- by which of two keys an element is raised first doesn't matter
pub rise_swap : (x y : Key) (e : Term) → rise x (rise y e) ≡ rise y (rise x e)
unfolding rise insert
rise_swap x y (Raw n) = ap (Power (Raw n)) (insert_swap x y [])
rise_swap x y (Number w n) = ap (Power (Number w n)) (insert_swap x y [])
rise_swap x y (Listed ns) = ap (Power (Listed ns)) (insert_swap x y [])
rise_swap x y (Fresh t i) = ap (Power (Fresh t i)) (insert_swap x y [])
rise_swap x y (Secret l) = ap (Power (Secret l)) (insert_swap x y [])
rise_swap x y (Public l) = ap (Power (Public l)) (insert_swap x y [])
rise_swap x y One = refl
rise_swap x y (Small n) = refl
rise_swap x y (Element ks) = ap Element (insert_swap x y ks)
rise_swap x y (Power e ks) = ap (Power e) (insert_swap x y ks)
rise_swap x y (Sign l m) = ap (Power (Sign l m)) (insert_swap x y [])
rise_swap x y (Digest m) = ap (Power (Digest m)) (insert_swap x y [])
rise_swap x y (Mac l m) = ap (Power (Mac l m)) (insert_swap x y [])
rise_swap x y (Close l n h m) = ap (Power (Close l n h m)) (insert_swap x y [])
rise_swap x y (Both a b) = ap (Power (Both a b)) (insert_swap x y [])
rise_swap x y (Tag n m) = ap (Power (Tag n m)) (insert_swap x y [])

pub one_stays : (x : Key) → rise x One ≡ One
unfolding rise
one_stays x = refl

-- the term that was seen
back : Seen → Term → Term
back (a_number w n) t = Number w n
back (a_list ns) t = Listed ns
back (a_secret k) t = Secret k
back (a_public k) t = Public k
back (a_closed k n h m) t = Close k n h m
back (a_pair a b) t = Both a b
back (a_tagged n m) t = Tag n m
back something t = t

seen_back : (t : Term) → back (seen t) t ≡ t
unfolding seen back
seen_back (Raw n) = refl
seen_back (Number w n) = refl
seen_back (Listed ns) = refl
seen_back (Fresh t i) = refl
seen_back (Secret l) = refl
seen_back (Public l) = refl
seen_back One = refl
seen_back (Small n) = refl
seen_back (Element ks) = refl
seen_back (Power e ks) = refl
seen_back (Sign l m) = refl
seen_back (Digest m) = refl
seen_back (Mac l m) = refl
seen_back (Close l n h m) = refl
seen_back (Both a b) = refl
seen_back (Tag n m) = refl

was : (t : Term) (s : Seen) → seen t ≡ s → t ≡ back s t
was t s e = sym (seen_back t) ∙ ap (λ s. back s t) e

pub was_number : (t : Term) (w n : ℕ) → seen t ≡ a_number w n → t ≡ Number w n
unfolding back
was_number t w n e = was t (a_number w n) e

pub was_list : (t : Term) (ns : List ℕ) → seen t ≡ a_list ns → t ≡ Listed ns
unfolding back
was_list t ns e = was t (a_list ns) e

pub was_secret : (t : Term) (k : Key) → seen t ≡ a_secret k → t ≡ Secret k
unfolding back
was_secret t k e = was t (a_secret k) e

pub was_public : (t : Term) (k : Key) → seen t ≡ a_public k → t ≡ Public k
unfolding back
was_public t k e = was t (a_public k) e

pub was_closed : (t k h m : Term) (n : ℕ) → seen t ≡ a_closed k n h m → t ≡ Close k n h m
unfolding back
was_closed t k h m n e = was t (a_closed k n h m) e

pub was_pair : (t a b : Term) → seen t ≡ a_pair a b → t ≡ Both a b
unfolding back
was_pair t a b e = was t (a_pair a b) e

pub was_tagged : (t m : Term) (n : ℕ) → seen t ≡ a_tagged n m → t ≡ Tag n m
unfolding back
was_tagged t m n e = was t (a_tagged n m) e
