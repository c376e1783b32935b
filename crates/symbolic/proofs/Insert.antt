-- Lists of keys: which key was put in first doesn't matter, and one that was put in can be taken out. Assumes nothing.
use Rattle.std.proofs.Common.{◌≡◌, Bool, true, false, cond, ◌⊎◌, List, [], ◌∷◌, sym, refl, ap, ◌∙◌, inl, inr, arith}
use mathlib.Core.List.Memᴰ
use mathlib.Core.List.{Memᴰ}
use Rattle.std.proofs.lemmas.Bool.Decides.{nat_tests}
use Rattle.symbolic.specs.Key.{Key, key, precedes, insert}

precedes_total : (k l : Key) → precedes k l ≡ false → precedes l k ≡ true
unfolding precedes
precedes_total (key a b c) (key x y z) h = grind (arith, nat_tests)

precedes_antisym : (k l : Key) → precedes k l ≡ true → precedes l k ≡ true → k ≡ l
unfolding precedes
precedes_antisym (key a b c) (key x y z) h g =
    let p : a ≡ x = grind (arith, nat_tests) in
    let q : b ≡ y = grind (arith, nat_tests) in
    let r : c ≡ z = grind (arith, nat_tests) in
    cc

precedes_trans : (k l m : Key) → precedes k l ≡ true → precedes l m ≡ true → precedes k m ≡ true
unfolding precedes
precedes_trans (key a b c) (key x y z) (key u v w) h g = grind (arith, nat_tests)

-- two keys put at the head of a list, the smaller first
heads_swap : (x y : Key) (l : List Key) (p q : Bool) → precedes x y ≡ p → precedes y x ≡ q → cond p (x ∷ y ∷ l) (y ∷ x ∷ l) ≡ cond q (y ∷ x ∷ l) (x ∷ y ∷ l)
heads_swap x y l true true h g = let e = precedes_antisym x y h g in cc
heads_swap x y l true false h g = refl
heads_swap x y l false true h g = refl
heads_swap x y l false false h g = let e = precedes_total x y h in cc

-- y stands before z and x behind it: so x doesn't stand before y
behind : (x y z : Key) (p : Bool) → precedes x y ≡ p → precedes y z ≡ true → precedes x z ≡ false → p ≡ false
behind x y z true h g f = sym (precedes_trans x y z h g) ∙ f
behind x y z false h g f = refl

pub insert_swap : (x y : Key) (l : List Key) → insert x (insert y l) ≡ insert y (insert x l)
unfolding insert
insert_swap x y [] = heads_swap x y [] (precedes x y) (precedes y x) refl refl
insert_swap x y (z ∷ l) = go (precedes y z) (precedes x z) refl refl (insert_swap x y l)
  where
    go : (p q : Bool) → precedes y z ≡ p → precedes x z ≡ q → insert x (insert y l) ≡ insert y (insert x l) → insert x (cond p (y ∷ z ∷ l) (z ∷ insert y l)) ≡ insert y (cond q (x ∷ z ∷ l) (z ∷ insert x l))
    go true true h g e = simp (h, g) (heads_swap x y (z ∷ l) (precedes x y) (precedes y x) refl refl)
    go true false h g e = let f = behind x y z (precedes x y) refl h g in simp (f, h, g)
    go false true h g e = let f = behind y x z (precedes y x) refl g h in simp (f, h, g)
    go false false h g e = simp (h, g) (ap (λ t. z ∷ t) e)

-- the key itself is in, and nothing but it and what was in
pub insert_itself : (k : Key) (l : List Key) → Memᴰ k (insert k l)
unfolding insert
insert_itself k [] = Memᴰ.head refl
insert_itself k (x ∷ l) = go (precedes k x) (insert_itself k l)
  where
    go : (p : Bool) → Memᴰ k (insert k l) → Memᴰ k (cond p (k ∷ x ∷ l) (x ∷ insert k l))
    go true m = Memᴰ.head refl
    go false m = Memᴰ.tail m

pub insert_others : (z k : Key) (l : List Key) → Memᴰ z (insert k l) → (z ≡ k) ⊎ Memᴰ z l
unfolding insert
insert_others z k [] m = Memᴰ.cases_cons m
insert_others z k (x ∷ l) m = go (precedes k x) (insert_others z k l) m
  where
    later : (z ≡ k) ⊎ Memᴰ z l → (z ≡ k) ⊎ Memᴰ z (x ∷ l)
    later (inl e) = inl e
    later (inr m) = inr (Memᴰ.tail m)

    first : (Memᴰ z (insert k l) → (z ≡ k) ⊎ Memᴰ z l) → (z ≡ x) ⊎ Memᴰ z (insert k l) → (z ≡ k) ⊎ Memᴰ z (x ∷ l)
    first f (inl e) = inr (Memᴰ.head e)
    first f (inr m) = later (f m)

    go : (p : Bool) → (Memᴰ z (insert k l) → (z ≡ k) ⊎ Memᴰ z l) → Memᴰ z (cond p (k ∷ x ∷ l) (x ∷ insert k l)) → (z ≡ k) ⊎ Memᴰ z (x ∷ l)
    go true f m = Memᴰ.cases_cons m
    go false f m = first f (Memᴰ.cases_cons m)

-- the first key that is no other than this one, taken out
remove : Key → List Key → List Key
remove k [] = []
remove k (x ∷ xs) = cond (precedes k x) (cond (precedes x k) xs (x ∷ remove k xs)) (x ∷ remove k xs)

precedes_itself : (k : Key) → precedes k k ≡ true
unfolding precedes
precedes_itself (key a b c) = grind (arith, nat_tests)

remove_insert : (k : Key) (l : List Key) → remove k (insert k l) ≡ l
unfolding insert remove
remove_insert k [] = let e = precedes_itself k in simp e
remove_insert k (x ∷ l) = go (precedes k x) refl (remove_insert k l)
  where
    go : (p : Bool) → precedes k x ≡ p → remove k (insert k l) ≡ l → remove k (cond p (k ∷ x ∷ l) (x ∷ insert k l)) ≡ x ∷ l
    go true h e = let f = precedes_itself k in simp f
    go false h e = simp (h, e)

-- insertion can be undone
pub insert_cancel : (k : Key) (l m : List Key) → insert k l ≡ insert k m → l ≡ m
insert_cancel k l m e = sym (remove_insert k l) ∙ ap (remove k) e ∙ remove_insert k m
