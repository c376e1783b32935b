-- Tables: looking up, finding, taking out, and how long they get. Assumes nothing.
use Rattle.std.proofs.Common.{◌≡◌, ℕ, zero, suc, ◌-◌, ◌≤◌, Bool, true, false, cond, ◌⊎◌, List, [], ◌∷◌, ◌++◌, length, drop, Some, sym, refl, ap, ◌∙◌, inl, inr, arith, length-append, length-drop}
use mathlib.Core.List.Memᴰ
use mathlib.Core.List.{Memᴰ}
use Rattle.protocol.specs.Lists.{nth, put, seek, without, newest, kept}
use Rattle.protocol.proofs.Steps.{none_some, some_same}

suc_same : (m n : ℕ) → suc m ≡ suc n → m ≡ n
suc_same m n e = omega arith

-- after a change at a place: that place has the new thing, the others what they had
pub put_nth : {X : Type 0} (xs : List X) (a n : ℕ) (y z : X) → nth (put xs a y) n ≡ Some z → ((n ≡ a) × (z ≡ y)) ⊎ ((n ≡ a → ⊥) × (nth xs n ≡ Some z))
unfolding nth put
put_nth [] a n y z e = absurd (none_some z e)
put_nth (x ∷ xs) zero zero y z e = inl (refl, sym (some_same y z e))
put_nth (x ∷ xs) zero (suc n) y z e = inr ((λ f. omega arith), e)
put_nth (x ∷ xs) (suc a) zero y z e = inr ((λ f. omega arith), e)
put_nth (x ∷ xs) (suc a) (suc n) y z e = go (put_nth xs a n y z e)
  where
    go : ((n ≡ a) × (z ≡ y)) ⊎ ((n ≡ a → ⊥) × (nth xs n ≡ Some z)) → ((suc n ≡ suc a) × (z ≡ y)) ⊎ ((suc n ≡ suc a → ⊥) × (nth xs n ≡ Some z))
    go (inl p) = inl (ap suc p.0, p.1)
    go (inr p) = inr ((λ f. p.0 (suc_same n a f)), p.1)

pub nth_put : {X : Type 0} (xs : List X) (a : ℕ) (x y : X) → nth xs a ≡ Some x → nth (put xs a y) a ≡ Some y
unfolding nth put
nth_put [] a x y e = absurd (none_some x e)
nth_put (z ∷ xs) zero x y e = refl
nth_put (z ∷ xs) (suc a) x y e = nth_put xs a x y e

pub nth_other : {X : Type 0} (xs : List X) (a n : ℕ) (y : X) → (n ≡ a → ⊥) → nth (put xs a y) n ≡ nth xs n
unfolding nth put
nth_other [] a n y d = refl
nth_other (x ∷ xs) zero zero y d = absurd (d refl)
nth_other (x ∷ xs) zero (suc n) y d = refl
nth_other (x ∷ xs) (suc a) zero y d = refl
nth_other (x ∷ xs) (suc a) (suc n) y d = nth_other xs a n y (λ e. d (ap suc e))

pub length_put : {X : Type 0} (xs : List X) (a : ℕ) (y : X) → length (put xs a y) ≡ length xs
unfolding put
length_put [] a y = refl
length_put (x ∷ xs) zero y = refl
length_put (x ∷ xs) (suc a) y = ap suc (length_put xs a y)

-- what is found is there, and passes
pub seek_found : {X : Type 0} (p : X → Bool) (xs : List X) (x : X) → seek p xs ≡ Some x → Memᴰ x xs × (p x ≡ true)
unfolding seek
seek_found p [] x e = absurd (none_some x e)
seek_found p (y ∷ xs) x e = go (p y) refl e (seek_found p xs x)
  where
    go : (b : Bool) → p y ≡ b → cond b (Some y) (seek p xs) ≡ Some x → (seek p xs ≡ Some x → Memᴰ x xs × (p x ≡ true)) → Memᴰ x (y ∷ xs) × (p x ≡ true)
    go true f e rest = let s = some_same y x e in (Memᴰ.head (sym s), ap p (sym s) ∙ f)
    go false f e rest = let r = rest e in (Memᴰ.tail r.0, r.1)

-- if something there passes, something is found
pub seek_finds : {X : Type 0} (p : X → Bool) (xs : List X) (x : X) → Memᴰ x xs → p x ≡ true → (y : X) × (seek p xs ≡ Some y)
unfolding seek
seek_finds p [] x m t = elim m [ ]
seek_finds {X = X} p (y ∷ xs) x m t = go (p y) refl (Memᴰ.cases_cons m) (seek_finds p xs x)
  where
    go : (b : Bool) → p y ≡ b → (x ≡ y) ⊎ Memᴰ x xs → (Memᴰ x xs → p x ≡ true → (z : X) × (seek p xs ≡ Some z)) → (z : X) × (cond b (Some y) (seek p xs) ≡ Some z)
    go true f c rest = (y, refl)
    go false f (inl e) rest = let h : true ≡ false = sym t ∙ ap p e ∙ f in absurd (true_false h)
      where
        true_false : true ≡ false → ⊥
        true_false h = let z : ◌≡◌ {A = ℕ} 0 1 = cc in omega arith
    go false f (inr n) rest = rest n t

pub without_there : {X : Type 0} (p : X → Bool) (xs : List X) (x : X) → Memᴰ x (without p xs) → Memᴰ x xs
unfolding without
without_there p [] x m = m
without_there p (y ∷ xs) x m = go (p y) m (without_there p xs x)
  where
    go : (b : Bool) → Memᴰ x (cond b xs (y ∷ without p xs)) → (Memᴰ x (without p xs) → Memᴰ x xs) → Memᴰ x (y ∷ xs)
    go true m rest = Memᴰ.tail m
    go false m rest = either (Memᴰ.cases_cons m)
      where
        either : (x ≡ y) ⊎ Memᴰ x (without p xs) → Memᴰ x (y ∷ xs)
        either (inl e) = Memᴰ.head e
        either (inr n) = Memᴰ.tail (rest n)

-- a table never grows past its bound
pub newest_bounded : {X : Type 0} (n : ℕ) (xs : List X) → length (newest n xs) ≤ n
unfolding newest
newest_bounded n xs = rw length-drop (omega arith)

pub without_shorter : {X : Type 0} (p : X → Bool) (xs : List X) → length (without p xs) ≤ length xs
unfolding without
without_shorter p [] = omega arith
without_shorter p (x ∷ xs) = go (p x) (without_shorter p xs)
  where
    go : (b : Bool) → length (without p xs) ≤ length xs → length (cond b xs (x ∷ without p xs)) ≤ suc (length xs)
    go true h = omega arith
    go false h = omega arith

-- the new thing is kept
drop_last : {X : Type 0} (k : ℕ) (xs : List X) (x : X) → k ≤ length xs → Memᴰ x (drop k (xs ++ x ∷ []))
drop_last zero [] x h = Memᴰ.head refl
drop_last zero (y ∷ xs) x h = Memᴰ.tail (drop_last zero xs x (omega arith))
drop_last (suc k) [] x h = absurd (omega arith)
drop_last (suc k) (y ∷ xs) x h = drop_last k xs x (omega arith)

pub kept_new : {X : Type 0} (n : ℕ) (xs : List X) (x : X) → 1 ≤ n → Memᴰ x (kept n xs x)
unfolding newest
kept_new n xs x h = let k : length (xs ++ x ∷ []) - n ≤ length xs = simp length-append (omega arith) in drop_last (length (xs ++ x ∷ []) - n) xs x k

-- after a change something still stands wherever something stood
pub put_there : {X : Type 0} (xs : List X) (a n : ℕ) (y z : X) → nth xs n ≡ Some z → (x : X) × (nth (put xs a y) n ≡ Some x)
unfolding nth put
put_there [] a n y z e = absurd (none_some z e)
put_there (x ∷ xs) zero zero y z e = (y, refl)
put_there (x ∷ xs) zero (suc n) y z e = (z, e)
put_there (x ∷ xs) (suc a) zero y z e = (x, refl)
put_there (x ∷ xs) (suc a) (suc n) y z e = put_there xs a n y z e
