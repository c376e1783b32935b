-- Tables in the order of time: each row has its time, and they rise. Assumes nothing.
use Rattle.std.proofs.Common.{◌≡◌, ℕ, zero, suc, ◌-◌, ◌<◌, ◌≤◌, Bool, true, false, cond, ◌⊎◌, List, [], ◌∷◌, ◌++◌, length, drop, sym, refl, ap, ◌∙◌, subst, inl, inr, arith}
use mathlib.Core.List.Memᴰ
use mathlib.Core.List.{Memᴰ}
use Rattle.std.proofs.lemmas.Bool.{false≢true}
use Rattle.protocol.specs.Lists.{without, newest}

-- R x t: the row x is right, and its time is t; all times are from low on and below high
pub data Rows {X : Type 0} (R : X → ℕ → Type 0) (high : ℕ) : ℕ → List X → Type 0 where
  none : {low : ℕ} → low ≤ high → Rows R high low []
  some : {low : ℕ} {x : X} {xs : List X} (t : ℕ) → R x t → low ≤ t → Rows R high (suc t) xs → Rows R high low (x ∷ xs)

pub rows_high : {X : Type 0} {R : X → ℕ → Type 0} {high low : ℕ} {xs : List X} (more : ℕ) → high ≤ more → Rows R high low xs → Rows R more low xs
rows_high more h (none l) = none (omega arith)
rows_high more h (some t r l rest) = some t r l (rows_high more h rest)

rows_low : {X : Type 0} {R : X → ℕ → Type 0} {high low : ℕ} {xs : List X} (less : ℕ) → less ≤ low → Rows R high low xs → Rows R high less xs
rows_low less h (none l) = none (omega arith)
rows_low less h (some t r l rest) = some t r (omega arith) rest

-- the rows stay right under another law
pub rows_map : {X : Type 0} {R : X → ℕ → Type 0} (S : X → ℕ → Type 0) {high low : ℕ} {xs : List X} → ((x : X) (t : ℕ) → Memᴰ x xs → R x t → S x t) → Rows R high low xs → Rows S high low xs
rows_map S f (none l) = none l
rows_map S f (some {x = x} t r l rest) = some t (f x t (Memᴰ.head refl) r) l (rows_map S (λ y u m. f y u (Memᴰ.tail m)) rest)

-- a new row at the end
pub rows_append : {X : Type 0} {R : X → ℕ → Type 0} {high low : ℕ} {xs : List X} (x : X) → R x high → Rows R high low xs → Rows R (suc high) low (xs ++ x ∷ [])
rows_append {high = high} x r (none l) = some high r l (none (omega arith))
rows_append x r (some t s l rest) = some t s l (rows_append x r rest)

rows_drop : {X : Type 0} {R : X → ℕ → Type 0} {high low : ℕ} (n : ℕ) {xs : List X} → Rows R high low xs → Rows R high low (drop n xs)
rows_drop zero rows = rows
rows_drop (suc n) (none l) = none l
rows_drop {low = low} (suc n) (some t r l rest) = rows_low low (omega arith) (rows_drop n rest)

pub rows_newest : {X : Type 0} {R : X → ℕ → Type 0} {high low : ℕ} (n : ℕ) (xs : List X) → Rows R high low xs → Rows R high low (newest n xs)
unfolding newest
rows_newest n xs rows = rows_drop (length xs - n) rows

pub rows_without : {X : Type 0} {R : X → ℕ → Type 0} {high low : ℕ} (p : X → Bool) {xs : List X} → Rows R high low xs → Rows R high low (without p xs)
unfolding without
rows_without p (none l) = none l
rows_without {R = R} {high = high} {low = low} p (some {x = x} {xs = xs} t r l rest) = go (p x) (rows_without p rest)
  where
    go : (b : Bool) → Rows R high (suc t) (without p xs) → Rows R high low (cond b xs (x ∷ without p xs))
    go true w = rows_low low (omega arith) rest
    go false w = some t r l w

-- the row of something that is there
pub rows_of : {X : Type 0} {R : X → ℕ → Type 0} {high low : ℕ} {xs : List X} (x : X) → Memᴰ x xs → Rows R high low xs → (t : ℕ) × R x t × (low ≤ t)
rows_of x m (none l) = elim m [ ]
rows_of {R = R} {low = low} x m (some {x = y} {xs = xs} t r l rest) = go (Memᴰ.cases_cons m) (λ n. rows_of x n rest)
  where
    go : (x ≡ y) ⊎ Memᴰ x xs → (Memᴰ x xs → (u : ℕ) × R x u × (suc t ≤ u)) → (u : ℕ) × R x u × (low ≤ u)
    go (inl e) f = (t, subst (λ z. R z t) (sym e) r, l)
    go (inr n) f = let w = f n in let h = w.2 in (w.0, w.1, omega arith)

-- if rows that pass have one time, then none is left once the first is taken out
pub rows_once : {X : Type 0} {R : X → ℕ → Type 0} {high low : ℕ} (p : X → Bool) → ((x y : X) (t u : ℕ) → R x t → R y u → p x ≡ true → p y ≡ true → t ≡ u) → {xs : List X} → Rows R high low xs → (y : X) → Memᴰ y (without p xs) → p y ≡ true → ⊥
unfolding without
rows_once p one (none l) y m e = elim m [ ]
rows_once {X = X} {R = R} p one (some {x = x} {xs = xs} t r l rest) y m e = go (p x) refl m (rows_once p one rest y)
  where
    go : (b : Bool) → p x ≡ b → Memᴰ y (cond b xs (x ∷ without p xs)) → (Memᴰ y (without p xs) → p y ≡ true → ⊥) → ⊥
    go true f m rec = let w = rows_of y m rest in let h = w.2 in let k = one x y t w.0 r w.1 f e in omega arith
    go false f m rec = either (Memᴰ.cases_cons m)
      where
        either : (y ≡ x) ⊎ Memᴰ y (without p xs) → ⊥
        either (inl q) = false≢true (sym f ∙ ap p (sym q) ∙ e)
        either (inr n) = rec n e

-- of two rows the one that stands behind has the later time
pub rows_pair : {X : Type 0} {R : X → ℕ → Type 0} {high low : ℕ} (c d : X) (front rest : List X) → Rows R high low (front ++ c ∷ rest) → Memᴰ d rest → (t : ℕ) × (u : ℕ) × R c t × R d u × (t < u)
rows_pair c d [] rest (some t r l more) m = let w = rows_of d m more in (t, w.0, r, w.1, w.2)
rows_pair c d (x ∷ front) rest (some t r l more) m = rows_pair c d front rest more m
