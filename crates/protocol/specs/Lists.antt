-- Lists as tables: looking up, finding the first, taking it out, and keeping the newest. Assumes nothing.
use Rattle.std.specs.Prelude.{ℕ, zero, suc, ◌-◌, Bool, cond, List, [], ◌∷◌, ◌++◌, length, drop, Some, None, Option}

-- what stands at a place
unfoldable pub nth : {X : Type 0} → List X → ℕ → Option X
nth [] n = None
nth (x ∷ xs) zero = Some x
nth (x ∷ xs) (suc n) = nth xs n

-- another thing at a place; nothing where there is no such place
unfoldable pub put : {X : Type 0} → List X → ℕ → X → List X
put [] n y = []
put (x ∷ xs) zero y = y ∷ xs
put (x ∷ xs) (suc n) y = x ∷ put xs n y

-- the first that passes
unfoldable pub seek : {X : Type 0} → (X → Bool) → List X → Option X
seek p [] = None
seek p (x ∷ xs) = cond (p x) (Some x) (seek p xs)

-- all but the first that passes
unfoldable pub without : {X : Type 0} → (X → Bool) → List X → List X
without p [] = []
without p (x ∷ xs) = cond (p x) xs (x ∷ without p xs)

-- the n newest: the oldest stand first, and go first
unfoldable pub newest : {X : Type 0} → ℕ → List X → List X
newest n xs = drop (length xs - n) xs

-- a table with one more, of which at most n are kept
abbrev pub kept : {X : Type 0} → ℕ → List X → X → List X
kept n xs x = newest n (xs ++ x ∷ [])
