-- What stands behind the first bytes of a word, changed in its place. Assumes nothing.
use Rattle.std.specs.Prelude.{◌≡◌, ℕ, List, take, drop}

-- a change of what stands behind the first bytes of a word, which stay
abbrev pub Behind : ℕ → (List ℕ → List ℕ → Type 0) → List ℕ → List ℕ → Type 0
Behind start Change before after = (take start after ≡ take start before) × Change (drop start before) (drop start after)
