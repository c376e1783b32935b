-- Lists of ciphers, and which of them a called side chooses. Assumes nothing.
use Rattle.std.specs.Prelude.{ℕ, Bool, true, false, cond, not, ◌&&◌, ◌||◌, List, [], ◌∷◌, length, Some, None, Option, ◌==◌, nat_le}

-- the most ciphers of a list
abbrev pub most_ciphers : ℕ
most_ciphers = 16

-- whether a cipher stands in a list
unfoldable pub holds : List ℕ → ℕ → Bool
holds [] c = false
holds (x ∷ xs) c = x == c || holds xs c

-- whether no cipher stands twice in a list
unfoldable pub distinct : List ℕ → Bool
distinct [] = true
distinct (x ∷ xs) = not (holds xs x) && distinct xs

-- whether a list can be preferred or offered: 1 to 16 ciphers, none twice
abbrev pub proper : List ℕ → Bool
proper cs = nat_le 1 (length cs) && nat_le (length cs) most_ciphers && distinct cs

-- the first of the preferences that the offer holds
unfoldable pub choose : List ℕ → List ℕ → Option ℕ
choose [] offer = None
choose (p ∷ ps) offer = cond (holds offer p) (Some p) (choose ps offer)
