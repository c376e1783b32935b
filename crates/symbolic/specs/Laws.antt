-- What holds of terms and of what can be derived. Assumes nothing.
use Rattle.std.specs.Prelude.{◌≡◌, true, List}
use mathlib.Core.List.{Memᴰ}
use Rattle.symbolic.specs.Key.{Key}
use Rattle.symbolic.specs.Term.{Term, One, same, rise}
use Rattle.symbolic.specs.Derivable.{Gets}

-- The test for equality says equality.
pub record SameSaysEqual : Type 0 where
  pub says : (a b : Term) → same a b ≡ true → a ≡ b
  pub said : (a b : Term) → a ≡ b → same a b ≡ true

-- The group: by which of two keys an element is raised first doesn't matter, for every element; and the one stays the one.
pub record GroupLaws : Type 0 where
  pub commutes : (x y : Key) (e : Term) → rise x (rise y e) ≡ rise y (rise x e)
  pub one_stays : (x : Key) → rise x One ≡ One

-- Who has heard more derives no less.
abbrev pub HearingMore : Type 0
HearingMore = (few many : List Term) → ((t : Term) → Memᴰ t few → Memᴰ t many) → (t : Term) → Gets few t → Gets many t
