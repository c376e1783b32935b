-- A group as its users see it: elements and secret keys are strings of bytes. Assumes nothing.
use Rattle.std.specs.Prelude.{◌≡◌, ℕ, List, length}

-- base: the element that public halves are made from; one: the group's one; raise x e: the element e raised by the secret key x
pub record GroupModel : Type 0 where
  pub base : List ℕ
  pub one : List ℕ
  pub raise : List ℕ → List ℕ → List ℕ

-- the public half of a secret key
abbrev pub half : GroupModel → List ℕ → List ℕ
half g x = g.raise x g.base

-- keys raise every element in either order, so both ways to a common element agree, also after a third key
abbrev pub Commutes : GroupModel → Type 0
Commutes g = (x y e : List ℕ) → g.raise x (g.raise y e) ≡ g.raise y (g.raise x e)

-- the one raised is the one
abbrev pub OneStays : GroupModel → Type 0
OneStays g = (x : List ℕ) → g.raise x g.one ≡ g.one

-- an element that was raised has 32 bytes
abbrev pub Sized : GroupModel → Type 0
Sized g = (x e : List ℕ) → length (g.raise x e) ≡ 32
