-- Two rules without which the promise still holds: they are safeguards. Assumes nothing.
use Rattle.std.specs.Prelude.{◌≡◌, ℕ, false, List}
use Rattle.symbolic.specs.Term.{Term, Raw, One, same}
use Rattle.protocol.specs.World.{rules, World}
use Rattle.protocol.specs.Symbols.{body_term, claim_term, Variant, primitives}
use Rattle.promise.specs.Run.{Reach}
use Rattle.promise.specs.Promise.{Promise}
use Rattle.near_misses.specs.Weak.{unmarked}

-- the whole promise, of every world that is reached with sides that act in this variant of the primitives
abbrev pub StillPromised : Variant → Type 0
StillPromised v = (preferences : List (List ℕ)) (w : World Term) → Reach (rules (primitives v)) preferences w → Promise (rules (primitives v)) w

-- 11. No marks before what is signed, while the end holds the whole reply with its signature: the promise still holds.
abbrev pub without_marks : Variant
without_marks = record { body = unmarked; claim = λ w. w; one = One }

abbrev pub MarksAreASafeguard : Type 0
MarksAreASafeguard = StillPromised without_marks

-- 12. The group's one isn't refused: what is refused in its place is something that no common element is. The promise still holds.
abbrev pub without_refusing : Variant
without_refusing = record { body = body_term; claim = claim_term; one = Raw 1 }

pub record RefusingTheOneIsASafeguard : Type 0 where
  pub refuses_nothing : (x e : Term) → same ((primitives without_refusing).common x e) (primitives without_refusing).one ≡ false
  pub still_promised : StillPromised without_refusing
