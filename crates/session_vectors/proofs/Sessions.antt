-- What is computed of a worked session. Assumes nothing.
use Rattle.std.proofs.Common.{◌≡◌, ℕ, Bool, true, List, ap, ◌∙◌, ap₂}
use Rattle.stand_in.specs.StandIn.{stand_in_signatures}
use Rattle.stand_in.specs.Products.{signed_verifies}

-- what the stand-in signed is verified
pub verified : (r : Bool) (key p m n s : List ℕ) → p ≡ stand_in_signatures.public key → m ≡ n → s ≡ stand_in_signatures.sign key n → r ≡ stand_in_signatures.verifies p m s → r ≡ true
verified r key p m n s e f g h =
    h ∙ ap₂ (λ x y. stand_in_signatures.verifies x y s) e f ∙ ap (stand_in_signatures.verifies (stand_in_signatures.public key) n) g ∙ signed_verifies key n
