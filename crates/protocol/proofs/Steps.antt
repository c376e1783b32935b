-- What an answer says of the stages that it came through. Assumes nothing.
use Rattle.std.proofs.Common.{◌≡◌, ℕ, Bool, true, false, Some, None, Option, refl, ap, arith}
use Rattle.protocol.specs.Got.{Got, No, Yes, bind, guard, need}

pub no_yes : {X : Type 0} (n : ℕ) (x : X) → No n ≡ Yes x → ⊥
no_yes n x e = let z : ◌≡◌ {A = ℕ} 0 1 = cc in omega arith

pub yes_same : {X : Type 0} (x y : X) → Yes x ≡ Yes y → x ≡ y
yes_same x y e = cc

pub none_some : {X : Type 0} (x : X) → None ≡ Some x → ⊥
none_some x e = let z : ◌≡◌ {A = ℕ} 0 1 = cc in omega arith

pub some_same : {X : Type 0} (x y : X) → Some x ≡ Some y → x ≡ y
some_same x y e = cc

pub by_bind : {X Y : Type 0} (g : Got X) (f : X → Got Y) (y : Y) → bind g f ≡ Yes y → (x : X) × (g ≡ Yes x) × (f x ≡ Yes y)
unfolding bind
by_bind (No n) f y e = absurd (no_yes n y e)
by_bind (Yes x) f y e = (x, refl, e)

pub by_guard : {Y : Type 0} (n : ℕ) (b : Bool) (rest : Got Y) (y : Y) → guard n b rest ≡ Yes y → (b ≡ true) × (rest ≡ Yes y)
unfolding guard
by_guard n true rest y e = (refl, e)
by_guard n false rest y e = absurd (no_yes n y e)

pub by_need : {X Y : Type 0} (n : ℕ) (o : Option X) (f : X → Got Y) (y : Y) → need n o f ≡ Yes y → (x : X) × (o ≡ Some x) × (f x ≡ Yes y)
unfolding need
by_need n None f y e = absurd (no_yes n y e)
by_need n (Some x) f y e = (x, refl, e)

-- and the other way: stages that are passed
pub guard_passed : {Y : Type 0} (n : ℕ) (b : Bool) (rest : Got Y) → b ≡ true → guard n b rest ≡ rest
unfolding guard
guard_passed n b rest e = ap (λ t. guard n t rest) e

pub need_met : {X Y : Type 0} (n : ℕ) (o : Option X) (f : X → Got Y) (x : X) → o ≡ Some x → need n o f ≡ f x
unfolding need
need_met n o f x e = ap (λ t. need n t f) e

pub bind_met : {X Y : Type 0} (g : Got X) (f : X → Got Y) (x : X) → g ≡ Yes x → bind g f ≡ f x
unfolding bind
bind_met g f x e = ap (λ t. bind t f) e
