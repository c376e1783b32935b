-- An answer or a refusal with its number, and how steps are joined. Assumes nothing.
use Rattle.std.specs.Prelude.{ℕ, Bool, true, false, Some, None, Option}

pub data Got (X : Type 0) : Type 0 where
  No : ℕ → Got X
  Yes : X → Got X

-- the first refusal is the answer
unfoldable pub bind : {X Y : Type 0} → Got X → (X → Got Y) → Got Y
bind (No n) f = No n
bind (Yes x) f = f x

-- refused with the number n unless the test passes
unfoldable pub guard : {Y : Type 0} → ℕ → Bool → Got Y → Got Y
guard n true rest = rest
guard n false rest = No n

-- refused with the number n unless there is something
unfoldable pub need : {X Y : Type 0} → ℕ → Option X → (X → Got Y) → Got Y
need n None f = No n
need n (Some x) f = f x
