-- What holds of each block whose words stand side by side. Assumes nothing.
use Rattle.std.specs.Prelude.{ℕ, ◌<◌}

abbrev pub EachLane : ℕ → (ℕ → Type 0) → Type 0
EachLane lanes P = (n : ℕ) → n < lanes → P n
