-- Bytes turned in part. Assumes nothing.
use Rattle.std.specs.Prelude.{◌≡◌, ℕ, ◌-◌, ◌<◌, ◌≤◌, List, length, bit_xor, slice_index}

-- the bytes from a place to another are turned by what a stream has from its beginning on, and the others are as they were
pub record PartTurned (stream : ℕ → ℕ) (before after : List ℕ) (at end : ℕ) : Type 0 where
  pub len : length after ≡ length before
  pub each : (p : ℕ) → at ≤ p → p < end → slice_index after p ≡ bit_xor (slice_index before p) (stream (p - at))
  pub front : (p : ℕ) → p < at → slice_index after p ≡ slice_index before p
  pub rest : (p : ℕ) → end ≤ p → slice_index after p ≡ slice_index before p
