-- What a choice is for, in words of the subject. Assumes nothing.
use Rattle.std.specs.Prelude.{◌≡◌, ℕ, ◌<◌, true, false, List, length, Some, None, Option, ◌≢◌, slice_index, slice_index_or}
use Rattle.words.specs.Choice.{holds}

-- c is offered, stands among the preferences, and none that stands before it is offered
pub record BestCommon (preferred offered : List ℕ) (c : ℕ) : Type 0 where
  pub place : ℕ
  pub within : place < length preferred
  pub stands : slice_index_or preferred place 0 ≡ c
  pub is_offered : holds offered c ≡ true
  pub none_before : (k : ℕ) → k < place → holds offered (slice_index preferred k) ≡ false

-- no cipher stands in both lists
abbrev pub NothingCommon : List ℕ → List ℕ → Type 0
NothingCommon preferred offered = (c : ℕ) → holds preferred c ≡ true → holds offered c ≢ true

-- a choice is the best common cipher, and there is none only if no cipher is common
abbrev pub Best : List ℕ → List ℕ → Option ℕ → Type 0
Best preferred offered None = NothingCommon preferred offered
Best preferred offered (Some c) = BestCommon preferred offered c
