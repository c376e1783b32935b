-- What the search through two slices finds, by places. Assumes nothing.
use Rattle.std.specs.Prelude.{◌≡◌, ℕ, ◌<◌, List, length, Some, None, Option, ◌≢◌, slice_index_or}
use Rattle.words.specs.declared.cipher.Cipher.{Cipher}

-- what stands at a place
abbrev pub at : List Cipher → ℕ → Cipher
at cs i = slice_index_or cs i (record { number = 0 })

-- none of the first i ciphers is one of the offered
abbrev pub NoneOffered : List Cipher → ℕ → List Cipher → Type 0
NoneOffered ranked i offered = (k m : ℕ) → k < i → m < length offered → at ranked k ≢ at offered m

-- c stands at place i, it is offered at place j, and none before it is
pub record FirstCommon (ranked offered : List Cipher) (c : Cipher) : Type 0 where
  pub place : ℕ
  pub within : place < length ranked
  pub stands : at ranked place ≡ c
  pub where_offered : ℕ
  pub among : where_offered < length offered
  pub is_offered : at offered where_offered ≡ c
  pub none_before : NoneOffered ranked place offered

abbrev pub Searched : List Cipher → List Cipher → Option Cipher → Type 0
Searched ranked offered None = NoneOffered ranked (length ranked) offered
Searched ranked offered (Some c) = FirstCommon ranked offered c
