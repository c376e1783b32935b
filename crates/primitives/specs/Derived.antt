-- Keys that are made from a session secret: of the lock, and of the two ways of records. Assumes nothing.
use Rattle.std.specs.Prelude.{◌≡◌, ℕ, List, [], ◌∷◌, ◌≢◌}
use Rattle.hashes.specs.Hmac.{hmac_sha256}
use Rattle.words.specs.Registry.{derive_lock, derive_to_called, derive_to_caller}
use Rattle.primitives.specs.declared.ways.Direction.{Direction}
use Rattle.primitives.specs.declared.ways.Direction.TheVariants.{ToCalled, ToCaller}

-- what the key of a lock is the sum of
abbrev pub lock_input : List ℕ
lock_input = derive_lock ∷ []

abbrev pub lock_key : List ℕ → List ℕ
lock_key secret = hmac_sha256 secret lock_input

abbrev pub way_byte : Direction → ℕ
way_byte ToCalled = derive_to_called
way_byte ToCaller = derive_to_caller

-- what the key of a way is the sum of: the way's byte, the choice, and the digest of the reply
abbrev pub way_input : Direction → ℕ → List ℕ → List ℕ
way_input way choice digest = way_byte way ∷ choice ∷ digest

abbrev pub way_key : List ℕ → Direction → ℕ → List ℕ → List ℕ
way_key secret way choice digest = hmac_sha256 secret (way_input way choice digest)

-- Each key comes from bytes of its own: those of a way tell which way, which choice and which reply, and none are those of the lock.
pub record DerivedApart : Type 0 where
  pub ways : (v w : Direction) (b c : ℕ) (d e : List ℕ) → way_input v b d ≡ way_input w c e → (v ≡ w) × (b ≡ c) × (d ≡ e)
  pub lock : (w : Direction) (c : ℕ) (d : List ℕ) → lock_input ≢ way_input w c d
