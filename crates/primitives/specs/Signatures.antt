-- Signatures as their users see them: keys, messages and signatures are strings of bytes. Assumes nothing.
use Rattle.std.specs.Prelude.{◌≡◌, ℕ, Bool, true, List, length}

-- public k: the public half of the secret key k; sign k m; verifies p m s: whether s is taken for a signature over m by the key with the half p
pub record SignatureModel : Type 0 where
  pub public : List ℕ → List ℕ
  pub sign : List ℕ → List ℕ → List ℕ
  pub verifies : List ℕ → List ℕ → List ℕ → Bool

-- what was signed verifies
abbrev pub SignedVerifies : SignatureModel → Type 0
SignedVerifies s = (k m : List ℕ) → s.verifies (s.public k) m (s.sign k m) ≡ true

-- a public half has 32 bytes, and a signature 64
abbrev pub Sizes : SignatureModel → Type 0
Sizes s = ((k : List ℕ) → length (s.public k) ≡ 32) × ((k m : List ℕ) → length (s.sign k m) ≡ 64)
