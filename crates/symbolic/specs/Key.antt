-- Secret keys by name, in an order, and lists of them in which the order of insertion doesn't matter. Assumes nothing.
use Rattle.std.specs.Prelude.{ℕ, Bool, cond, List, [], ◌∷◌, ◌==◌, nat_le, nat_lt}
use Rattle.std.proofs.Math.Decide.{ℕ_discrete}

-- a secret key: what kind it is, and two numbers that name it
pub data Key : Type 0 where
  key : ℕ → ℕ → ℕ → Key
  deriving Discrete as Key-discrete

-- equality of keys, decided
unfoldable pub keys_discrete : Discrete Key
unfolding ℕ_discrete
keys_discrete = Key-discrete ℕ_discrete

-- the identity key of a side, in its version
abbrev pub own : ℕ → ℕ → Key
own side version = key 0 side version

-- a key drawn at some time: the index says which of that time's draws
abbrev pub made : ℕ → ℕ → Key
made time index = key 1 time index

-- any number that everybody knows, used as a secret key
abbrev pub plain : ℕ → Key
plain n = key 2 n 0

-- whether a key stands no later than another: by kind, then by the two numbers
unfoldable pub precedes : Key → Key → Bool
precedes (key a b c) (key x y z) = cond (a == x) (cond (b == y) (nat_le c z) (nat_lt b y)) (nat_lt a x)

-- a key put in its place
unfoldable pub insert : Key → List Key → List Key
insert k [] = k ∷ []
insert k (x ∷ xs) = cond (precedes k x) (k ∷ x ∷ xs) (x ∷ insert k xs)
