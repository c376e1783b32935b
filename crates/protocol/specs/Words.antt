-- The three words over any kind of atom. Assumes nothing.
use Rattle.std.specs.Prelude.{ℕ, List}

-- who calls, who is called, the ciphers offered in the caller's order, a nonce, and the half of the call's ephemeral key
pub record Hello (X : Type 0) : Type 0 where
  pub caller : ℕ
  pub called : ℕ
  pub offer : List ℕ
  pub nonce : X
  pub half : X

-- what a called side signs: the whole hello, the choice, a nonce, the half of the seal's key, and the session secret sealed
pub record Body (X : Type 0) : Type 0 where
  pub hello : Hello X
  pub choice : ℕ
  pub nonce : X
  pub seal : X
  pub box : X

pub record Reply (X : Type 0) : Type 0 where
  pub body : Body X
  pub signature : X

-- an end shows nothing of what it holds
pub data Word (X : Type 0) : Type 0 where
  a_hello : Hello X → Word X
  a_reply : Reply X → Word X
  an_end : X → Word X
