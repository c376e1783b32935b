-- What the text of a vector is encrypted to, or why to nothing. Assumes nothing.
use Rattle.std.specs.Prelude.{ℕ, true, false, List, Ok, Err, vec_items, Result, Vec}
use Rattle.std.specs.declared.alloc.Global.{Global}
use Rattle.ciphers.specs.ChaCha20.{Turning}
use Rattle.session_vectors.specs.declared.failure.NotComputed.{NotComputed}
use Rattle.session_vectors.specs.declared.failure.NotComputed.TheVariants.{Refused, NoMemory}

-- the text turned, or refused where the counter would pass its end; of want of memory nothing is said
abbrev pub Encrypts : List ℕ → ℕ → List ℕ → List ℕ → Result (Vec ℕ Global) NotComputed → Type 0
Encrypts key counter nonce text (Ok v) = Turning key counter nonce text (vec_items v) true
Encrypts key counter nonce text (Err Refused) = Turning key counter nonce text text false
Encrypts key counter nonce text (Err (NoMemory _)) = Unit {0}
