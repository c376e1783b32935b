-- A content closed with its number before it in the tag, or why not. Assumes nothing.
use Rattle.std.specs.Prelude.{◌≡◌, ℕ, false, List, length, Ok, Err, vec_items, Result, Vec}
use Rattle.std.specs.declared.alloc.Global.{Global}
use Rattle.fixed_bytes.specs.Numbers.{big_endian}
use Rattle.ciphers.specs.ChaCha20.{suffices}
use Rattle.aead.specs.Closing.{closed}
use Rattle.session_vectors.specs.declared.failure.NotComputed.{NotComputed}
use Rattle.session_vectors.specs.declared.failure.NotComputed.TheVariants.{Refused, NoMemory}

-- the content closed under a key with its number, which is the head too, or refused where the keystream doesn't suffice; of want of memory nothing is said
abbrev pub Closes : List ℕ → ℕ → List ℕ → Result (Vec ℕ Global) NotComputed → Type 0
Closes key number content (Ok v) = vec_items v ≡ closed key number (big_endian 8 number) content
Closes key number content (Err Refused) = suffices 1 (length content) ≡ false
Closes key number content (Err (NoMemory _)) = Unit {0}
