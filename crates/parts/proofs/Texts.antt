-- Texts that grow by a line for each key. Assumes nothing.
use Rattle.std.proofs.Common.{◌≡◌, ℕ, zero, suc, ◌+◌, ◌<◌, List, [], ◌∷◌, length, get_or, take, drop, codes, refl, ap}
use Rattle.std.specs.Simd.{first_chunks}
use Rattle.std.proofs.lemmas.List.{drop_more}
use Rattle.parts.specs.Lines.{bytes_on}
use Rattle.parts.specs.Parts.{keys_on}

-- a line for each of some keys
abbrev pub each_key_on : List ℕ → List (List ℕ) → List ℕ
each_key_on before [] = before
each_key_on before (key ∷ keys) = each_key_on (bytes_on before (codes "  ") (codes "identity public key") key) keys

-- keys that stand one after another
pub keys_apart : (before : List ℕ) (n : ℕ) (bs : List ℕ) → keys_on before n bs ≡ each_key_on before (first_chunks 32 n bs)
unfolding keys_on
keys_apart before zero bs = refl
keys_apart before (suc n) bs = keys_apart (bytes_on before (codes "  ") (codes "identity public key") (take 32 bs)) n (drop 32 bs)

pub key_next : (before : List ℕ) (keys : List (List ℕ)) (i : ℕ) (d : List ℕ) → i < length keys → each_key_on before (drop i keys) ≡ each_key_on (bytes_on before (codes "  ") (codes "identity public key") (get_or keys i d)) (drop (i + 1) keys)
key_next before keys i d h = ap (each_key_on before) (drop_more keys i d h)
