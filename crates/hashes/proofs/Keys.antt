-- The blocks that a key is made into, and what is taken behind them. Assumes nothing.
use Rattle.std.proofs.Common.{◌≡◌, ℕ, zero, ◌+◌, ◌-◌, ◌<◌, ◌≤◌, ltb, List, [], ◌++◌, length, drop, replicate, sym, refl, ap, ◌∙◌, subst, ⊎_elim, arith, length-append}
use lib.Bits.{bit_xor}
use lib.ListN.{length-replicate, length-map}
use Rattle.std.proofs.lemmas.List.{append-nil, drop-replicate}
use Rattle.std.proofs.lemmas.Bool.{cases_Bool, cond-true, cond-false, ltb-true, ltb-false, lt-ltb, le-ltb}
use Rattle.hashes.specs.declared.hasher.Hasher.{Hasher}
use Rattle.hashes.specs.Hmac.{filled_up, key_block, masked, inner_pad, outer_pad, hmac_sha256}
use Rattle.sha256.specs.Sha256.{state_bytes, sha256}
use Rattle.hashes.specs.Streams.{Holds}

pub length_sha256 : (m : List ℕ) → length (sha256 m) ≡ 32
unfolding sha256 state_bytes
length_sha256 m = refl

length_filled_up : (key : List ℕ) → length key ≤ 64 → length (filled_up key) ≡ 64
length_filled_up key h = length-append key (replicate (64 - length key) 0) ∙ omega (arith, length-replicate (64 - length key) zero)

-- a key that is longer than a block is hashed first
pub long_key : (key : List ℕ) → 64 < length key → filled_up (sha256 key) ≡ key_block key
unfolding key_block
long_key key h = sym (cond-true _ _ _ (lt-ltb 64 (length key) h))

pub short_key : (key : List ℕ) → length key ≤ 64 → filled_up key ≡ key_block key
unfolding key_block
short_key key h = sym (cond-false _ _ _ (le-ltb 64 (length key) h))

length_key_block : (key : List ℕ) → length (key_block key) ≡ 64
length_key_block key =
    ⊎_elim
    (λ long. ap length (sym (long_key key (ltb-true _ _ long))) ∙ length_filled_up (sha256 key) (omega (arith, length_sha256 key)))
    (λ short. ap length (sym (short_key key (ltb-false _ _ short))) ∙ length_filled_up key (ltb-false _ _ short))
    (cases_Bool (ltb 64 (length key)))

-- a pad is one block
pub length_pad : (pad : ℕ) (key : List ℕ) → length (masked pad (key_block key)) ≡ 64
unfolding masked
length_pad pad key = length-map (key_block key) (λ b. bit_xor b pad) ∙ length_key_block key

-- a key written into a block of zeros
pub filled_is : (key out : List ℕ) → out ≡ key ++ drop (0 + length key) (replicate 64 0) → out ≡ filled_up key
filled_is key out e =
    let same : 64 - (0 + length key) ≡ 64 - length key = omega arith in
    e ∙ ap (λ x. key ++ x) (drop-replicate (0 + length key) 64 0 ∙ ap (λ n. replicate n 0) same)

pub holds_pad_alone : (h : Hasher) (pad : List ℕ) → Holds h pad → Holds h (pad ++ [])
holds_pad_alone h pad held = subst (Holds h) (sym (append-nil pad)) held

-- the outer sum over the inner one
pub summed : (key m inner r : List ℕ) → inner ≡ sha256 (inner_pad key ++ m) → r ≡ sha256 (outer_pad key ++ inner) → r ≡ hmac_sha256 key m
unfolding hmac_sha256
summed key m inner r e f = f ∙ ap (λ x. sha256 (outer_pad key ++ x)) e
