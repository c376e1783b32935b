-- HMAC-SHA-256 as RFC 6234 (section 8.3) and RFC 2104 define it, for a key of any length. Assumes nothing.
use Rattle.std.specs.Prelude.{ℕ, ◌-◌, cond, List, ◌++◌, map, length, replicate, bit_xor, nat_lt}
use Rattle.sha256.specs.Sha256.{sha256}

-- a key of at most a block, with zeros behind it
abbrev pub filled_up : List ℕ → List ℕ
filled_up key = key ++ replicate (64 - length key) 0

-- the block that a key stands for: one that is longer than a block is hashed first
unfoldable pub key_block : List ℕ → List ℕ
key_block key = cond (nat_lt 64 (length key)) (filled_up (sha256 key)) (filled_up key)

-- each byte of a block exclusive-ored with one byte
unfoldable pub masked : ℕ → List ℕ → List ℕ
masked pad block = map (λ b. bit_xor b pad) block

-- the two pads
abbrev pub inner_pad : List ℕ → List ℕ
inner_pad key = masked 0x36 (key_block key)

abbrev pub outer_pad : List ℕ → List ℕ
outer_pad key = masked 0x5c (key_block key)

-- HMAC-SHA-256 of a message under a key
unfoldable pub hmac_sha256 : List ℕ → List ℕ → List ℕ
hmac_sha256 key message = sha256 (outer_pad key ++ sha256 (inner_pad key ++ message))
