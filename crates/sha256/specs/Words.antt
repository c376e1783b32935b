-- Words of 32 bits and the six functions on them, as RFC 6234 writes them (sections 2, 3 and 5.1). Assumes nothing.
use Rattle.std.specs.Prelude.{ℕ, zero, suc, ◌+◌, ◌-◌, ◌*◌, ◌/◌, ◌%◌, ◌^◌, List, [], ◌∷◌, drop, bit_and, bit_or, bit_xor, slice_index}

-- a sum modulo 2^32
abbrev pub plus : ℕ → ℕ → ℕ
plus x y = (x + y) % 2 ^ 32

-- each bit of a word turned over
abbrev pub complement : ℕ → ℕ
complement x = (2 ^ 32 - 1) - x

-- SHR^n(x), the bits moved n places to the right
abbrev pub shift_right : ℕ → ℕ → ℕ
shift_right n x = x / 2 ^ n

-- ROTR^n(x), the bits moved round n places to the right
abbrev pub rotate_right : ℕ → ℕ → ℕ
rotate_right n x = bit_or (x / 2 ^ n) ((x * 2 ^ (32 - n)) % 2 ^ 32)

-- CH(x, y, z): of each bit y's where x has one, else z's
abbrev pub choice : ℕ → ℕ → ℕ → ℕ
choice x y z = bit_xor (bit_and x y) (bit_and (complement x) z)

-- MAJ(x, y, z): each bit that at least two of the three have
abbrev pub majority : ℕ → ℕ → ℕ → ℕ
majority x y z = bit_xor (bit_xor (bit_and x y) (bit_and x z)) (bit_and y z)

-- BSIG0 and BSIG1
abbrev pub big_sigma0 : ℕ → ℕ
big_sigma0 x = bit_xor (bit_xor (rotate_right 2 x) (rotate_right 13 x)) (rotate_right 22 x)

abbrev pub big_sigma1 : ℕ → ℕ
big_sigma1 x = bit_xor (bit_xor (rotate_right 6 x) (rotate_right 11 x)) (rotate_right 25 x)

-- SSIG0 and SSIG1
abbrev pub small_sigma0 : ℕ → ℕ
small_sigma0 x = bit_xor (bit_xor (rotate_right 7 x) (rotate_right 18 x)) (shift_right 3 x)

abbrev pub small_sigma1 : ℕ → ℕ
small_sigma1 x = bit_xor (bit_xor (rotate_right 17 x) (rotate_right 19 x)) (shift_right 10 x)

-- the four bytes of a word, the high one first
abbrev pub word_bytes : ℕ → List ℕ
word_bytes x = (x / 2 ^ 24 % 256) ∷ (x / 2 ^ 16 % 256) ∷ (x / 2 ^ 8 % 256) ∷ (x % 256) ∷ []

-- the word that the first four bytes are
abbrev pub first_word : List ℕ → ℕ
first_word bytes = slice_index bytes 0 * 2 ^ 24 + slice_index bytes 1 * 2 ^ 16 + slice_index bytes 2 * 2 ^ 8 + slice_index bytes 3

-- the words that the first 4 n bytes are
unfoldable pub words : ℕ → List ℕ → List ℕ
words zero bytes = []
words (suc n) bytes = first_word bytes ∷ words n (drop 4 bytes)
