-- ChaCha20 as in RFC 8439, on lists of words of 32 bits and of bytes. Assumes nothing.
use Rattle.std.specs.Prelude.{◌≡◌, ℕ, zero, suc, ◌+◌, ◌-◌, ◌*◌, ◌/◌, ◌%◌, ◌^◌, ◌<◌, Bool, true, false, List, [], ◌∷◌, length, bit_or, bit_xor, nat_le, slice_index, slice_set}

-- the sum of two words, which wraps
abbrev pub plus : ℕ → ℕ → ℕ
plus a b = (a + b) % 2 ^ 32

-- a word turned left by k bits
abbrev pub turned : ℕ → ℕ → ℕ
turned k x = bit_or ((x * 2 ^ (k % 32)) % 2 ^ 32) (x / 2 ^ ((32 - k % 32) % 32))

-- one line of a quarter round: a += b; d ^= a; d <<<= k
abbrev pub mixed : ℕ → ℕ → ℕ → ℕ → ℕ × ℕ
mixed k a b d = (plus a b, turned k (bit_xor d (plus a b)))

-- four words, after a quarter round
pub record Quarter : Type 0 where
  pub a : ℕ
  pub b : ℕ
  pub c : ℕ
  pub d : ℕ

unfoldable pub quarter_round : ℕ → ℕ → ℕ → ℕ → Quarter
quarter_round a b c d =
    let x = mixed 16 a b d in
    let y = mixed 12 c x.1 b in
    let z = mixed 8 x.0 y.1 x.1 in
    let w = mixed 7 y.0 z.1 y.1 in
    record { a = z.0; b = w.1; c = w.0; d = z.1 }

-- QUARTERROUND(i, j, k, l) on a state
unfoldable pub quarter_at : ℕ → ℕ → ℕ → ℕ → List ℕ → List ℕ
quarter_at i j k l s =
    let q = quarter_round (slice_index s i) (slice_index s j) (slice_index s k) (slice_index s l) in
    slice_set (slice_set (slice_set (slice_set s i q.a) j q.b) k q.c) l q.d

-- four rounds on columns, and four on diagonals
unfoldable pub double_round : List ℕ → List ℕ
double_round s =
    quarter_at 3 4 9 14 (quarter_at 2 7 8 13 (quarter_at 1 6 11 12 (quarter_at 0 5 10 15
    (quarter_at 3 7 11 15 (quarter_at 2 6 10 14 (quarter_at 1 5 9 13 (quarter_at 0 4 8 12 s)))))))

unfoldable pub double_rounds : ℕ → List ℕ → List ℕ
double_rounds zero s = s
double_rounds (suc n) s = double_round (double_rounds n s)

-- the word at a place of some bytes, low byte first
abbrev pub word_at : List ℕ → ℕ → ℕ
word_at bs i = slice_index bs (4 * i) + slice_index bs (4 * i + 1) * 256 + slice_index bs (4 * i + 2) * 65536 + slice_index bs (4 * i + 3) * 16777216

-- the state that a block begins with: four constants, the key, the block's counter, the nonce
abbrev pub initial : List ℕ → ℕ → List ℕ → List ℕ
initial key counter nonce =
    0x61707865 ∷ 0x3320646e ∷ 0x79622d32 ∷ 0x6b206574
    ∷ word_at key 0 ∷ word_at key 1 ∷ word_at key 2 ∷ word_at key 3
    ∷ word_at key 4 ∷ word_at key 5 ∷ word_at key 6 ∷ word_at key 7
    ∷ counter ∷ word_at nonce 0 ∷ word_at nonce 1 ∷ word_at nonce 2 ∷ []

-- a byte of the sums of two lists of words: the sums follow each other, each with its low byte first
abbrev pub sum_byte : List ℕ → List ℕ → ℕ → ℕ
sum_byte a b j = plus (slice_index a (j / 4)) (slice_index b (j / 4)) / 256 ^ (j % 4) % 256

-- a byte of a block: twenty rounds, and the sums with the state that they began with
abbrev pub block_byte : List ℕ → ℕ → ℕ
block_byte s j = sum_byte (double_rounds 10 s) s j

-- a byte of the keystream from a counter on
abbrev pub stream_byte : List ℕ → ℕ → List ℕ → ℕ → ℕ
stream_byte key counter nonce p = block_byte (initial key (counter + p / 64) nonce) (p % 64)

-- a byte turned, and turned back
abbrev pub turned_byte : List ℕ → ℕ → List ℕ → List ℕ → ℕ → ℕ
turned_byte key counter nonce bs p = bit_xor (slice_index bs p) (stream_byte key counter nonce p)

-- bytes turned by the keystream, each at its place
pub record Turned (key : List ℕ) (counter : ℕ) (nonce before after : List ℕ) : Type 0 where
  pub len : length after ≡ length before
  pub each : (p : ℕ) → p < length before → slice_index after p ≡ turned_byte key counter nonce before p

-- whether the counter suffices for so many bytes: it never wraps
abbrev pub suffices : ℕ → ℕ → Bool
suffices counter n = nat_le (counter + (n + 63) / 64) (2 ^ 32)

-- all is turned if the counter suffices, and nothing if it doesn't
abbrev pub Turning : List ℕ → ℕ → List ℕ → List ℕ → List ℕ → Bool → Type 0
Turning key counter nonce before after true = (suffices counter (length before) ≡ true) × Turned key counter nonce before after
Turning key counter nonce before after false = (suffices counter (length before) ≡ false) × (after ≡ before)

-- Bytes that are turned twice are what they were; so turning one way is turning back.
abbrev pub TurnedTwiceUnchanged : Type 0
TurnedTwiceUnchanged = (key : List ℕ) (counter : ℕ) (nonce a b c : List ℕ) → Turned key counter nonce a b → Turned key counter nonce b c → c ≡ a

-- Different bytes of one length are turned into different bytes.
abbrev pub TurnedApart : Type 0
TurnedApart = (key : List ℕ) (counter : ℕ) (nonce a b c : List ℕ) → Turned key counter nonce a c → Turned key counter nonce b c → a ≡ b
