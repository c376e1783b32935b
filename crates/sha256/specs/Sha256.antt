-- SHA-256 as RFC 6234 defines it (sections 4.1, 5.1 and 6): of a list of bytes of any length. Assumes nothing.
use Rattle.std.specs.Prelude.{ℕ, zero, suc, ◌-◌, ◌*◌, ◌/◌, ◌%◌, ◌^◌, List, [], ◌∷◌, ◌++◌, length, take, drop, replicate, slice_index}
use Rattle.sha256.specs.declared.state.State.{State}
use Rattle.sha256.specs.Words.{plus, choice, majority, big_sigma0, big_sigma1, small_sigma0, small_sigma1, word_bytes, words}

-- K, the first 32 bits of the fractional parts of the cube roots of the first 64 primes
unfoldable pub constants : List ℕ
constants =
    0x428a_2f98 ∷ 0x7137_4491 ∷ 0xb5c0_fbcf ∷ 0xe9b5_dba5 ∷ 0x3956_c25b ∷ 0x59f1_11f1 ∷ 0x923f_82a4 ∷ 0xab1c_5ed5 ∷
    0xd807_aa98 ∷ 0x1283_5b01 ∷ 0x2431_85be ∷ 0x550c_7dc3 ∷ 0x72be_5d74 ∷ 0x80de_b1fe ∷ 0x9bdc_06a7 ∷ 0xc19b_f174 ∷
    0xe49b_69c1 ∷ 0xefbe_4786 ∷ 0x0fc1_9dc6 ∷ 0x240c_a1cc ∷ 0x2de9_2c6f ∷ 0x4a74_84aa ∷ 0x5cb0_a9dc ∷ 0x76f9_88da ∷
    0x983e_5152 ∷ 0xa831_c66d ∷ 0xb003_27c8 ∷ 0xbf59_7fc7 ∷ 0xc6e0_0bf3 ∷ 0xd5a7_9147 ∷ 0x06ca_6351 ∷ 0x1429_2967 ∷
    0x27b7_0a85 ∷ 0x2e1b_2138 ∷ 0x4d2c_6dfc ∷ 0x5338_0d13 ∷ 0x650a_7354 ∷ 0x766a_0abb ∷ 0x81c2_c92e ∷ 0x9272_2c85 ∷
    0xa2bf_e8a1 ∷ 0xa81a_664b ∷ 0xc24b_8b70 ∷ 0xc76c_51a3 ∷ 0xd192_e819 ∷ 0xd699_0624 ∷ 0xf40e_3585 ∷ 0x106a_a070 ∷
    0x19a4_c116 ∷ 0x1e37_6c08 ∷ 0x2748_774c ∷ 0x34b0_bcb5 ∷ 0x391c_0cb3 ∷ 0x4ed8_aa4a ∷ 0x5b9c_ca4f ∷ 0x682e_6ff3 ∷
    0x748f_82ee ∷ 0x78a5_636f ∷ 0x84c8_7814 ∷ 0x8cc7_0208 ∷ 0x90be_fffa ∷ 0xa450_6ceb ∷ 0xbef9_a3f7 ∷ 0xc671_78f2 ∷
    []

-- H(0), the first 32 bits of the fractional parts of the square roots of the first eight primes
unfoldable pub initial : State
initial =
    record {
      a = 0x6a09_e667;
      b = 0xbb67_ae85;
      c = 0x3c6e_f372;
      d = 0xa54f_f53a;
      e = 0x510e_527f;
      f = 0x9b05_688c;
      g = 0x1f83_d9ab;
      h = 0x5be0_cd19;
    }

-- W(t) from W(t-16), W(t-15), W(t-7) and W(t-2)
unfoldable pub next_word : ℕ → ℕ → ℕ → ℕ → ℕ
next_word back16 back15 back7 back2 = plus (plus (plus (small_sigma1 back2) back7) (small_sigma0 back15)) back16

-- sixteen words, one place on: the first is left out, and the word that follows stands at the end
unfoldable pub slid : List ℕ → List ℕ
slid last = drop 1 last ++ next_word (slice_index last 0) (slice_index last 1) (slice_index last 9) (slice_index last 14) ∷ []

-- sixteen words, n places on
unfoldable pub slid_by : ℕ → List ℕ → List ℕ
slid_by zero last = last
slid_by (suc n) last = slid_by n (slid last)

-- W, n words of it, from the sixteen that it begins with
unfoldable pub schedule : ℕ → List ℕ → List ℕ
schedule zero last = []
schedule (suc n) last = slice_index last 0 ∷ schedule n (slid last)

-- K(t) + W(t) for each t
unfoldable pub sums : List ℕ → List ℕ → List ℕ
sums [] ws = []
sums (k ∷ ks) [] = []
sums (k ∷ ks) (w ∷ ws) = plus k w ∷ sums ks ws

-- T1 and T2 of one round, from the sum of its constant and its word
abbrev pub first_sum : State → ℕ → ℕ
first_sum s kw = plus (plus (plus s.h (big_sigma1 s.e)) (choice s.e s.f s.g)) kw

abbrev pub second_sum : State → ℕ
second_sum s = plus (big_sigma0 s.a) (majority s.a s.b s.c)

-- one round
unfoldable pub round : State → ℕ → State
round s kw =
    record {
      a = plus (first_sum s kw) (second_sum s);
      b = s.a;
      c = s.b;
      d = s.c;
      e = plus s.d (first_sum s kw);
      f = s.e;
      g = s.f;
      h = s.g;
    }

-- a round for each sum, in order
unfoldable pub rounds : State → List ℕ → State
rounds s [] = s
rounds s (kw ∷ kws) = rounds (round s kw) kws

-- the state after a block: what the rounds gave, added to what stood before
unfoldable pub added : State → State → State
added s t =
    record {
      a = plus s.a t.a;
      b = plus s.b t.b;
      c = plus s.c t.c;
      d = plus s.d t.d;
      e = plus s.e t.e;
      f = plus s.f t.f;
      g = plus s.g t.g;
      h = plus s.h t.h;
    }

-- the state after a block of 64 bytes
unfoldable pub compressed : State → List ℕ → State
compressed s block = added s (rounds s (sums constants (schedule 64 (words 16 block))))

-- the state after n blocks
unfoldable pub blocks : ℕ → State → List ℕ → State
blocks zero s bytes = s
blocks (suc n) s bytes = blocks n (compressed s (take 64 bytes)) (drop 64 bytes)

-- a number modulo 2^64 as eight bytes, the high one first
unfoldable pub number_bytes : ℕ → List ℕ
number_bytes n =
    (n / 2 ^ 56 % 256) ∷ (n / 2 ^ 48 % 256) ∷ (n / 2 ^ 40 % 256) ∷ (n / 2 ^ 32 % 256)
    ∷ (n / 2 ^ 24 % 256) ∷ (n / 2 ^ 16 % 256) ∷ (n / 2 ^ 8 % 256) ∷ (n % 256) ∷ []

-- how many zeros stand between the one bit's byte and the length: the fewest that fill a block
abbrev pub zeros : ℕ → ℕ
zeros size = (119 - size % 64) % 64

-- what is put behind a message of so many bytes: a one bit, zeros, and the length in bits modulo 2^64
unfoldable pub padding : ℕ → List ℕ
padding size = 0x80 ∷ (replicate (zeros size) 0 ++ number_bytes (8 * size))

-- the bytes of a state
unfoldable pub state_bytes : State → List ℕ
state_bytes s =
    word_bytes s.a ++ word_bytes s.b ++ word_bytes s.c ++ word_bytes s.d
    ++ word_bytes s.e ++ word_bytes s.f ++ word_bytes s.g ++ word_bytes s.h

-- the message with its padding
abbrev pub padded : List ℕ → List ℕ
padded message = message ++ padding (length message)

-- the state after the whole padded message
unfoldable pub digested : List ℕ → State
digested message = blocks (length (padded message) / 64) initial (padded message)

-- SHA-256 of a message
unfoldable pub sha256 : List ℕ → List ℕ
sha256 message = state_bytes (digested message)
