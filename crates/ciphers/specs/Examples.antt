-- Worked examples of RFC 8439. Assumes nothing.
use Rattle.std.specs.Prelude.{◌≡◌, ℕ, List, [], ◌∷◌, map}
use Rattle.ciphers.specs.ChaCha20.{quarter_round, quarter_at, initial, double_rounds, stream_byte}

-- the key 00 01 .. 1f
abbrev pub key : List ℕ
key =
    0 ∷ 1 ∷ 2 ∷ 3 ∷ 4 ∷ 5 ∷ 6 ∷ 7 ∷ 8 ∷ 9 ∷ 10 ∷ 11 ∷ 12 ∷ 13 ∷ 14 ∷ 15
    ∷ 16 ∷ 17 ∷ 18 ∷ 19 ∷ 20 ∷ 21 ∷ 22 ∷ 23 ∷ 24 ∷ 25 ∷ 26 ∷ 27 ∷ 28 ∷ 29 ∷ 30 ∷ 31 ∷ []

abbrev pub nonce : List ℕ
nonce = 0 ∷ 0 ∷ 0 ∷ 9 ∷ 0 ∷ 0 ∷ 0 ∷ 0x4a ∷ 0 ∷ 0 ∷ 0 ∷ 0 ∷ []

pub record Examples : Type 0 where
  -- 2.1.1: a quarter round
  pub quarter : quarter_round 0x11111111 0x01020304 0x9b8d6f43 0x01234567 ≡ record { a = 0xea2a92f4; b = 0xcb1cf8ce; c = 0x4581472e; d = 0x5881c4bb }
  -- 2.2.1: a quarter round on a state
  pub on_state : quarter_at 2 7 8 13
      (0x879531e0 ∷ 0xc5ecf37d ∷ 0x516461b1 ∷ 0xc9a62f8a ∷ 0x44c20ef3 ∷ 0x3390af7f ∷ 0xd9fc690b ∷ 0x2a5f714c
      ∷ 0x53372767 ∷ 0xb00a5631 ∷ 0x974c541a ∷ 0x359e9963 ∷ 0x5c971061 ∷ 0x3d631689 ∷ 0x2098d9d6 ∷ 0x91dbd320 ∷ []) ≡
      (0x879531e0 ∷ 0xc5ecf37d ∷ 0xbdb886dc ∷ 0xc9a62f8a ∷ 0x44c20ef3 ∷ 0x3390af7f ∷ 0xd9fc690b ∷ 0xcfacafd2
      ∷ 0xe46bea80 ∷ 0xb00a5631 ∷ 0x974c541a ∷ 0x359e9963 ∷ 0x5c971061 ∷ 0xccc07c79 ∷ 0x2098d9d6 ∷ 0x91dbd320 ∷ [])
  -- 2.3.2: the state after twenty rounds
  pub rounds : double_rounds 10 (initial key 1 nonce) ≡
      (0x837778ab ∷ 0xe238d763 ∷ 0xa67ae21e ∷ 0x5950bb2f ∷ 0xc4f2d0c7 ∷ 0xfc62bb2f ∷ 0x8fa018fc ∷ 0x3f5ec7b7
      ∷ 0x335271c2 ∷ 0xf29489f3 ∷ 0xeabda8fc ∷ 0x82e46ebd ∷ 0xd19c12b4 ∷ 0xb04e16de ∷ 0x9e83d0cb ∷ 0x4e3c50a2 ∷ [])
  -- the first bytes of the block
  pub block : map (stream_byte key 1 nonce) (0 ∷ 1 ∷ 2 ∷ 3 ∷ 4 ∷ 5 ∷ 6 ∷ 7 ∷ []) ≡ (0x10 ∷ 0xf1 ∷ 0xe7 ∷ 0xe4 ∷ 0xd1 ∷ 0x3b ∷ 0x59 ∷ 0x15 ∷ [])
