-- Closing under a key with a number and a head, as lists of bytes: encrypt, then the tag over the head and the encrypted bytes. Assumes nothing.
use Rattle.std.specs.Prelude.{◌≡◌, ℕ, ◌+◌, ◌-◌, ◌/◌, ◌%◌, Bool, true, false, ◌&&◌, List, [], ◌∷◌, ◌++◌, length, take, drop, bit_xor, nat_le}
use Rattle.hashes.specs.Hmac.{hmac_sha256}
use Rattle.ciphers.specs.ChaCha20.{stream_byte, suffices}

-- bytes from a place of the keystream on, each turned by its byte
unfoldable pub turned_from : List ℕ → ℕ → List ℕ → ℕ → List ℕ → List ℕ
turned_from key counter nonce p [] = []
turned_from key counter nonce p (b ∷ bs) = bit_xor b (stream_byte key counter nonce p) ∷ turned_from key counter nonce (p + 1) bs

-- the nonce of a number: 4 zeros, and the number in 8 bytes, high byte first
abbrev pub nonce_of : ℕ → List ℕ
nonce_of n =
    0 ∷ 0 ∷ 0 ∷ 0
    ∷ (n / 72057594037927936 % 256) ∷ (n / 281474976710656 % 256) ∷ (n / 1099511627776 % 256) ∷ (n / 4294967296 % 256)
    ∷ (n / 16777216 % 256) ∷ (n / 65536 % 256) ∷ (n / 256 % 256) ∷ (n % 256) ∷ []

-- bytes encrypted under a key with a number: the block counter begins at 1
abbrev pub encrypted : List ℕ → ℕ → List ℕ → List ℕ
encrypted key n bs = turned_from key 1 (nonce_of n) 0 bs

abbrev pub tag_length : ℕ
tag_length = 16

-- the tag over a head and encrypted bytes
abbrev pub tag : List ℕ → List ℕ → List ℕ → List ℕ
tag key head bs = take tag_length (hmac_sha256 key (head ++ bs))

-- a content closed: encrypted, with the tag behind it
abbrev pub closed : List ℕ → ℕ → List ℕ → List ℕ → List ℕ
closed key n head m = encrypted key n m ++ tag key head (encrypted key n m)

-- what stands before the last 16 bytes, and these
abbrev pub content : List ℕ → List ℕ
content bs = take (length bs - tag_length) bs

abbrev pub last_bytes : List ℕ → List ℕ
last_bytes bs = drop (length bs - tag_length) bs

-- whether bytes have room for a tag behind a content that the keystream suffices for
abbrev pub fits : List ℕ → Bool
fits bs = nat_le tag_length (length bs) && suffices 1 (length bs - tag_length)

-- closing in place: the content stands before room for the tag; where it doesn't fit, all stays as it was
abbrev pub Closing : List ℕ → ℕ → List ℕ → List ℕ → List ℕ → Bool → Type 0
Closing key n head before after true = (fits before ≡ true) × (after ≡ closed key n head (content before))
Closing key n head before after false = (fits before ≡ false) × (after ≡ before)

-- what is opened: something that fits, with its right tag
abbrev pub Tagged : List ℕ → List ℕ → List ℕ → Type 0
Tagged key head bs = (fits bs ≡ true) × (last_bytes bs ≡ tag key head (content bs))

-- opening in place: the content is decrypted, which is turning it again, and the tag stays behind it; what doesn't fit or has another tag stays as it was
abbrev pub Opening : List ℕ → ℕ → List ℕ → List ℕ → List ℕ → Bool → Type 0
Opening key n head before after true = Tagged key head before × (after ≡ encrypted key n (content before) ++ last_bytes before)
Opening key n head before after false = (Tagged key head before → ⊥) × (after ≡ before)

-- What was closed opens, and gives the content back.
abbrev pub ClosedOpens : Type 0
ClosedOpens = (key : List ℕ) (n : ℕ) (head before between after : List ℕ) (answer : Bool) → Closing key n head before between true → Opening key n head between after answer → (answer ≡ true) × (content after ≡ content before)

-- What opens is exactly what closing its content gives.
abbrev pub OnlyClosedOpens : Type 0
OnlyClosedOpens = (key : List ℕ) (n : ℕ) (head before after : List ℕ) → Opening key n head before after true → before ≡ closed key n head (content after)

-- Under one key, number and head, different contents are closed into different bytes.
abbrev pub ClosedApart : Type 0
ClosedApart = (key : List ℕ) (n : ℕ) (head a b : List ℕ) → closed key n head a ≡ closed key n head b → a ≡ b
