-- The last one or two blocks of a message are its rest and its padding. Assumes nothing.
use Rattle.std.proofs.Common.{◌≡◌, ℕ, zero, suc, ◌+◌, ◌-◌, ◌*◌, ◌/◌, ◌%◌, ◌^◌, ◌<◌, ◌≤◌, List, [], ◌∷◌, ◌++◌, length, take, drop, set, replicate, sym, refl, ap, ◌∙◌, append_assoc, arith, length-append}
use lib.ListN.{length-replicate}
use Rattle.std.proofs.lemmas.List.{append-nil, take_at, set_at, drop_all, drop-replicate, length-take-le, replicate-append-replicate}
use Rattle.sha256.specs.declared.state.State.{State}
use Rattle.hashes.specs.declared.hasher.Hasher.{Hasher}
use Rattle.sha256.specs.Sha256.{initial, compressed, blocks, number_bytes, zeros, padding, padded, digested}
use Rattle.hashes.specs.Streams.{Holds}
use Rattle.hashes.proofs.Blocks.{blocks_append, blocks_one}

-- the bytes of a number are those of its rest modulo 2^64
pub number_mod : (m n : ℕ) → m % 2 ^ 64 ≡ n % 2 ^ 64 → number_bytes m ≡ number_bytes n
unfolding number_bytes
number_mod m n e =
    let b7 : m / 2 ^ 56 % 256 ≡ n / 2 ^ 56 % 256 = omega arith in
    let b6 : m / 2 ^ 48 % 256 ≡ n / 2 ^ 48 % 256 = omega arith in
    let b5 : m / 2 ^ 40 % 256 ≡ n / 2 ^ 40 % 256 = omega arith in
    let b4 : m / 2 ^ 32 % 256 ≡ n / 2 ^ 32 % 256 = omega arith in
    let b3 : m / 2 ^ 24 % 256 ≡ n / 2 ^ 24 % 256 = omega arith in
    let b2 : m / 2 ^ 16 % 256 ≡ n / 2 ^ 16 % 256 = omega arith in
    let b1 : m / 2 ^ 8 % 256 ≡ n / 2 ^ 8 % 256 = omega arith in
    let b0 : m % 256 ≡ n % 256 = omega arith in
    rw (b7, b6, b5, b4, b3, b2, b1, b0) refl

length_number : (n : ℕ) → length (number_bytes n) ≡ 8
unfolding number_bytes
length_number n = refl

-- the rest, the byte of the one bit and the zeros of one block, with the length in place of the last eight bytes
one_block : (rest number : List ℕ) (filled : ℕ) → length rest ≡ filled → filled < 56
    → take 56 (rest ++ (128 ∷ replicate (63 - filled) 0)) ++ number ≡ rest ++ (128 ∷ (replicate (55 - filled) 0 ++ number))
one_block rest number filled size h =
    let front = rest ++ (128 ∷ replicate (55 - filled) 0) in
    let cut : 63 - filled ≡ (55 - filled) + 8 = omega arith in
    let long : length front ≡ 56 = length-append rest _ ∙ omega (arith, length-replicate (55 - filled) (zero)) in
    let parts : rest ++ (128 ∷ replicate (63 - filled) 0) ≡ front ++ replicate 8 0 =
    ap (λ n. rest ++ (128 ∷ replicate n 0)) cut
    ∙ ap (λ x. rest ++ (128 ∷ x)) (sym (replicate-append-replicate (55 - filled) 8 0))
    ∙ sym (append_assoc rest (128 ∷ replicate (55 - filled) 0) (replicate 8 0)) in
    ap (λ x. take 56 x ++ number) parts ∙ ap (λ x. x ++ number) (take_at front (replicate 8 0) 56 long) ∙ append_assoc rest (128 ∷ replicate (55 - filled) 0) number

-- and of two blocks
two_blocks : (rest number : List ℕ) (filled : ℕ) → filled < 64
    → (rest ++ (128 ∷ replicate (63 - filled) 0)) ++ (replicate 56 0 ++ number) ≡ rest ++ (128 ∷ (replicate (119 - filled) 0 ++ number))
two_blocks rest number filled h =
    let cut : (63 - filled) + 56 ≡ 119 - filled = omega arith in
    append_assoc rest (128 ∷ replicate (63 - filled) 0) (replicate 56 0 ++ number)
    ∙ ap (λ x. rest ++ (128 ∷ x)) (sym (append_assoc (replicate (63 - filled) 0) (replicate 56 0) number)
    ∙ ap (λ x. x ++ number) (replicate-append-replicate (63 - filled) 56 0 ∙ ap (λ n. replicate n 0) cut))

-- the state after a message whose last blocks are these
ends : (h : Hasher) (m last : List ℕ) (n : ℕ) (held : Holds h m) → length last ≡ n * 64
    → take (h.total % 64) h.buffer ++ padding (length m) ≡ last
    → blocks n h.state last ≡ digested m
unfolding digested
ends h m last n held size e =
    let rest = take (h.total % 64) h.buffer in
    let whole : padded m ≡ held.whole ++ last = ap (λ x. x ++ padding (length m)) held.split ∙ append_assoc held.whole rest (padding (length m)) ∙ ap (λ x. held.whole ++ x) e in
    let long : length (padded m) ≡ held.count * 64 + n * 64 = ap length whole ∙ length-append held.whole last ∙ omega (arith, held.in_blocks) in
    let many : length (padded m) / 64 ≡ held.count + n = omega arith in
    ap (λ s. blocks n s last) held.absorbed
    ∙ sym (blocks_append held.count n initial held.whole last held.in_blocks)
    ∙ ap (λ x. blocks (held.count + n) initial x) (sym whole)
    ∙ ap (λ k. blocks k initial (padded m)) (sym many)

-- the length that a hasher counted gives the padding's last bytes
counted_number : (h : Hasher) (m : List ℕ) (held : Holds h m) → number_bytes (8 * h.total) ≡ number_bytes (8 * length m)
counted_number h m held = number_mod (8 * h.total) (8 * length m) (omega (arith, held.counted))

-- how many bytes of the message wait in the buffer
rest_size : (h : Hasher) (m : List ℕ) (held : Holds h m) → length (take (h.total % 64) h.buffer) ≡ h.total % 64
rest_size h m held = length-take-le (h.total % 64) h.buffer (omega (arith, held.sized))

-- one block, where the length has room in it
pub ends_in_one : (h : Hasher) (m block last : List ℕ) (s : State) → h.total % 64 < 56
    → block ≡ take (h.total % 64) h.buffer ++ (128 ∷ replicate (63 - h.total % 64) 0)
    → last ≡ take 56 block ++ number_bytes (8 * h.total)
    → s ≡ compressed h.state last
    → Holds h m → s ≡ digested m
unfolding padding
ends_in_one h m block last s room e f c held =
    let rest = take (h.total % 64) h.buffer in
    let number = number_bytes (8 * length m) in
    let few : zeros (length m) ≡ 55 - h.total % 64 = omega (arith, held.counted) in
    let is_last : last ≡ rest ++ padding (length m) =
    f ∙ ap (λ b. take 56 b ++ number_bytes (8 * h.total)) e
    ∙ ap (λ x. take 56 (rest ++ (128 ∷ replicate (63 - h.total % 64) 0)) ++ x) (counted_number h m held)
    ∙ one_block rest number (h.total % 64) (rest_size h m held) room
    ∙ ap (λ n. rest ++ (128 ∷ (replicate n 0 ++ number))) (sym few) in
    let size : length last ≡ 64 =
    ap length is_last ∙ length-append rest (padding (length m))
    ∙ omega (arith, rest_size h m held, length-append (replicate (zeros (length m)) zero) number, length-replicate (zeros (length m)) zero, length_number (8 * length m)) in
    c ∙ sym (blocks_one h.state last size) ∙ ends h m last 1 held size (sym is_last)

-- two blocks, where it has none
pub ends_in_two : (h : Hasher) (m block last : List ℕ) (s t : State) → 56 ≤ h.total % 64
    → block ≡ take (h.total % 64) h.buffer ++ (128 ∷ replicate (63 - h.total % 64) 0)
    → last ≡ replicate 56 0 ++ number_bytes (8 * h.total)
    → s ≡ compressed h.state block → t ≡ compressed s last
    → Holds h m → t ≡ digested m
unfolding padding
ends_in_two h m block last s t none e f c d held =
    let rest = take (h.total % 64) h.buffer in
    let number = number_bytes (8 * length m) in
    let many : zeros (length m) ≡ 119 - h.total % 64 = omega (arith, held.counted) in
    let is_last : block ++ last ≡ rest ++ padding (length m) =
    ap (λ x. x ++ last) e ∙ ap (λ x. (rest ++ (128 ∷ replicate (63 - h.total % 64) 0)) ++ x) (f ∙ ap (λ x. replicate 56 0 ++ x) (counted_number h m held))
    ∙ two_blocks rest number (h.total % 64) (omega arith)
    ∙ ap (λ n. rest ++ (128 ∷ (replicate n 0 ++ number))) (sym many) in
    let block_size : length block ≡ 64 =
    ap length e ∙ length-append rest (128 ∷ replicate (63 - h.total % 64) 0)
    ∙ omega (arith, rest_size h m held, length-replicate (63 - h.total % 64) zero) in
    let last-size : length last ≡ 64 = ap length f ∙ length-append (replicate 56 zero) _ ∙ omega (arith, length_number (8 * h.total), length-replicate 56 zero) in
    let size : length (block ++ last) ≡ 128 = length-append block last ∙ omega arith in
    d ∙ ap (λ x. compressed x last) (c ∙ sym (blocks_one h.state block block_size))
    ∙ sym (blocks_one (blocks 1 h.state block) last last-size)
    ∙ sym (blocks_append 1 1 h.state block last block_size)
    ∙ ends h m (block ++ last) 2 held size (sym is_last)

-- a block of zeros with the rest and the byte of the one bit written into it
pub ended_is : (rest out : List ℕ) (filled : ℕ) → length rest ≡ filled → filled < 64
    → out ≡ rest ++ drop (0 + length rest) (replicate 64 0)
    → set out filled 128 ≡ rest ++ (128 ∷ replicate (63 - filled) 0)
ended_is rest out filled size h e =
    let left : 64 - (0 + length rest) ≡ suc (63 - filled) = omega arith in
    let behind : drop (0 + length rest) (replicate 64 0) ≡ 0 ∷ replicate (63 - filled) 0 = drop-replicate (0 + length rest) 64 0 ∙ ap (λ n. replicate n 0) left in
    ap (λ x. set x filled 128) (e ∙ ap (λ x. rest ++ x) behind) ∙ set_at rest 0 (replicate (63 - filled) 0) 128 filled size

-- a block with the length written at its end
pub lengthened : (block number out : List ℕ) (total : ℕ) → length block ≡ 64
    → number ≡ number_bytes (total * 8 % 2 ^ 64)
    → out ≡ take 56 block ++ (number ++ drop (56 + length number) block)
    → out ≡ take 56 block ++ number_bytes (8 * total)
lengthened block number out total size e f =
    let same : number ≡ number_bytes (8 * total) = e ∙ number_mod (total * 8 % 2 ^ 64) (8 * total) (omega arith) in
    let eight : length number ≡ 8 = ap length e ∙ length_number _ in
    let nothing : drop (56 + length number) block ≡ [] = drop_all (56 + length number) block (omega arith) in
    f ∙ ap (λ x. take 56 block ++ (number ++ x)) nothing ∙ ap (λ x. take 56 block ++ x) (append-nil number ∙ same)
