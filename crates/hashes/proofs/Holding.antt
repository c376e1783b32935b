-- What a hasher holds after each way to take bytes in. Assumes nothing.
use Rattle.std.proofs.Common.{◌≡◌, ℕ, ◌+◌, ◌/◌, ◌%◌, ◌^◌, ◌<◌, List, [], ◌++◌, length, take, drop, sym, refl, ap, ◌∙◌, subst, append_assoc, arith, length-append, length-drop}
use Rattle.std.proofs.lemmas.List.{append-nil, take_at, length-take-le, drop_all}
use Rattle.sha256.specs.declared.state.State.{State}
use Rattle.hashes.specs.declared.hasher.Hasher.{Hasher}
use Rattle.sha256.specs.Sha256.{initial, compressed, blocks}
use Rattle.hashes.specs.Streams.{Holds}
use Rattle.hashes.proofs.Blocks.{blocks_append, blocks_one}

-- the hasher of these parts
abbrev pub hasher_of : State → List ℕ → ℕ → Hasher
hasher_of s buffer total = record { state = s; buffer = buffer; total = total }

pub holds_none : (buffer : List ℕ) → length buffer ≡ 64 → (s : State) → s ≡ initial → Holds (hasher_of s buffer 0) []
unfolding blocks
holds_none buffer h s e =
    record {
      count = 0;
      whole = [];
      in_blocks = refl;
      split = refl;
      absorbed = e;
      sized = h;
      counted = refl;
    }

pub holds_block : (s : State) (buffer block : List ℕ) → length buffer ≡ 64 → length block ≡ 64 → s ≡ compressed initial block → Holds (hasher_of s buffer 64) block
holds_block s buffer block h size e =
    record {
      count = 1;
      whole = block;
      in_blocks = size;
      split = sym (append-nil block);
      absorbed = e ∙ sym (blocks_one initial block size);
      sized = h;
      counted = rw size refl;
    }

-- a part of the message in two steps
pub holds_both : (h : Hasher) (m xs ys bytes : List ℕ) → bytes ≡ xs ++ ys → Holds h ((m ++ xs) ++ ys) → Holds h (m ++ bytes)
holds_both h m xs ys bytes e held = subst (Holds h) (append_assoc m xs ys ∙ ap (λ b. m ++ b) (sym e)) held

-- bytes that leave room in the buffer
pub holds_buffered : (h : Hasher) (m bytes buffer : List ℕ) (total : ℕ)
    → h.total % 64 + length bytes < 64
    → buffer ≡ take (h.total % 64) h.buffer ++ (bytes ++ drop (h.total % 64 + length bytes) h.buffer)
    → total ≡ (h.total + length bytes) % 2 ^ 64
    → Holds h m → Holds (hasher_of h.state buffer total) (m ++ bytes)
holds_buffered h m bytes buffer total room e t held =
    let front = take (h.total % 64) h.buffer in
    let behind = drop (h.total % 64 + length bytes) h.buffer in
    let size : length front ≡ h.total % 64 = length-take-le (h.total % 64) h.buffer (omega (arith, held.sized)) in
    let now-filled : total % 64 ≡ h.total % 64 + length bytes = omega arith in
    let both : length (front ++ bytes) ≡ total % 64 = length-append front bytes ∙ omega arith in
    let taken : take (total % 64) buffer ≡ front ++ bytes = ap (take (total % 64)) (e ∙ sym (append_assoc front bytes behind)) ∙ take_at (front ++ bytes) behind (total % 64) both in
    record {
      count = held.count;
      whole = held.whole;
      in_blocks = held.in_blocks;
      split = ap (λ x. x ++ bytes) held.split ∙ append_assoc held.whole front bytes ∙ ap (λ x. held.whole ++ x) (sym taken);
      absorbed = held.absorbed;
      sized = ap length e ∙ length-append front (bytes ++ behind) ∙ omega (arith, length-append bytes behind, length-drop (h.total % 64 + length bytes) h.buffer, size, held.sized);
      counted = t ∙ omega (arith, length-append m bytes, held.counted);
    }

-- bytes that just fill the buffer
pub holds_completed : (h : Hasher) (m bytes block : List ℕ) (s : State) (total : ℕ)
    → h.total % 64 + length bytes ≡ 64
    → block ≡ take (h.total % 64) h.buffer ++ (bytes ++ drop (h.total % 64 + length bytes) h.buffer)
    → s ≡ compressed h.state block
    → total ≡ (h.total + length bytes) % 2 ^ 64
    → Holds h m → Holds (hasher_of s block total) (m ++ bytes)
holds_completed h m bytes block s total full e c t held =
    let front = take (h.total % 64) h.buffer in
    let front-size : length front ≡ h.total % 64 = length-take-le (h.total % 64) h.buffer (omega (arith, held.sized)) in
    let nothing : drop (h.total % 64 + length bytes) h.buffer ≡ [] = drop_all _ h.buffer (omega (arith, held.sized)) in
    let is_block : block ≡ front ++ bytes = e ∙ ap (λ x. front ++ (bytes ++ x)) nothing ∙ ap (λ x. front ++ x) (append-nil bytes) in
    let block_size : length block ≡ 64 = ap length is_block ∙ length-append front bytes ∙ omega arith in
    let message : m ++ bytes ≡ held.whole ++ block = ap (λ x. x ++ bytes) held.split ∙ append_assoc held.whole front bytes ∙ ap (λ x. held.whole ++ x) (sym is_block) in
    let empty : total % 64 ≡ 0 = omega arith in
    record {
      count = held.count + 1;
      whole = held.whole ++ block;
      in_blocks = length-append held.whole block ∙ omega (arith, held.in_blocks);
      split = message ∙ sym (append-nil (held.whole ++ block)) ∙ ap (λ n. (held.whole ++ block) ++ take n block) (sym empty);
      absorbed =
          c ∙ ap (λ x. compressed x block) held.absorbed
          ∙ sym (blocks_one (blocks held.count initial held.whole) block block_size)
          ∙ sym (blocks_append held.count 1 initial held.whole block held.in_blocks);
      sized = block_size;
      counted = t ∙ omega (arith, length-append m bytes, held.counted);
    }

-- whole blocks, where the buffer is empty
pub holds_advanced : (h : Hasher) (m bytes : List ℕ) (s : State) (total : ℕ)
    → h.total % 64 ≡ 0 → length bytes % 64 ≡ 0
    → s ≡ blocks (length bytes / 64) h.state bytes
    → total ≡ (h.total + length bytes) % 2 ^ 64
    → Holds h m → Holds (hasher_of s h.buffer total) (m ++ bytes)
holds_advanced h m bytes s total empty even c t held =
    let was-whole : m ≡ held.whole = held.split ∙ ap (λ n. held.whole ++ take n h.buffer) empty ∙ append-nil held.whole in
    let still-empty : total % 64 ≡ 0 = omega arith in
    record {
      count = held.count + length bytes / 64;
      whole = held.whole ++ bytes;
      in_blocks = length-append held.whole bytes ∙ omega (arith, held.in_blocks);
      split = ap (λ x. x ++ bytes) was-whole ∙ sym (append-nil (held.whole ++ bytes)) ∙ ap (λ n. (held.whole ++ bytes) ++ take n h.buffer) (sym still-empty);
      absorbed =
          c ∙ ap (λ x. blocks (length bytes / 64) x bytes) held.absorbed
          ∙ sym (blocks_append held.count (length bytes / 64) initial held.whole bytes held.in_blocks);
      sized = held.sized;
      counted = t ∙ omega (arith, length-append m bytes, held.counted);
    }
