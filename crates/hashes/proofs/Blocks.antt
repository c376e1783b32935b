-- How the compression of many blocks splits. Assumes nothing.
use Rattle.std.proofs.Common.{◌≡◌, ℕ, zero, suc, ◌+◌, ◌*◌, ◌≤◌, List, [], ◌++◌, length, take, drop, refl, ap, sym, ◌∙◌, ap₂, suc-add, zero-add, arith, length-drop}
use Rattle.std.proofs.lemmas.List.{take-append-le, drop-append-le, drop-drop, take_all, nil_from_length}
use Rattle.sha256.specs.declared.state.State.{State}
use Rattle.sha256.specs.Sha256.{compressed, blocks}

-- some blocks, and then the others
pub blocks_append : (n k : ℕ) (s : State) (xs ys : List ℕ) → length xs ≡ n * 64 → blocks (n + k) s (xs ++ ys) ≡ blocks k (blocks n s xs) ys
unfolding blocks
blocks_append zero k s xs ys h =
    let none : xs ≡ [] = nil_from_length xs (omega arith) in
    rw (none, zero-add) refl
blocks_append (suc n) k s xs ys h =
    let some : 64 ≤ length xs = omega arith in
    let left : length (drop 64 xs) ≡ n * 64 = rw length-drop (omega arith) in
    ap (λ m. blocks m s (xs ++ ys)) (suc-add n k)
    ∙ ap (λ b. blocks (n + k) (compressed s b) (drop 64 (xs ++ ys))) (take-append-le 64 xs ys some)
    ∙ ap (λ b. blocks (n + k) (compressed s (take 64 xs)) b) (drop-append-le 64 xs ys some)
    ∙ blocks_append n k (compressed s (take 64 xs)) (drop 64 xs) ys left

pub blocks_one : (s : State) (block : List ℕ) → length block ≡ 64 → blocks 1 s block ≡ compressed s block
unfolding blocks
blocks_one s block h = ap (compressed s) (take_all 64 block (omega arith))

-- one block more, which stands behind the others
pub blocks_more : (n : ℕ) (s t : State) (bytes block : List ℕ) → t ≡ blocks n s bytes → block ≡ take 64 (drop (64 * n) bytes) → compressed t block ≡ blocks (n + 1) s bytes
unfolding blocks
blocks_more zero s t bytes block e f = ap₂ compressed e f
blocks_more (suc n) s t bytes block e f =
    let on : 64 + 64 * n ≡ 64 * suc n = omega arith in
    blocks_more n (compressed s (take 64 bytes)) t (drop 64 bytes) block e (f ∙ ap (take 64) (sym (drop-drop (64 * n) 64 bytes ∙ ap (λ m. drop m bytes) on)))
    ∙ sym (ap (λ m. blocks m s bytes) (suc-add n 1))

pub blocks_none : (s : State) (bytes : List ℕ) → s ≡ blocks 0 s bytes
unfolding blocks
blocks_none s bytes = refl
