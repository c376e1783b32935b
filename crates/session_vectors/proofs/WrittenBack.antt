-- Bytes of a vector that were turned through a slice. Assumes nothing.
use Rattle.std.proofs.Common.{◌≡◌, ℕ, true, List, ◌++◌, length, take, drop, sym, ap, ◌∙◌, subst}
use lib.Seq.{take-append_seam}
use Rattle.ciphers.specs.ChaCha20.{Turning}

pub turned_back : (key : List ℕ) (counter : ℕ) (nonce text before after old : List ℕ) (size : ℕ) → before ≡ text → size ≡ length text → Turning key counter nonce before after true → Turning key counter nonce text (take size (after ++ drop (length after) old)) true
turned_back key counter nonce text before after old size e s T =
    let n : size ≡ length after = s ∙ ap length (sym e) ∙ sym T.1.len in
    let same : after ≡ take size (after ++ drop (length after) old) = sym (ap (λ k. take k (after ++ drop (length after) old)) n ∙ take-append_seam after (drop (length after) old)) in
    subst (λ t. Turning key counter nonce t (take size (after ++ drop (length after) old)) true) e (subst (λ t. Turning key counter nonce before t true) same T)
