-- A double round with its diagonals in another order. Assumes nothing.
use Rattle.std.proofs.Common.{◌≡◌, ℕ, List, length, sym, refl, subst}
use Rattle.sha256.proofs.WrittenOut.{spelled}
use Rattle.ciphers.specs.ChaCha20.{quarter_at, double_round}

-- the diagonals from the last to the first
abbrev pub backwards : List ℕ → List ℕ
backwards s =
    quarter_at 0 5 10 15 (quarter_at 1 6 11 12 (quarter_at 2 7 8 13 (quarter_at 3 4 9 14
    (quarter_at 3 7 11 15 (quarter_at 2 6 10 14 (quarter_at 1 5 9 13 (quarter_at 0 4 8 12 s)))))))

-- they have no word in common, so their order changes nothing
pub any_order : (s : List ℕ) → length s ≡ 16 → backwards s ≡ double_round s
unfolding quarter_at double_round
any_order s h = subst (λ x. backwards x ≡ double_round x) (sym (spelled s h)) refl
