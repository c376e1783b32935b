-- What fits, what has its right tag, and what is lent behind the first bytes of a word. Assumes nothing.
use Rattle.std.proofs.Common.{◌≡◌, ℕ, ◌-◌, ◌<◌, ◌≤◌, Bool, true, false, ◌&&◌, leb, List, [], ◌++◌, length, take, drop, sym, refl, ap, ◌∙◌, subst, append-nil, arith, length-drop, length-take-le, take_all, drop_at}
use mathlib.Core.Bool.{and-eq-true_iff, false≢true}
use Rattle.std.proofs.lemmas.List.{drop_all}
use Rattle.std.proofs.lemmas.Bool.{leb-true, lt-leb}
use borrow.Rule.Slice.PartMut.{mid_of, post_of, put_mid, take_put}
use Rattle.ciphers.specs.ChaCha20.{suffices, Turning}
use Rattle.aead.specs.Closing.{nonce_of, fits, Tagged, Opening}
use Rattle.aead.proofs.Closed.{fits_is, opening_done}
use Rattle.aead.specs.Behind.{Behind}

-- what is lent behind the first bytes of a word, and given back changed
pub behind : (Change : List ℕ → List ℕ → Type 0) (start : ℕ) (word rest : List ℕ) → start ≤ length word → Change (mid_of start (length word - start) word) rest → Behind start Change word (put_mid start (length word - start) word rest)
behind Change start word rest room change =
    let long = length-drop start word in
    let lent : mid_of start (length word - start) word ≡ drop start word = take_all (length word - start) (drop start word) (omega arith) in
    let none : post_of start (length word - start) word ≡ [] = drop_all (length word - start) (drop start word) (omega arith) in
    let back : drop start (put_mid start (length word - start) word rest) ≡ rest = drop_at (take start word) (rest ++ post_of start (length word - start) word) start (length-take-le start word (omega arith)) ∙ ap (λ l. rest ++ l) none ∙ append-nil rest in
    (take_put start (length word - start) word rest (omega arith), subst (λ l. Change (drop start word) l) (sym back) (subst (λ l. Change l rest) lent change))

-- what is shorter than a tag doesn't fit
pub short : (bs : List ℕ) → length bs < 16 → fits bs ≡ false
short bs h = ap (λ x. x && suffices 1 (length bs - 16)) (lt-leb 16 (length bs) h)

pub fits_room : (bs : List ℕ) → fits bs ≡ true → 16 ≤ length bs
fits_room bs f = leb-true 16 (length bs) ((and-eq-true_iff (leb 16 (length bs)) (suffices 1 (length bs - 16))).0 f).0

-- what has its right tag is decrypted, since the keystream suffices for it
pub opened : (key : List ℕ) (n : ℕ) (head bytes T : List ℕ) (end : ℕ) (b : Bool) → Tagged key head bytes → end ≡ length bytes - 16 → Turning key 1 (nonce_of n) (mid_of 0 (end - 0) bytes) T b → Opening key n head bytes (T ++ post_of 0 (end - 0) bytes) b
opened key n head bytes T end true tagged e turned = (tagged, opening_done bytes end (fits_room bytes tagged.0) e key n (nonce_of n) refl T turned.1)
opened key n head bytes T end false tagged e turned = absurd (false≢true (sym (fits_is bytes end (fits_room bytes tagged.0) e false turned.0) ∙ tagged.0))
