-- Closing and opening, as lists. Assumes nothing.
use Rattle.std.proofs.Common.{◌≡◌, ℕ, zero, suc, ◌+◌, ◌-◌, ◌<◌, ◌≤◌, Bool, true, false, ◌&&◌, leb, List, [], ◌∷◌, ◌++◌, length, get_or, take, drop, sym, refl, ap, ◌∙◌, append-nil, arith, length-append, length-drop, take-append-drop, length-take-le, take_at, ext_get_or, drop_at}
use mathlib.Core.Bool.{and-eq-true_iff}
use lib.Bits.{bit_xor}
use Rattle.std.proofs.lemmas.List.{drop_all}
use Rattle.std.proofs.lemmas.Bool.{leb-true, le-leb}
use borrow.Rule.Slice.PartMut.{mid_of, post_of, put_mid}
use Rattle.sha256.specs.Sha256.{state_bytes, sha256}
use Rattle.hashes.specs.Hmac.{hmac_sha256}
use Rattle.ciphers.proofs.Turning.{turned_twice}
use Rattle.ciphers.specs.ChaCha20.{stream_byte, Turned, suffices}
use Rattle.aead.specs.Closing.{turned_from, nonce_of, encrypted, tag, closed, content, last_bytes, fits, Tagged, Opening, ClosedOpens, OnlyClosedOpens, ClosedApart}

pub turned_length : (key : List ℕ) (counter : ℕ) (nonce : List ℕ) (p : ℕ) (bs : List ℕ) → length (turned_from key counter nonce p bs) ≡ length bs
unfolding turned_from
turned_length key counter nonce p [] = refl
turned_length key counter nonce p (b ∷ bs) = ap suc (turned_length key counter nonce (p + 1) bs)

turned_at : (key : List ℕ) (counter : ℕ) (nonce : List ℕ) (p : ℕ) (bs : List ℕ) (k : ℕ) → k < length bs → get_or (turned_from key counter nonce p bs) k 0 ≡ bit_xor (get_or bs k 0) (stream_byte key counter nonce (p + k))
unfolding turned_from
turned_at key counter nonce p [] k h = omega (arith, h)
turned_at key counter nonce p (b ∷ bs) zero h = ap (λ q. bit_xor b (stream_byte key counter nonce q)) (omega arith)
turned_at key counter nonce p (b ∷ bs) (suc k) h =
    turned_at key counter nonce (p + 1) bs k (omega arith) ∙ ap (λ q. bit_xor (get_or bs k 0) (stream_byte key counter nonce q)) (omega arith)

turned_here : (key : List ℕ) (counter : ℕ) (nonce bs : List ℕ) (k : ℕ) → k < length bs → get_or (turned_from key counter nonce 0 bs) k 0 ≡ bit_xor (get_or bs k 0) (stream_byte key counter nonce k)
turned_here key counter nonce bs k h = turned_at key counter nonce 0 bs k h ∙ ap (λ q. bit_xor (get_or bs k 0) (stream_byte key counter nonce q)) (omega arith)

-- bytes that are turned are these
pub all_turned : (key : List ℕ) (counter : ℕ) (nonce before after : List ℕ) → Turned key counter nonce before after → after ≡ turned_from key counter nonce 0 before
all_turned key counter nonce before after T =
    ext_get_or 0 after (turned_from key counter nonce 0 before) (T.len ∙ sym (turned_length key counter nonce 0 before))
    (λ k h. let n = T.len in let within : k < length before = omega arith in T.each k within ∙ sym (turned_here key counter nonce before k within))

pub turned_are : (key : List ℕ) (counter : ℕ) (nonce before : List ℕ) → Turned key counter nonce before (turned_from key counter nonce 0 before)
turned_are key counter nonce before = record { len = turned_length key counter nonce 0 before; each = turned_here key counter nonce before }

-- a list with other bytes in the place of its first ones, and others in the place of its last ones
pub both_replaced : (xs first last : List ℕ) (end : ℕ) → length first ≡ end → (ys : List ℕ) → ys ≡ first ++ post_of 0 (end - 0) xs → put_mid end (length ys - end) ys last ≡ first ++ last
both_replaced xs first last end m ys e =
    let front : take end ys ≡ first = ap (take end) e ∙ take_at first (post_of 0 (end - 0) xs) end m in
    let long = length-drop end ys in
    let none : post_of end (length ys - end) ys ≡ [] = drop_all (length ys - end) (drop end ys) (omega arith) in
    ap (λ l. l ++ (last ++ post_of end (length ys - end) ys)) front ∙ ap (λ l. first ++ (last ++ l)) none ∙ ap (λ l. first ++ l) (append-nil last)

module _ (before : List ℕ) (end : ℕ) (room : 16 ≤ length before) (e : end ≡ length before - 16) where
  -- where the content ends, however it is written
  same_end : end - 0 ≡ length before - 16
  same_end = omega arith

  pub content_length : length (mid_of 0 (end - 0) before) ≡ length before - 16
  content_length = length-take-le (end - 0) before (omega arith) ∙ same_end

  pub fits_is : (b : Bool) → suffices 1 (length (mid_of 0 (end - 0) before)) ≡ b → fits before ≡ b
  fits_is b s = ap (λ x. x && suffices 1 (length before - 16)) (le-leb 16 (length before) room) ∙ ap (suffices 1) (sym content_length) ∙ s

  module _ (key : List ℕ) (n : ℕ) (nonce : List ℕ) (own : nonce ≡ nonce_of n) (T : List ℕ) (turned : Turned key 1 nonce (mid_of 0 (end - 0) before) T) where
    pub turned_end : length T ≡ end - 0
    turned_end = turned.len ∙ content_length ∙ sym same_end

    pub turned_content : T ≡ encrypted key n (content before)
    turned_content = all_turned key 1 nonce (mid_of 0 (end - 0) before) T turned ∙ ap (λ l. turned_from key 1 l 0 (mid_of 0 (end - 0) before)) own ∙ ap (λ k. encrypted key n (take k before)) same_end

    pub closing_done : (head last : List ℕ) → last ≡ tag key head (mid_of 0 (end - 0) (T ++ post_of 0 (end - 0) before)) → put_mid end (length (T ++ post_of 0 (end - 0) before) - end) (T ++ post_of 0 (end - 0) before) last ≡ closed key n head (content before)
    closing_done head last t =
        let last-is : last ≡ tag key head T = t ∙ ap (tag key head) (take_at T (post_of 0 (end - 0) before) (end - 0) turned_end) in
        both_replaced before T last end (turned_end ∙ omega arith) (T ++ post_of 0 (end - 0) before) refl
        ∙ ap (λ l. T ++ l) last-is ∙ ap (λ l. l ++ tag key head l) turned_content

    pub opening_done : T ++ post_of 0 (end - 0) before ≡ encrypted key n (content before) ++ last_bytes before
    opening_done = ap (λ l. l ++ post_of 0 (end - 0) before) turned_content ∙ ap (λ k. encrypted key n (content before) ++ drop k before) same_end

tag_has_16 : (key head bs : List ℕ) → length (tag key head bs) ≡ 16
unfolding hmac_sha256 sha256 state_bytes
tag_has_16 key head bs = refl

-- encrypted twice is unchanged
twice : (key : List ℕ) (n : ℕ) (m : List ℕ) → encrypted key n (encrypted key n m) ≡ m
twice key n m = turned_twice key 1 (nonce_of n) m (encrypted key n m) (encrypted key n (encrypted key n m)) (turned_are key 1 (nonce_of n) m) (turned_are key 1 (nonce_of n) (encrypted key n m))

-- the two parts of something with 16 bytes behind it
module _ (m t : List ℕ) (h : length t ≡ 16) where
  before_tag : length (m ++ t) - 16 ≡ length m
  before_tag = let long = length-append m t in omega arith

  content_of : content (m ++ t) ≡ m
  content_of = ap (λ k. take k (m ++ t)) before_tag ∙ take_at m t (length m) refl

  tag_behind : last_bytes (m ++ t) ≡ t
  tag_behind = ap (λ k. drop k (m ++ t)) before_tag ∙ drop_at m t (length m) refl

pub closed_apart : ClosedApart
closed_apart key n head a b e =
    let at : (m : List ℕ) → content (closed key n head m) ≡ encrypted key n m = λ m. content_of (encrypted key n m) (tag key head (encrypted key n m)) (tag_has_16 key head (encrypted key n m)) in
    sym (twice key n a) ∙ ap (encrypted key n) (sym (at a) ∙ ap content e ∙ at b) ∙ twice key n b

pub only_closed_opens : OnlyClosedOpens
only_closed_opens key n head before after ((f, t), e) =
    let inside : content after ≡ encrypted key n (content before) = ap content e ∙ content_of (encrypted key n (content before)) (last_bytes before) (ap length t ∙ tag_has_16 key head (content before)) in
    let back : encrypted key n (content after) ≡ content before = ap (encrypted key n) inside ∙ twice key n (content before) in
    sym (take-append-drop (length before - 16) before) ∙ ap (λ l. content before ++ l) t ∙ ap (λ l. l ++ tag key head l) (sym back)

pub closed_opens : ClosedOpens
closed_opens key n head before between after answer (f, e) = go answer
  where
    m : List ℕ
    m = content before

    own : List ℕ
    own = tag key head (encrypted key n m)

    sixteen : length own ≡ 16
    sixteen = tag_has_16 key head (encrypted key n m)

    long : length between ≡ length before
    long =
        let room = leb-true 16 (length before) ((and-eq-true_iff (leb 16 (length before)) (suffices 1 (length before - 16))).0 f).0 in
        ap length e ∙ length-append (encrypted key n m) own ∙ omega (arith, sixteen, turned_length key 1 (nonce_of n) 0 m, length-take-le (length before - 16) before (omega arith))

    inside : content between ≡ encrypted key n m
    inside = ap content e ∙ content_of (encrypted key n m) own sixteen

    behind : last_bytes between ≡ own
    behind = ap last_bytes e ∙ tag_behind (encrypted key n m) own sixteen

    tagged : Tagged key head between
    tagged = (ap (λ k. leb 16 k && suffices 1 (k - 16)) long ∙ f, behind ∙ ap (tag key head) (sym inside))

    go : (b : Bool) → Opening key n head between after b → (b ≡ true) × (content after ≡ content before)
    go true (t, o) = (refl, ap content o ∙ content_of (encrypted key n (content between)) (last_bytes between) (ap length behind ∙ sixteen) ∙ ap (encrypted key n) inside ∙ twice key n m)
    go false (t, o) = absurd (t tagged)
