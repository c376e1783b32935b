-- Without marks, and without refusing the group's one, the promise still holds. Assumes nothing.
use Rattle.std.proofs.Common.{◌≡◌, ℕ, Bool, true, false, List, [], ◌∷◌, Some, None, Option, refl, ap, arith}
use Rattle.words.specs.Registry.{mark_reply}
use Rattle.symbolic.specs.Key.{Key}
use Rattle.symbolic.specs.Term.{Term, Raw, Number, Listed, Fresh, Secret, Public, One, Small, Element, Power, Sign, Digest, Mac, Close, Both, Tag, same, rise, seen}
use Rattle.symbolic.proofs.Terms.{same_is}
use Rattle.symbolic.proofs.Public.{Released, Ok, ok_left, ok_right, ok_untag}
use Rattle.symbolic.proofs.Public as public
use Rattle.protocol.specs.Words.{Body, Reply}
use Rattle.protocol.specs.Symbols.{reply_term, by_key, key_seen}
use Rattle.protocol.proofs.Apart.{body_same, claims_same, marks_apart}
use Rattle.promise.proofs.Promised.{promised_in}
use Rattle.near_misses.specs.Weak.{unmarked}
use Rattle.near_misses.specs.Safeguards.{without_marks, MarksAreASafeguard, without_refusing, RefusingTheOneIsASafeguard}

-- what is signed of a reply without its mark still determines it
unmarked_same : (x y : Body Term) → unmarked x ≡ unmarked y → x ≡ y
unmarked_same x y e = body_same x y (ap (Tag mark_reply) e)

-- and is never a whole reply: a hello begins with another byte than a reply
unmarked_apart : (x : Body Term) (r : Reply Term) → unmarked x ≡ reply_term r → ⊥
unmarked_apart x r e = let n : ◌≡◌ {A = ℕ} 1 2 = cc in omega arith

element_one : (ks : List Key) → Element ks ≡ One → ⊥
element_one ks e = let z : ◌≡◌ {A = ℕ} 0 1 = cc in omega arith

element_raw : (ks : List Key) (n : ℕ) → Element ks ≡ Raw n → ⊥
element_raw ks n e = let z : ◌≡◌ {A = ℕ} 0 1 = cc in omega arith

pub marks_are_a_safeguard : MarksAreASafeguard
marks_are_a_safeguard = promised_in without_marks (record {
  bodies = unmarked_same;
  claims = λ a b e. e;
  apart = unmarked_apart;
  body_public = λ log x o. public.both (ok_left (ok_untag o)) (ok_right (ok_untag o));
  claim_public = λ log w o. o;
  not_refused = element_one;
})

power_raw : (e : Term) (ks : List Key) → Power e ks ≡ Raw 1 → ⊥
power_raw e ks f = let z : ◌≡◌ {A = ℕ} 0 1 = cc in omega arith

one_raw : One ≡ Raw 1 → ⊥
one_raw f = let z : ◌≡◌ {A = ℕ} 0 1 = cc in omega arith

-- no element that is raised is bytes that somebody made up
rise_raw : (k : Key) (e : Term) → rise k e ≡ Raw 1 → ⊥
unfolding rise
rise_raw k (Raw n) f = power_raw (Raw n) (k ∷ []) f
rise_raw k (Number w n) f = power_raw (Number w n) (k ∷ []) f
rise_raw k (Listed ns) f = power_raw (Listed ns) (k ∷ []) f
rise_raw k (Fresh t i) f = power_raw (Fresh t i) (k ∷ []) f
rise_raw k (Secret l) f = power_raw (Secret l) (k ∷ []) f
rise_raw k (Public l) f = power_raw (Public l) (k ∷ []) f
rise_raw k One f = one_raw f
rise_raw k (Small n) f = one_raw f
rise_raw k (Element ks) f = element_raw _ 1 f
rise_raw k (Power e ks) f = power_raw e _ f
rise_raw k (Sign l m) f = power_raw (Sign l m) (k ∷ []) f
rise_raw k (Digest m) f = power_raw (Digest m) (k ∷ []) f
rise_raw k (Mac l m) f = power_raw (Mac l m) (k ∷ []) f
rise_raw k (Close l n h m) f = power_raw (Close l n h m) (k ∷ []) f
rise_raw k (Both a b) f = power_raw (Both a b) (k ∷ []) f
rise_raw k (Tag n m) f = power_raw (Tag n m) (k ∷ []) f

common_raw : (o : Option Key) (e : Term) → by_key o (λ k. rise k e) ≡ Raw 1 → ⊥
unfolding by_key
common_raw None e f = let n : ◌≡◌ {A = ℕ} 0 1 = cc in omega arith
common_raw (Some k) e f = rise_raw k e f

refused_nothing : (x e : Term) → same (by_key (key_seen (seen x)) (λ k. rise k e)) (Raw 1) ≡ false
refused_nothing x e = go (same (by_key (key_seen (seen x)) (λ k. rise k e)) (Raw 1)) refl
  where
    go : (b : Bool) → same (by_key (key_seen (seen x)) (λ k. rise k e)) (Raw 1) ≡ b → b ≡ false
    go true f = absurd (common_raw (key_seen (seen x)) e (same_is (by_key (key_seen (seen x)) (λ k. rise k e)) (Raw 1) f))
    go false f = refl

pub refusing_the_one_is_a_safeguard : RefusingTheOneIsASafeguard
refusing_the_one_is_a_safeguard = record {
  refuses_nothing = refused_nothing;
  still_promised = promised_in without_refusing (record {
    bodies = body_same;
    claims = claims_same;
    apart = λ x r e. marks_apart x (reply_term r) e;
    body_public = λ log x o. o;
    claim_public = λ log w o. public.tag o;
    not_refused = λ ks e. element_raw ks 1 e;
  });
}
