-- Sealing and opening, as lists. Assumes nothing.
use Rattle.std.proofs.Common.{◌≡◌, ℕ, ◌<◌, ◌≤◌, Bool, true, false, List, [], ◌++◌, length, take, drop, Ok, Err, Decides, Result, sym, refl, ap, ◌∙◌, subst, arith, length-drop, take-append-drop, take_at, drop_at}
use mathlib.Core.Bool.{false≢true}
use borrow.Rule.Slice.PartMut.{post_of}
use Rattle.aead.specs.Closing.{closed, content, fits, Tagged, Closing, Opening}
use Rattle.aead.specs.Behind.{Behind}
use Rattle.aead.proofs.Closed.{closed_opens, only_closed_opens, closed_apart}
use Rattle.aead.proofs.Closings.{short, fits_room}
use Rattle.primitives.specs.Group.{GroupModel, half, Commutes, Sized}
use Rattle.primitives.specs.Seals.{seal_key, sealing_key, opening_key, sealed, front_half, behind_half, seal_content, Sealing, SealFits, Unsealing, OnlySealedOpens, SealedApart}
use Rattle.primitives.specs.declared.seals.NotOpened.{NotOpened}
use Rattle.primitives.specs.declared.seals.NotOpened.TheVariants.{Shut, OpenedByOne}

-- two strings whose first 32 bytes and whose other bytes are the same
pub whole_same : (a b : List ℕ) → take 32 a ≡ take 32 b → drop 32 a ≡ drop 32 b → a ≡ b
whole_same a b p q = sym (take-append-drop 32 a) ∙ ap (λ l. l ++ drop 32 a) p ∙ ap (λ l. take 32 b ++ l) q ∙ take-append-drop 32 b

-- what fits behind a half has room for the half
pub half_room : (bs : List ℕ) → fits (behind_half bs) ≡ true → 32 ≤ length bs
half_room bs f = let long = length-drop 32 bs in let room = fits_room (behind_half bs) f in omega arith

-- a string that is shorter than a half has nothing to open
pub no_half : (g : GroupModel) (key bs : List ℕ) → length bs < 32 → SealFits g key bs → ⊥
no_half g key bs h t = let long = length-drop 32 bs in false≢true (sym (short (behind_half bs) (omega arith)) ∙ t.0)

-- the answer to whether an element is the one, for an element that it equals
pub not_one : (a b one : List ℕ) → a ≡ b → Decides false (a ≡ one) → b ≡ one → ⊥
not_one a b one e d f = false≢true (d.1 (e ∙ f))

module _ (g : GroupModel) where
  -- the key that was made from what was computed is the one that is meant
  pub sealing_key_is : (x drawn theirs common own key : List ℕ) → x ≡ drawn → common ≡ g.raise x theirs → own ≡ half g x → key ≡ seal_key common theirs own → key ≡ sealing_key g drawn theirs
  sealing_key_is x drawn theirs common own key d e f k = k ∙ ap (λ z. seal_key z theirs own) e ∙ ap (seal_key (g.raise x theirs) theirs) f ∙ ap (λ z. sealing_key g z theirs) d

  pub opening_key_is : (key own front common mine made : List ℕ) → own ≡ front → common ≡ g.raise key own → mine ≡ half g key → made ≡ seal_key common mine own → made ≡ opening_key g key front
  opening_key_is key own front common mine made o e f k = k ∙ ap (λ z. seal_key z mine own) e ∙ ap (λ z. seal_key (g.raise key own) z own) f ∙ ap (opening_key g key) o

  pub sealing_done : (x theirs before between key own : List ℕ) → key ≡ sealing_key g x theirs → own ≡ half g x → Behind 32 (λ b a. Closing key 0 [] b a true) before between → own ++ post_of 0 32 between ≡ sealed g x theirs (seal_content before)
  sealing_done x theirs before between key own k o (front, (f, e)) = ap (λ l. l ++ drop 32 between) o ∙ ap (λ l. half g x ++ l) e ∙ ap (λ z. half g x ++ closed z 0 [] (seal_content before)) k

  pub opening_refused : (key before after made : List ℕ) → made ≡ opening_key g key (front_half before) → Behind 32 (λ b a. Opening made 0 [] b a false) before after → (SealFits g key before → ⊥) × (after ≡ before)
  opening_refused key before after made k (front, (never, same)) = ((λ t. never (subst (λ z. Tagged z [] (behind_half before)) (sym k) t)), whole_same after before front same)

  pub only_sealed_opens : OnlySealedOpens g
  only_sealed_opens key before after (ne, (front, opened)) =
      sym (take-append-drop 32 before) ∙ ap (λ l. front_half before ++ l) (only_closed_opens (opening_key g key (front_half before)) 0 [] (behind_half before) (behind_half after) opened)

  module _ (sized : Sized g) where
    pub sealed_apart : SealedApart g
    sealed_apart x theirs a b e =
        let behind : (m : List ℕ) → drop 32 (sealed g x theirs m) ≡ closed (sealing_key g x theirs) 0 [] m = λ m. drop_at (half g x) (closed (sealing_key g x theirs) 0 [] m) 32 (sized x g.base) in
        closed_apart (sealing_key g x theirs) 0 [] a b (sym (behind a) ∙ ap (drop 32) e ∙ behind b)

    module _ (commutes : Commutes g) (x key before between : List ℕ) (made : Sealing g x (half g key) before between (Ok tt)) where
      abbrev under : List ℕ
      under = sealing_key g x (half g key)

      front : front_half between ≡ half g x
      front = ap (take 32) made.2 ∙ take_at (half g x) (closed under 0 [] (seal_content before)) 32 (sized x g.base)

      behind : behind_half between ≡ closed under 0 [] (seal_content before)
      behind = ap (drop 32) made.2 ∙ drop_at (half g x) (closed under 0 [] (seal_content before)) 32 (sized x g.base)

      -- both ways to the common element agree
      agreed : g.raise key (front_half between) ≡ g.raise x (half g key)
      agreed = ap (g.raise key) front ∙ commutes key x g.base

      same_key : opening_key g key (front_half between) ≡ under
      same_key = ap (λ z. seal_key z (half g key) (front_half between)) agreed ∙ ap (seal_key (g.raise x (half g key)) (half g key)) front

      opens : (after : List ℕ) (answer : Bool) → Opening (opening_key g key (front_half between)) 0 [] (behind_half between) after answer → (answer ≡ true) × (content after ≡ seal_content before)
      opens after answer o = closed_opens under 0 [] (behind_half before) (behind_half between) after answer (made.1, behind) (subst (λ z. Opening z 0 [] (behind_half between) after answer) same_key o)

      pub sealed_opens : (after : List ℕ) (answer : Result (Unit {0}) NotOpened) → Unsealing g key between after answer → (answer ≡ Ok tt) × (seal_content after ≡ seal_content before)
      sealed_opens after (Ok u) (ne, (f, o)) = (refl, (opens (behind_half after) true o).1)
      sealed_opens after (Err Shut) (never, same) = absurd (false≢true (opens (behind_half between) false (never, refl)).0)
      sealed_opens after (Err OpenedByOne) (one, f, same) = absurd (made.0 (sym agreed ∙ one))
