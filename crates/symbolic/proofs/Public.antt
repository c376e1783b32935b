-- What may be public, given what sides have released: it is closed under everything that anybody can compute. Assumes nothing.
use Rattle.std.proofs.Common.{◌≡◌, ℕ, ◌⊎◌, List, [], ◌∷◌, sym, refl, ap, ◌∙◌, subst, inl, inr}
use mathlib.Core.List.Memᴰ
use mathlib.Core.List.{Memᴰ}
use Rattle.symbolic.specs.Key.{Key, plain, insert}
use Rattle.symbolic.specs.Term.{Term, Raw, Number, Listed, Fresh, Secret, Public, One, Small, Element, Power, Sign, Digest, Mac, Close, Both, Tag, rise}
use Rattle.symbolic.specs.Derivable as derivable
use Rattle.symbolic.specs.Derivable.{Gets}
use Rattle.symbolic.proofs.Insert.{insert_swap, insert_itself, insert_others, insert_cancel}

-- what sides have released so far, by families; each says what became public and why
-- given t i: the value drawn at t with index i; known k: the secret key k
-- signed k m u: the signature with k over m, which is public if u is
-- closed k n h m: m closed under k with the number n and the head h
pub record Released : Type 1 where
  pub given : ℕ → ℕ → Type 0
  pub known : Key → Type 0
  pub signed : Key → Term → Term → Type 0
  pub closed : Term → ℕ → Term → Term → Type 0

-- all the keys are known but one at the most
pub data Few (r : Released) : List Key → Type 0 where
  all : {ks : List Key} → ((k : Key) → Memᴰ k ks → r.known k) → Few r ks
  but : {ks : List Key} (x : Key) (rest : List Key) → ks ≡ insert x rest → ((k : Key) → Memᴰ k rest → r.known k) → Few r ks

pub data Ok (r : Released) : Term → Type 0 where
  raw : {n : ℕ} → Ok r (Raw n)
  number : {w n : ℕ} → Ok r (Number w n)
  listed : {ns : List ℕ} → Ok r (Listed ns)
  fresh : {t i : ℕ} → r.given t i → Ok r (Fresh t i)
  secret : {k : Key} → r.known k → Ok r (Secret k)
  public : {k : Key} → Ok r (Public k)
  one : Ok r One
  small : {n : ℕ} → Ok r (Small n)
  element : {ks : List Key} → Few r ks → Ok r (Element ks)
  power : {e : Term} {ks : List Key} → Ok r e → ((k : Key) → Memᴰ k ks → r.known k) → Ok r (Power e ks)
  signs : {k : Key} {m : Term} → r.known k → Ok r m → Ok r (Sign k m)
  signed : {k : Key} {m : Term} (u : Term) → r.signed k m u → Ok r u → Ok r m → Ok r (Sign k m)
  digest : {m : Term} → Ok r m → Ok r (Digest m)
  mac : {k m : Term} → Ok r k → Ok r m → Ok r (Mac k m)
  closes : {k h m : Term} {n : ℕ} → Ok r k → Ok r h → Ok r m → Ok r (Close k n h m)
  closed : {k h m : Term} {n : ℕ} → r.closed k n h m → Ok r h → Ok r (Close k n h m)
  both : {a b : Term} → Ok r a → Ok r b → Ok r (Both a b)
  tag : {n : ℕ} {m : Term} → Ok r m → Ok r (Tag n m)

-- what the families owe: known numbers are known keys, and what was closed is public if its key is
pub record Lawful (r : Released) : Type 0 where
  pub plain_known : (n : ℕ) → r.known (plain n)
  pub opens : {k h m : Term} {n : ℕ} → r.closed k n h m → Ok r k → Ok r m

-- one family holds all that another does
pub record Grows (r s : Released) : Type 0 where
  pub more_given : {t i : ℕ} → r.given t i → s.given t i
  pub more_known : {k : Key} → r.known k → s.known k
  pub more_signed : {k : Key} {m u : Term} → r.signed k m u → s.signed k m u
  pub more_closed : {k h m : Term} {n : ℕ} → r.closed k n h m → s.closed k n h m

few_grows : {r s : Released} → Grows r s → {ks : List Key} → Few r ks → Few s ks
few_grows g (all f) = all (λ k m. g.more_known (f k m))
few_grows g (but x rest e f) = but x rest e (λ k m. g.more_known (f k m))

-- what is public stays so
pub stays : {r s : Released} → Grows r s → {t : Term} → Ok r t → Ok s t
stays g raw = raw
stays g number = number
stays g listed = listed
stays g (fresh x) = fresh (g.more_given x)
stays g (secret x) = secret (g.more_known x)
stays g public = public
stays g one = one
stays g small = small
stays g (element f) = element (few_grows g f)
stays g (power p f) = power (stays g p) (λ k m. g.more_known (f k m))
stays g (signs x p) = signs (g.more_known x) (stays g p)
stays g (signed u x p q) = signed u (g.more_signed x) (stays g p) (stays g q)
stays g (digest p) = digest (stays g p)
stays g (mac p q) = mac (stays g p) (stays g q)
stays g (closes p q v) = closes (stays g p) (stays g q) (stays g v)
stays g (closed x p) = closed (g.more_closed x) (stays g p)
stays g (both p q) = both (stays g p) (stays g q)
stays g (tag p) = tag (stays g p)

-- taking apart what is public
pub ok_left : {r : Released} {a b : Term} → Ok r (Both a b) → Ok r a
ok_left (both p q) = p

pub ok_right : {r : Released} {a b : Term} → Ok r (Both a b) → Ok r b
ok_right (both p q) = q

pub ok_untag : {r : Released} {n : ℕ} {m : Term} → Ok r (Tag n m) → Ok r m
ok_untag (tag p) = p

pub ok_signed : {r : Released} {k : Key} {m : Term} → Ok r (Sign k m) → Ok r m
ok_signed (signs x p) = p
ok_signed (signed u x p q) = q

pub ok_known : {r : Released} {k : Key} → Ok r (Secret k) → r.known k
ok_known (secret x) = x

pub ok_given : {r : Released} {t i : ℕ} → Ok r (Fresh t i) → r.given t i
ok_given (fresh x) = x

pub ok_mac_key : {r : Released} {k m : Term} → Ok r (Mac k m) → Ok r k
ok_mac_key (mac p q) = p

pub ok_few : {r : Released} {ks : List Key} → Ok r (Element ks) → Few r ks
ok_few (element f) = f

pub ok_power : {r : Released} {e : Term} {ks : List Key} → Ok r (Power e ks) → (k : Key) → Memᴰ k ks → r.known k
ok_power (power p f) = f

-- what is closed was closed with a public key, or by a side
pub ok_closed : {r : Released} {k h m : Term} {n : ℕ} → Ok r (Close k n h m) → (Ok r k × Ok r m) ⊎ r.closed k n h m
ok_closed (closes p q v) = inl (p, v)
ok_closed (closed x p) = inr x

-- a signature was made with a known key, or by a side
pub ok_signer : {r : Released} {k : Key} {m : Term} → Ok r (Sign k m) → r.known k ⊎ ((u : Term) × r.signed k m u)
ok_signer (signs x p) = inl x
ok_signer (signed u x p q) = inr (u, x)

ok_head : {r : Released} {k h m : Term} {n : ℕ} → Ok r (Close k n h m) → Ok r h
ok_head (closes p q v) = q
ok_head (closed x p) = p

ok_unclose : {r : Released} → Lawful r → {k h m : Term} {n : ℕ} → Ok r (Close k n h m) → Ok r k → Ok r m
ok_unclose l (closes p q v) o = v
ok_unclose l (closed x p) o = l.opens x o

-- a key put among known ones
one_more : (r : Released) (k : Key) (ks : List Key) → r.known k → ((x : Key) → Memᴰ x ks → r.known x) → (x : Key) → Memᴰ x (insert k ks) → r.known x
one_more r k ks o f x m = go (insert_others x k ks m)
  where
    go : (x ≡ k) ⊎ Memᴰ x ks → r.known x
    go (inl e) = subst (λ y. r.known y) (sym e) o
    go (inr n) = f x n

few_more : {r : Released} (k : Key) (ks : List Key) → r.known k → Few r ks → Few r (insert k ks)
few_more {r} k ks o (all f) = all (one_more r k ks o f)
few_more {r} k ks o (but x rest e f) = but x (insert k rest) (ap (insert k) e ∙ insert_swap k x rest) (one_more r k rest o f)

only : (r : Released) (k : Key) → r.known k → (x : Key) → Memᴰ x (k ∷ []) → r.known x
only r k o x m = go (Memᴰ.cases_cons m)
  where
    go : (x ≡ k) ⊎ Memᴰ x [] → r.known x
    go (inl e) = subst (λ y. r.known y) (sym e) o
    go (inr n) = elim n [ ]

-- raising by a known key
ok_rise : {r : Released} (k : Key) → r.known k → {e : Term} → Ok r e → Ok r (rise k e)
unfolding rise
ok_rise {r} k o raw = power raw (only r k o)
ok_rise {r} k o number = power number (only r k o)
ok_rise {r} k o listed = power listed (only r k o)
ok_rise {r} k o (fresh x) = power (fresh x) (only r k o)
ok_rise {r} k o (secret x) = power (secret x) (only r k o)
ok_rise {r} k o public = power public (only r k o)
ok_rise {r} k o one = one
ok_rise {r} k o small = one
ok_rise {r} k o (element {ks} f) = element (few_more k ks o f)
ok_rise {r} k o (power {ks} p f) = power p (one_more r k ks o f)
ok_rise {r} k o (signs x p) = power (signs x p) (only r k o)
ok_rise {r} k o (signed u x p q) = power (signed u x p q) (only r k o)
ok_rise {r} k o (digest p) = power (digest p) (only r k o)
ok_rise {r} k o (mac p q) = power (mac p q) (only r k o)
ok_rise {r} k o (closes p q v) = power (closes p q v) (only r k o)
ok_rise {r} k o (closed x p) = power (closed x p) (only r k o)
ok_rise {r} k o (both p q) = power (both p q) (only r k o)
ok_rise {r} k o (tag p) = power (tag p) (only r k o)

-- who has heard only what is public derives only what is public
pub derives : {r : Released} → Lawful r → {heard : List Term} → ((t : Term) → Memᴰ t heard → Ok r t) → {t : Term} → Gets heard t → Ok r t
derives l h (derivable.by_ear {t = x} m) = h x m
derives l h derivable.raw = raw
derives l h derivable.number = number
derives l h derivable.listed = listed
derives l h derivable.public = public
derives l h derivable.one = one
derives l h derivable.small = small
derives l h derivable.generator = element (all (λ k m. elim m [ ]))
derives l h (derivable.plain_key {n = n}) = secret (l.plain_known n)
derives l h (derivable.both p q) = both (derives l h p) (derives l h q)
derives l h (derivable.left b p) = ok_left (derives l h p)
derives l h (derivable.right a p) = ok_right (derives l h p)
derives l h (derivable.tag p) = tag (derives l h p)
derives l h (derivable.untag n p) = ok_untag (derives l h p)
derives l h (derivable.sign p q) = signs (ok_known (derives l h p)) (derives l h q)
derives l h (derivable.signed k p) = ok_signed (derives l h p)
derives l h (derivable.raise {k = k} p q) = ok_rise k (ok_known (derives l h p)) (derives l h q)
derives l h (derivable.digest p) = digest (derives l h p)
derives l h (derivable.mac p q) = mac (derives l h p) (derives l h q)
derives l h (derivable.close p q v) = closes (derives l h p) (derives l h q) (derives l h v)
derives l h (derivable.unclose k e n p q) = ok_unclose l (derives l h p) (derives l h q)
derives l h (derivable.head k m n p) = ok_head (derives l h p)

-- An element raised by a key that isn't known is public only if it is the group's one, or if the element is the generator
-- raised by known keys: then who knows those raises the half of the other key by them.
pub raised_by_unknown : {r : Released} (y : Key) → (r.known y → ⊥) → (e : Term) → Ok r (rise y e) → (rise y e ≡ One) ⊎ ((ks : List Key) × (e ≡ Element ks) × ((k : Key) → Memᴰ k ks → r.known k))
unfolding rise
raised_by_unknown {r} y u (Raw n) o = absurd (u (ok_power o y (Memᴰ.head refl)))
raised_by_unknown {r} y u (Number w n) o = absurd (u (ok_power o y (Memᴰ.head refl)))
raised_by_unknown {r} y u (Listed ns) o = absurd (u (ok_power o y (Memᴰ.head refl)))
raised_by_unknown {r} y u (Fresh t i) o = absurd (u (ok_power o y (Memᴰ.head refl)))
raised_by_unknown {r} y u (Secret k) o = absurd (u (ok_power o y (Memᴰ.head refl)))
raised_by_unknown {r} y u (Public k) o = absurd (u (ok_power o y (Memᴰ.head refl)))
raised_by_unknown {r} y u One o = inl refl
raised_by_unknown {r} y u (Small n) o = inl refl
raised_by_unknown {r} y u (Element ks) o = inr (go (ok_few o))
  where
    same_rest : (x : Key) (rest : List Key) → insert y ks ≡ insert x rest → ((k : Key) → Memᴰ k rest → r.known k) → (y ≡ x) ⊎ Memᴰ y rest → (k : Key) → Memᴰ k ks → r.known k
    same_rest x rest e f (inl p) k m = f k (subst (λ l. Memᴰ k l) (insert_cancel y ks rest (e ∙ ap (λ z. insert z rest) (sym p))) m)
    same_rest x rest e f (inr n) k m = absurd (u (f y n))

    go : Few r (insert y ks) → (ls : List Key) × (Element ks ≡ Element ls) × ((k : Key) → Memᴰ k ls → r.known k)
    go (all f) = absurd (u (f y (insert_itself y ks)))
    go (but x rest e f) = (ks, refl, same_rest x rest e f (insert_others y x rest (subst (λ l. Memᴰ y l) e (insert_itself y ks))))
raised_by_unknown {r} y u (Power e ks) o = absurd (u (ok_power o y (insert_itself y ks)))
raised_by_unknown {r} y u (Sign k m) o = absurd (u (ok_power o y (Memᴰ.head refl)))
raised_by_unknown {r} y u (Digest m) o = absurd (u (ok_power o y (Memᴰ.head refl)))
raised_by_unknown {r} y u (Mac k m) o = absurd (u (ok_power o y (Memᴰ.head refl)))
raised_by_unknown {r} y u (Close k n h m) o = absurd (u (ok_power o y (Memᴰ.head refl)))
raised_by_unknown {r} y u (Both a b) o = absurd (u (ok_power o y (Memᴰ.head refl)))
raised_by_unknown {r} y u (Tag n m) o = absurd (u (ok_power o y (Memᴰ.head refl)))
