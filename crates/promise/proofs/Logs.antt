-- Logs: two entries with the same number of things before them are one, and of two entries one is the earlier. Assumes nothing.
use Rattle.std.proofs.Common.{◌≡◌, ◌<◌, Bool, true, not, ◌⊎◌, List, [], ◌∷◌, ◌++◌, length, sym, refl, ap, ◌∙◌, subst, inl, inr, arith}
use Rattle.std.proofs.lemmas.Bool.{and_parts, not-true, false≢true}
use Rattle.symbolic.specs.Term.{Term}
use Rattle.symbolic.proofs.Terms.{is_same}
use Rattle.protocol.specs.Event.{Event, Entry, stolen, taken, Theft}
use Rattle.promise.specs.Run.{Log, At, here, there, Past, robs, takes, never, safe, untaken}

pub at_shorter : {X : Type 0} {x : X} {xs ys : List X} → At x xs ys → length xs < length ys
at_shorter (here {ys} e f) = let g = ap length f in omega arith
at_shorter (there a) = let h = at_shorter a in omega arith

pub at_unique : {X : Type 0} {x y : X} {xs ys zs : List X} → At x xs zs → At y ys zs → length xs ≡ length ys → (x ≡ y) × (xs ≡ ys)
at_unique (here e f) (here g h) n = (e ∙ sym g, f ∙ sym h)
at_unique (here e f) (there b) n = let k = at_shorter b in let l = ap length f in absurd (omega arith)
at_unique (there a) (here g h) n = let k = at_shorter a in let l = ap length h in absurd (omega arith)
at_unique (there a) (there b) n = at_unique a b n

-- what was before something that was before
pub at_before : {X : Type 0} {x y : X} {xs ys zs : List X} → At x xs ys → At y ys zs → At x xs zs
at_before {x = x} {xs = xs} a (here g h) = there (subst (λ l. At x xs l) h a)
at_before a (there b) = there (at_before a b)

-- of two entries one is below the other, unless they are one
pub at_order : {X : Type 0} {x y : X} {xs ys zs : List X} → At x xs zs → At y ys zs → At x xs ys ⊎ ((length xs ≡ length ys) ⊎ At y ys xs)
at_order (here e f) (here g h) = inr (inl (ap length f ∙ sym (ap length h)))
at_order {y = y} {ys = ys} (here e f) (there b) = inr (inr (subst (λ l. At y ys l) (sym f) b))
at_order {x = x} {xs = xs} (there a) (here g h) = inl (subst (λ l. At x xs l) (sym h) a)
at_order (there a) (there b) = at_order a b

pub newest_at : {X : Type 0} (x : X) (xs : List X) → At x xs (x ∷ xs)
newest_at x xs = here refl refl

-- what has happened stays so
abbrev pub later : {log : Log} {what : Event Term} {e : Entry Term} {whole : Log} → At e log whole → Past log what → Past whole what
later a p = record { entry = p.entry; below = p.below; place = at_before p.place a; is = p.is }

abbrev pub next : {log : Log} {what : Event Term} (e : Entry Term) → Past log what → Past (e ∷ log) what
next e p = record { entry = p.entry; below = p.below; place = there p.place; is = p.is }

abbrev pub now_past : (e : Entry Term) (log : Log) → Past (e ∷ log) e.what
now_past e log = record { entry = e; below = log; place = here refl refl; is = refl }

-- what has happened by now was the newest entry, or had happened before
pub now_or_before : {log : Log} {what : Event Term} {e : Entry Term} → (p : Past (e ∷ log) what) → ((e.what ≡ what) × (p.below ≡ log)) ⊎ ((q : Past log what) × (q.below ≡ p.below))
now_or_before {log} {what} {e} p = go p.place
  where
    go : At p.entry p.below (e ∷ log) → ((e.what ≡ what) × (p.below ≡ log)) ⊎ ((q : Past log what) × (q.below ≡ p.below))
    go (here f g) = inl (ap (λ (x : Entry Term). x.what) (sym f) ∙ p.is, g)
    go (there a) = inr (record { entry = p.entry; below = p.below; place = a; is = p.is }, refl)

-- what never happened
pub never_was : (p : Event Term → Bool) (log : Log) → never p log ≡ true → (what : Event Term) → p what ≡ true → Past log what → ⊥
unfolding never
never_was p [] n what t q = go q.place
  where
    go : At q.entry q.below [] → ⊥
    go a = elim a [ ]
never_was p (x ∷ log) n what t q = go (now_or_before q) (never_was p log (and_parts (not (p x.what)) (never p log) n).1 what t)
  where
    go : ((x.what ≡ what) × (q.below ≡ log)) ⊎ ((r : Past log what) × (r.below ≡ q.below)) → (Past log what → ⊥) → ⊥
    go (inl f) rest = false≢true (sym (not-true (p x.what) (and_parts (not (p x.what)) (never p log) n).0) ∙ ap p f.0 ∙ t)
    go (inr r) rest = rest r.0

-- a safe key was not among those that were stolen or taken
pub not_stolen : (k : Term) (log : Log) → safe k log ≡ true → (t : Theft Term) → t.key ≡ k → Past log (stolen t) → ⊥
unfolding robs
not_stolen k log s t e p = never_was (robs k) log s (stolen t) (is_same t.key k e) p

pub not_taken : (k : Term) (log : Log) → safe k log ≡ true → (t : Theft Term) → t.key ≡ k → Past log (taken t) → ⊥
unfolding robs
not_taken k log s t e p = never_was (robs k) log s (taken t) (is_same t.key k e) p

-- nobody's private keys were taken
pub none_taken : (log : Log) → untaken log ≡ true → (t : Theft Term) → Past log (taken t) → ⊥
unfolding takes
none_taken log n t p = never_was takes log n (taken t) refl p

-- a list up to something that stands in it
pub at_split : {X : Type 0} {x : X} {xs ys : List X} → At x xs ys → (front : List X) × (ys ≡ front ++ x ∷ xs)
at_split {x = x} {xs = xs} (here {y = y} {ys = ys} e f) = ([], λ i. sym e i ∷ sym f i)
at_split (there {y = y} a) = let r = at_split a in (y ∷ r.0, ap (λ l. y ∷ l) r.1)
