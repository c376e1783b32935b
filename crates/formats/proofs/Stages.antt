-- Each stage of reading: what it does at bytes that have it, and what was there where it passed. Assumes nothing.
use Rattle.std.proofs.Common.{◌≡◌, ℕ, ◌<◌, ◌≤◌, Bool, true, false, cond, eqb, ltb, List, [], ◌∷◌, ◌++◌, length, take, drop, Ok, Err, Result, sym, refl, ap, ◌∙◌, ap₂, arith, length-append}
use Rattle.std.proofs.lemmas.List.{take_at, drop_at, nil_from_length}
use Rattle.std.proofs.lemmas.Bool.{le-ltb, lt-ltb, ltb-false, eqb-true}
use Rattle.words.specs.declared.fault.Fault.{Fault}
use Rattle.words.specs.declared.fault.Fault.TheVariants.{UnknownKind, BadLength}
use Rattle.formats.specs.Reading.{with, alone, and_then, must, byte, part, kind, done}

pub err_ok : {X P : Type 0} (f : Fault) (x : X) → Err f ≡ Ok x → P
err_ok f x e = let z : ◌≡◌ {A = ℕ} 0 1 = cc in absurd (omega arith)

pub ok_same : {X : Type 0} (x y : X) → ◌≡◌ {A = Result X Fault} (Ok x) (Ok y) → x ≡ y
ok_same x y e = cc

pub err_same : {X : Type 0} (f g : Fault) → ◌≡◌ {A = Result X Fault} (Err f) (Err g) → f ≡ g
err_same f g e = cc

-- an answer that stands alone came with something behind it
pub not_alone : {X : Type 0} (r : Result (X × List ℕ) Fault) (x : X) → Ok x ≡ alone r → (rest : List ℕ) × (r ≡ Ok (x, rest))
not_alone (Ok p) x e = (p.1, ap (λ y. Ok (y, p.1)) (sym (ok_same x p.0 e)))
not_alone (Err f) x e = err_ok f x (sym e)

pub fault_alone : {X : Type 0} (r : Result (X × List ℕ) Fault) (f : Fault) → Err f ≡ alone r → r ≡ Err f
fault_alone (Ok p) f e = err_ok f p.0 e
fault_alone (Err g) f e = ap Err (sym (err_same f g e))

pub with_ok : {X Y : Type 0} (f : X → Y) (r : Result X Fault) (y : Y) → with f r ≡ Ok y → (x : X) × (r ≡ Ok x) × (f x ≡ y)
with_ok f (Ok x) y e = (x, refl, ok_same (f x) y e)
with_ok f (Err g) y e = err_ok g y e

-- forward: a stage at bytes that have it
pub part_at : {X : Type 0} (n : ℕ) (p q : List ℕ) (k : List ℕ → List ℕ → Result X Fault) → length p ≡ n → part n (p ++ q) k ≡ k p q
part_at n p q k e =
    ap (λ t. cond t (Err BadLength) (k (take n (p ++ q)) (drop n (p ++ q)))) (le-ltb (length (p ++ q)) n (omega (arith, length-append p q)))
    ∙ ap₂ k (take_at p q n e) (drop_at p q n e)

pub part_whole : {X : Type 0} (n : ℕ) (bs : List ℕ) (k : List ℕ → List ℕ → Result X Fault) → n ≤ length bs → part n bs k ≡ k (take n bs) (drop n bs)
part_whole n bs k h = ap (λ t. cond t (Err BadLength) (k (take n bs) (drop n bs))) (le-ltb (length bs) n h)

pub part_short : {X : Type 0} (n : ℕ) (bs : List ℕ) (k : List ℕ → List ℕ → Result X Fault) → length bs < n → part n bs k ≡ Err BadLength
part_short n bs k h = ap (λ t. cond t (Err BadLength) (k (take n bs) (drop n bs))) (lt-ltb (length bs) n h)

pub must_true : {X : Type 0} (b : Bool) (f : Fault) (r : Result X Fault) → b ≡ true → must b f r ≡ r
must_true b f r e = ap (λ t. cond t r (Err f)) e

pub must_false : {X : Type 0} (b : Bool) (f : Fault) (r : Result X Fault) → b ≡ false → must b f r ≡ Err f
must_false b f r e = ap (λ t. cond t r (Err f)) e

pub then_ok : {X Y : Type 0} (r : Result X Fault) (k : X → Result Y Fault) (x : X) → r ≡ Ok x → and_then r k ≡ k x
then_ok r k x e = ap (λ r. and_then r k) e

-- backward: what was there where a stage passed
pub by_must : {X : Type 0} (b : Bool) (f : Fault) (r : Result X Fault) (x : X) → must b f r ≡ Ok x → (b ≡ true) × (r ≡ Ok x)
by_must true f r x e = (refl, e)
by_must false f r x e = err_ok f x e

pub by_then : {X Y : Type 0} (r : Result X Fault) (k : X → Result Y Fault) (y : Y) → and_then r k ≡ Ok y → (x : X) × (r ≡ Ok x) × (k x ≡ Ok y)
by_then (Ok x) k y e = (x, refl, e)
by_then (Err f) k y e = err_ok f y e

pub by_byte : {X : Type 0} (bs : List ℕ) (k : ℕ → List ℕ → Result X Fault) (x : X) → byte bs k ≡ Ok x → (b : ℕ) × (rest : List ℕ) × (bs ≡ b ∷ rest) × (k b rest ≡ Ok x)
by_byte [] k x e = err_ok BadLength x e
by_byte (b ∷ rest) k x e = (b, rest, refl, e)

pub by_part : {X : Type 0} (n : ℕ) (bs : List ℕ) (k : List ℕ → List ℕ → Result X Fault) (x : X) → part n bs k ≡ Ok x → (n ≤ length bs) × (k (take n bs) (drop n bs) ≡ Ok x)
by_part n bs k x e = go (ltb (length bs) n) refl e where
  go : (t : Bool) → ltb (length bs) n ≡ t → cond t (Err BadLength) (k (take n bs) (drop n bs)) ≡ Ok x → (n ≤ length bs) × (k (take n bs) (drop n bs) ≡ Ok x)
  go true p e = err_ok BadLength x e
  go false p e = (ltb-false (length bs) n p, e)

pub by_kind : {X : Type 0} (n : ℕ) (bs : List ℕ) (k : List ℕ → Result X Fault) (x : X) → kind n bs k ≡ Ok x → (rest : List ℕ) × (bs ≡ n ∷ rest) × (k rest ≡ Ok x)
by_kind n bs k x e =
    let p = by_byte bs (λ b rest. must (eqb b n) UnknownKind (k rest)) x e in
    let q = by_must (eqb p.0 n) UnknownKind (k p.1) x p.3 in
    (p.1, p.2 ∙ ap (λ b. b ∷ p.1) (eqb-true p.0 n q.0), q.1)

pub by_done : {X : Type 0} (bs : List ℕ) (x y : X) → done bs x ≡ Ok y → (bs ≡ []) × (x ≡ y)
by_done bs x y e =
    let p = by_must (eqb (length bs) 0) BadLength (Ok x) y e in
    (nil_from_length bs (eqb-true (length bs) 0 p.0), ok_same x y p.1)
