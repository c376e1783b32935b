-- What goes over a line, as terms whose parts can't be confused: equal bytes are equal terms. Assumes nothing.
use Rattle.std.specs.Prelude.{◌≡◌, ℕ, Bool, true, false, List, [], ◌∷◌, refl}
use mathlib.Core.List.{nil≢cons, cons≢nil, head-eq_of_cons-eq, tail-eq_of_cons-eq}
use Rattle.std.proofs.Math.Decide.{ℕ_discrete}
use Rattle.symbolic.specs.Key.{Key, keys_discrete, insert}

-- Raw n: some bytes that anybody can make up
-- Number w n: the number n, written in w bytes; Listed ns: how many there are, and then each in a byte
-- Fresh t i: the value drawn at time t with index i
-- Secret k, Public k: the two halves of a key for signatures; Secret k is also a key of the group
-- One: the group's one; Small n: an element that any key raises to it
-- Element ks: the generator raised by each of the keys; Power e ks: any other term raised so
-- Sign k m: the signature with k over m; Digest m: the digest; Mac k m: the sum over m under k
-- Close k n h m: m closed under the key k with the number n, and with the head h in the sum
-- Both a b: a followed by b; Tag n m: m behind the first byte n
pub data Term : Type 0 where
  Raw : ℕ → Term
  Number : ℕ → ℕ → Term
  Listed : List ℕ → Term
  Fresh : ℕ → ℕ → Term
  Secret : Key → Term
  Public : Key → Term
  One : Term
  Small : ℕ → Term
  Element : List Key → Term
  Power : Term → List Key → Term
  Sign : Key → Term → Term
  Digest : Term → Term
  Mac : Term → Term → Term
  Close : Term → ℕ → Term → Term → Term
  Both : Term → Term → Term
  Tag : ℕ → Term → Term
  deriving Discrete as Term-discrete

-- equality of lists, decided
unfoldable pub cons_decided : {X : Type 0} (x y : X) (xs ys : List X) → Dec (x ≡ y) → Dec (xs ≡ ys) → Dec (Path (List X) (x ∷ xs) (y ∷ ys))
cons_decided x y xs ys (yes p) (yes q) = yes (λ i. p i ∷ q i)
cons_decided x y xs ys (yes p) (no n) = no (λ e. n (tail-eq_of_cons-eq e))
cons_decided x y xs ys (no n) q = no (λ e. n (head-eq_of_cons-eq e))

unfoldable pub lists_discrete : {X : Type 0} → Discrete X → Discrete (List X)
lists_discrete d [] [] = yes refl
lists_discrete d [] (y ∷ ys) = no (λ e. nil≢cons e)
lists_discrete d (x ∷ xs) [] = no (λ e. cons≢nil e)
lists_discrete d (x ∷ xs) (y ∷ ys) = cons_decided x y xs ys (d x y) (lists_discrete d xs ys)

unfoldable pub decided : {X : Type 0} → Dec X → Bool
decided (yes x) = true
decided (no x) = false

-- equality of terms, decided
unfoldable pub terms_discrete : Discrete Term
unfolding ℕ_discrete lists_discrete cons_decided keys_discrete
terms_discrete = Term-discrete ℕ_discrete (lists_discrete ℕ_discrete) keys_discrete (lists_discrete keys_discrete)

-- whether two terms are the same
unfoldable pub same : Term → Term → Bool
unfolding decided terms_discrete
same a b = decided (terms_discrete a b)

-- an element raised by a key
unfoldable pub rise : Key → Term → Term
rise k (Raw n) = Power (Raw n) (k ∷ [])
rise k (Number w n) = Power (Number w n) (k ∷ [])
rise k (Listed ns) = Power (Listed ns) (k ∷ [])
rise k (Fresh t i) = Power (Fresh t i) (k ∷ [])
rise k (Secret l) = Power (Secret l) (k ∷ [])
rise k (Public l) = Power (Public l) (k ∷ [])
rise k One = One
rise k (Small n) = One
rise k (Element ks) = Element (insert k ks)
rise k (Power e ks) = Power e (insert k ks)
rise k (Sign l m) = Power (Sign l m) (k ∷ [])
rise k (Digest m) = Power (Digest m) (k ∷ [])
rise k (Mac l m) = Power (Mac l m) (k ∷ [])
rise k (Close l n h m) = Power (Close l n h m) (k ∷ [])
rise k (Both a b) = Power (Both a b) (k ∷ [])
rise k (Tag n m) = Power (Tag n m) (k ∷ [])

-- what a term is, to who takes it apart
pub data Seen : Type 0 where
  a_number : ℕ → ℕ → Seen
  a_list : List ℕ → Seen
  a_secret : Key → Seen
  a_public : Key → Seen
  a_closed : Term → ℕ → Term → Term → Seen
  a_pair : Term → Term → Seen
  a_tagged : ℕ → Term → Seen
  something : Seen

unfoldable pub seen : Term → Seen
seen (Raw n) = something
seen (Number w n) = a_number w n
seen (Listed ns) = a_list ns
seen (Fresh t i) = something
seen (Secret k) = a_secret k
seen (Public k) = a_public k
seen One = something
seen (Small n) = something
seen (Element ks) = something
seen (Power e ks) = something
seen (Sign k m) = something
seen (Digest m) = something
seen (Mac k m) = something
seen (Close k n h m) = a_closed k n h m
seen (Both a b) = a_pair a b
seen (Tag n m) = a_tagged n m
