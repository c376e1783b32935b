-- Everything that anybody can compute from what was heard. Assumes nothing.
use Rattle.std.specs.Prelude.{ℕ, List, []}
use mathlib.Core.List.{Memᴰ}
use Rattle.symbolic.specs.Key.{Key, plain}
use Rattle.symbolic.specs.Term.{Term, Raw, Number, Listed, Secret, Public, One, Small, Element, Sign, Digest, Mac, Close, Both, Tag, rise}

pub data Gets (heard : List Term) : Term → Type 0 where
  by_ear : {t : Term} → Memᴰ t heard → Gets heard t
  -- what is public: made-up bytes, numbers, lists, the halves of keys for signatures, known elements, known numbers as keys
  raw : {n : ℕ} → Gets heard (Raw n)
  number : {w n : ℕ} → Gets heard (Number w n)
  listed : {ns : List ℕ} → Gets heard (Listed ns)
  public : {k : Key} → Gets heard (Public k)
  one : Gets heard One
  small : {n : ℕ} → Gets heard (Small n)
  generator : Gets heard (Element [])
  plain_key : {n : ℕ} → Gets heard (Secret (plain n))
  -- terms put together and taken apart
  both : {a b : Term} → Gets heard a → Gets heard b → Gets heard (Both a b)
  left : {a : Term} (b : Term) → Gets heard (Both a b) → Gets heard a
  right : {b : Term} (a : Term) → Gets heard (Both a b) → Gets heard b
  tag : {n : ℕ} {m : Term} → Gets heard m → Gets heard (Tag n m)
  untag : {m : Term} (n : ℕ) → Gets heard (Tag n m) → Gets heard m
  -- signatures, which hide nothing
  sign : {k : Key} {m : Term} → Gets heard (Secret k) → Gets heard m → Gets heard (Sign k m)
  signed : {m : Term} (k : Key) → Gets heard (Sign k m) → Gets heard m
  -- elements raised by a key at hand, as often as one likes
  raise : {k : Key} {e : Term} → Gets heard (Secret k) → Gets heard e → Gets heard (rise k e)
  -- digests and sums
  digest : {m : Term} → Gets heard m → Gets heard (Digest m)
  mac : {k m : Term} → Gets heard k → Gets heard m → Gets heard (Mac k m)
  -- closing, and opening with the key
  close : {k h m : Term} {n : ℕ} → Gets heard k → Gets heard h → Gets heard m → Gets heard (Close k n h m)
  unclose : {m : Term} (k h : Term) (n : ℕ) → Gets heard (Close k n h m) → Gets heard k → Gets heard m
  head : {h : Term} (k m : Term) (n : ℕ) → Gets heard (Close k n h m) → Gets heard h
