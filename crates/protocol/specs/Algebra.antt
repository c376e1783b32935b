-- The primitives that the protocol is made of. One definition of what a side does stands over any of them:
-- over bytes it is what the code does, over terms it is what the promise is proved of. Assumes nothing.
use Rattle.std.specs.Prelude.{ℕ, Bool, Option}
use Rattle.words.specs.Registry.{derive_lock}
use Rattle.protocol.specs.Got.{Got}
use Rattle.protocol.specs.Words.{Body, Word}

-- same: whether two atoms are equal; write, read: words as atoms
-- body b: what the signature of a reply is over; claim r: what the signature of an end is over, r being the written reply
-- both a b: a followed by b; front, rear: a content taken apart into what stands before a signature, and the signature
-- none: nothing; byte n: the one byte n
-- one: the group's one; half x: the public half of the ephemeral key x; common x e: the element e raised by x
-- public k: the public half of the identity key k; sign k m; verifies p m s: whether s is a signature over m by the key with the half p
-- digest, mac; close k n h m: m closed under k with the number n and the head h in the sum; unclose opens that
pub record Algebra : Type 1 where
  pub Atom : Type 0
  pub same : Atom → Atom → Bool
  pub write : Word Atom → Atom
  pub read : Atom → Got (Word Atom)
  pub body : Body Atom → Atom
  pub claim : Atom → Atom
  pub both : Atom → Atom → Atom
  pub front : Atom → Atom
  pub rear : Atom → Atom
  pub none : Atom
  pub byte : ℕ → Atom
  pub one : Atom
  pub half : Atom → Atom
  pub common : Atom → Atom → Atom
  pub public : Atom → Atom
  pub sign : Atom → Atom → Atom
  pub verifies : Atom → Atom → Atom → Bool
  pub digest : Atom → Atom
  pub mac : Atom → Atom → Atom
  pub close : Atom → ℕ → Atom → Atom → Atom
  pub unclose : Atom → ℕ → Atom → Atom → Option Atom

-- the key of a seal: the sum over the hello's half and the seal's half, under their common element
abbrev pub seal_key : (A : Algebra) → A.Atom → A.Atom → A.Atom → A.Atom
seal_key A common theirs mine = A.mac common (A.both theirs mine)

-- a content sealed for a half, with a key that is made for this once
abbrev pub sealed : (A : Algebra) → A.Atom → A.Atom → A.Atom → A.Atom
sealed A key theirs content = A.close (seal_key A (A.common key theirs) theirs (A.half key)) 0 A.none content

-- what is in a box that was sealed for the half of this key, by who made the other half
abbrev pub unsealed : (A : Algebra) → A.Atom → A.Atom → A.Atom → Option A.Atom
unsealed A key other box = A.unclose (seal_key A (A.common key other) (A.half key) other) 0 A.none box

-- the key that an end is locked with
abbrev pub lock_key : (A : Algebra) → A.Atom → A.Atom
lock_key A secret = A.mac secret (A.byte derive_lock)

abbrev pub locked : (A : Algebra) → A.Atom → A.Atom → A.Atom
locked A secret content = A.close (lock_key A secret) 0 A.none content

abbrev pub unlocked : (A : Algebra) → A.Atom → A.Atom → Option A.Atom
unlocked A secret box = A.unclose (lock_key A secret) 0 A.none box

-- the first key of a way: from the session secret, the way's byte, the choice and the digest of the reply
abbrev pub way_key : (A : Algebra) → ℕ → A.Atom → ℕ → A.Atom → A.Atom
way_key A way secret choice digest = A.mac secret (A.both (A.byte way) (A.both (A.byte choice) digest))
