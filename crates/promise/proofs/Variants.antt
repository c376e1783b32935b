-- What the proof of the promise needs of a variant of the primitives. The rules have it. Assumes nothing.
use Rattle.std.proofs.Common.{◌≡◌, ℕ, List, arith}
use Rattle.symbolic.specs.Key.{Key}
use Rattle.symbolic.specs.Term.{Term, One, Element}
use Rattle.symbolic.proofs.Public.{Ok}
use Rattle.symbolic.proofs.Public as public
use Rattle.protocol.specs.Words.{Body, Reply}
use Rattle.protocol.specs.Symbols.{body_term, reply_term, Variant, standard}
use Rattle.protocol.proofs.Apart.{body_same, claims_same, marks_apart}
use Rattle.promise.specs.Run.{Log}
use Rattle.promise.proofs.Released.{released}

pub record Laws (v : Variant) : Type 0 where
  -- what is signed determines what it is about, and a signed reply is no signed end
  pub bodies : (x y : Body Term) → v.body x ≡ v.body y → x ≡ y
  pub claims : (a b : Term) → v.claim a ≡ v.claim b → a ≡ b
  pub apart : (x : Body Term) (r : Reply Term) → v.body x ≡ v.claim (reply_term r) → ⊥
  -- what is signed is public if its parts are
  pub body_public : (log : Log) (x : Body Term) → Ok (released v log) (body_term x) → Ok (released v log) (v.body x)
  pub claim_public : (log : Log) (w : Term) → Ok (released v log) w → Ok (released v log) (v.claim w)
  -- halves raised by keys aren't refused
  pub not_refused : (ks : List Key) → Element ks ≡ v.one → ⊥

element_one : (ks : List Key) → Element ks ≡ One → ⊥
element_one ks e = let z : ◌≡◌ {A = ℕ} 0 1 = cc in omega arith

pub standard_laws : Laws standard
standard_laws = record { bodies = body_same; claims = claims_same; apart = λ x r e. marks_apart x (reply_term r) e; body_public = λ log x o. o; claim_public = λ log w o. public.tag o; not_refused = element_one }
