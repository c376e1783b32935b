-- Events are told apart by their kind, and by what they are about. Assumes nothing.
use Rattle.std.proofs.Common.{◌≡◌, ℕ, false, eqb, ap}
use Rattle.std.proofs.lemmas.Bool.{eqb-false}
use Rattle.symbolic.specs.Term.{Term}
use Rattle.protocol.specs.Event.{Begun, Answered, Finished, Event, begun, answered, caller_ended, called_ended, stolen, taken, told, drew, spoke}

abbrev pub kind : Event Term → ℕ
kind (begun b) = 0
kind (answered a) = 1
kind (caller_ended f) = 2
kind (called_ended f) = 3
kind (stolen t) = 4
kind (taken t) = 5
kind (told t) = 6
kind drew = 7
kind (spoke n) = 8

-- events of different kinds are different
pub other_kind : (v w : Event Term) → v ≡ w → eqb (kind v) (kind w) ≡ false → ⊥
other_kind v w e d = eqb-false (kind v) (kind w) d (ap kind e)

pub begun_same : (b c : Begun Term) → begun b ≡ begun c → b ≡ c
begun_same b c e = cc

pub answered_same : (a b : Answered Term) → answered a ≡ answered b → a ≡ b
answered_same a b e = cc

pub caller_same : (c d : Finished Term) → caller_ended c ≡ caller_ended d → c ≡ d
caller_same c d e = cc

pub called_same : (f g : Finished Term) → called_ended f ≡ called_ended g → f ≡ g
called_same f g e = cc
