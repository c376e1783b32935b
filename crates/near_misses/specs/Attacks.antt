-- What breaks without each rule: a weakened side, what the network does, and which part of the promise is then false. Assumes nothing.
use Rattle.std.specs.Prelude.{◌≡◌, ℕ, true, List, [], ◌∷◌}
use Rattle.symbolic.specs.Term.{Term}
use Rattle.symbolic.specs.Derivable.{Gets}
use Rattle.protocol.specs.Event.{heard}
use Rattle.protocol.specs.World.{Handlers, rules, World, Command, Deliver, play, plays}
use Rattle.protocol.specs.Symbols.{symbols, fresh, start, hello_term}
use Rattle.promise.specs.Run.{all_proper, Reach}
use Rattle.promise.specs.Promise.{CallerHasPartner, CalledHasPartner, SecretKept, RefusalIsSilent, UndisturbedEnds, AllAllowed}
use Rattle.cases.specs.Sight.{Sight, Calls, Answers, Ends, Ended, Robbed, Draws, sights}
use Rattle.cases.specs.Table.{opposite}
use Rattle.near_misses.specs.Weak.{own_parts, unsigned_hello, uncompared, keeps_key, believes_hellos, unsigned_seal, one_key, offer_first, answers_faults, never_ends, bare_ends}
use Rattle.near_misses.specs.Scripts.{own_parts_script, unsigned_hello_script, three_sides, uncompared_script, keeps_key_script, believes_hellos_script, unsigned_seal_script, one_key_script, offer_first_script, prying_hello, prefers_one, prefers_two, bare_ends_script}

-- the world after a script, with sides that act by h
abbrev pub world_after : Handlers Term → List (List ℕ) → List (Command Term) → World Term
world_after h preferences script = plays symbols h fresh (start preferences) script

-- sides that act by h can be brought by this script, which the network can play, into a world that is seen so, and in which P is false
pub record Breaks (h : Handlers Term) (preferences : List (List ℕ)) (script : List (Command Term)) (seen : List Sight) (P : World Term → Type 0) : Type 0 where
  pub proper : all_proper preferences ≡ true
  pub allowed : AllAllowed h (start preferences) script
  pub sees : sights (world_after h preferences script).log ≡ seen
  pub broken : P (world_after h preferences script) → ⊥

-- 1. Each side signs only its own part: a cipher is struck from the list, and both end with the other, surely.
abbrev pub OwnPartsBreak : Type 0
OwnPartsBreak = Breaks own_parts opposite own_parts_script (Ended 1 0 1 true ∷ Ends 0 1 1 true ∷ Answers 1 0 1 ∷ Calls 0 1 ∷ []) CallerHasPartner

-- 2. The reply is signed without the hello: the caller ends surely a session that the called side has with somebody else.
abbrev pub UnsignedHelloBreaks : Type 0
UnsignedHelloBreaks = Breaks unsigned_hello three_sides unsigned_hello_script (Ends 0 1 2 true ∷ Answers 1 2 2 ∷ Calls 0 1 ∷ []) CallerHasPartner

-- 3. The hello in the reply isn't compared: the caller ends surely with a list that it never offered.
abbrev pub UncomparedBreaks : Type 0
UncomparedBreaks = Breaks uncompared opposite uncompared_script (Ends 0 1 1 true ∷ Answers 1 0 1 ∷ Calls 0 1 ∷ []) CallerHasPartner

-- 4. The ephemeral key is kept: private keys that are taken later give the secret of a session that was ended before.
abbrev pub KeepingKeysBreaks : Type 0
KeepingKeysBreaks = Breaks keeps_key opposite keeps_key_script (Robbed 0 ∷ Ended 1 0 2 true ∷ Ends 0 1 2 true ∷ Answers 1 0 2 ∷ Calls 0 1 ∷ []) SecretKept

-- 5. The caller is believed at the hello: the called side ends surely with somebody who never called.
abbrev pub BelievingHellosBreaks : Type 0
BelievingHellosBreaks = Breaks believes_hellos opposite believes_hellos_script (Ended 1 0 1 true ∷ Answers 1 0 1 ∷ Draws ∷ []) CalledHasPartner

-- 6. The signature doesn't cover the sealed secret: the caller ends surely with a secret of the network's.
abbrev pub UnsignedSealBreaks : Type 0
UnsignedSealBreaks = Breaks unsigned_seal opposite unsigned_seal_script (Ends 0 1 2 true ∷ Draws ∷ Answers 1 0 2 ∷ Calls 0 1 ∷ []) SecretKept

-- 7. One ephemeral key for two calls: private keys taken during the second give the secret of the first, which was ended.
abbrev pub OneKeyBreaks : Type 0
OneKeyBreaks = Breaks one_key opposite one_key_script (Robbed 0 ∷ Ends 0 1 2 true ∷ Answers 1 0 2 ∷ Calls 0 1 ∷ Calls 0 1 ∷ []) SecretKept

-- 8. The choice by the offer's order: it isn't the best by the called side's preferences.
abbrev pub OfferFirstBreaks : Type 0
OfferFirstBreaks = Breaks offer_first opposite offer_first_script (Ended 1 0 1 true ∷ Ends 0 1 1 true ∷ Answers 1 0 1 ∷ Calls 0 1 ∷ []) CallerHasPartner

-- the world after the prying hello, which anybody can make
abbrev pub pried : Handlers Term → List (List ℕ) → World Term
pried h preferences = play symbols h fresh (start preferences) (Deliver 1 (hello_term prying_hello))

-- 9. Faults answered in words: two worlds that the network can't tell apart. By the rules it can't after the hello either; by the answer it can, and knows which cipher the side prefers.
pub record AnsweredFaultsTell : Type 0 where
  pub derivable : Gets (heard (start prefers_one).log) (hello_term prying_hello)
  pub alike_before : heard (start prefers_one).log ≡ heard (start prefers_two).log
  pub alike_by_the_rules : heard (pried (rules symbols) prefers_one).log ≡ heard (pried (rules symbols) prefers_two).log
  pub told_apart : heard (pried answers_faults prefers_one).log ≡ heard (pried answers_faults prefers_two).log → ⊥
  pub not_silent : RefusalIsSilent answers_faults (start prefers_one) → ⊥

-- 10. A side that never ends anything keeps what is promised of sure sessions, and an undisturbed session doesn't end.
pub record NeverEndingIsNotEnough : Type 0 where
  pub keeps_callers : (preferences : List (List ℕ)) (w : World Term) → Reach never_ends preferences w → CallerHasPartner w
  pub keeps_called : (preferences : List (List ℕ)) (w : World Term) → Reach never_ends preferences w → CalledHasPartner w
  pub keeps_secrets : (preferences : List (List ℕ)) (w : World Term) → Reach never_ends preferences w → SecretKept w
  pub never_done : UndisturbedEnds never_ends (start opposite) → ⊥

-- 11. An end that holds only what was signed of the reply, and no marks: a side's own signature comes back to it as the caller's, and it ends surely with itself.
abbrev pub BareEndsBreak : Type 0
BareEndsBreak = Breaks bare_ends opposite bare_ends_script (Ended 1 1 1 true ∷ Answers 1 1 1 ∷ Draws ∷ []) CalledHasPartner
