-- What a command of a script does to its sides, and what a call comes to. Assumes nothing.
use Rattle.std.specs.Prelude.{ℕ, List, map, Some, None, Ok, Err, Option, Result, slice_index_or, slice_set}
use Rattle.std.specs.Option.{option_map}
use Rattle.words.specs.declared.cipher.Cipher.{Cipher}
use Rattle.words.specs.declared.fault.Fault.{Fault}
use Rattle.words.specs.declared.fault.Fault.TheVariants.{UnknownSide, NothingInCommon}
use Rattle.words.specs.Choice.{choose}
use Rattle.words.specs.Listed.{listed}
use Rattle.script.specs.declared.sides.Sides.{Sides}
use Rattle.script.specs.declared.played.Played.{Played}
use Rattle.script.specs.Lines.{Line, nothing, wishes, calls}

-- by number, the preferences of each side that is there
abbrev pub Roster : Type 0
Roster = List (Option (List ℕ))

abbrev pub roster : Sides → Roster
roster s = map (option_map listed) s.slots

-- the side with a number must be there
abbrev pub there : {X : Type 0} → Option (List ℕ) → (List ℕ → Result X Fault) → Result X Fault
there None k = Err UnknownSide
there (Some p) k = k p

-- a choice that must be made
abbrev pub made : Option ℕ → Result ℕ Fault
made None = Err NothingInCommon
made (Some c) = Ok c

-- what the called side answers: the first of its preferences that the caller, who offers all of its own, has too
abbrev pub answer : Roster → ℕ → ℕ → Result ℕ Fault
answer sides a b = there (slice_index_or sides a None) (λ offer. there (slice_index_or sides b None) (λ preferred. made (choose preferred offer)))

abbrev pub chosen : Result Cipher Fault → Result ℕ Fault
chosen (Ok c) = Ok c.number
chosen (Err f) = Err f

-- what a command shows
pub data Outcome : Type 0 where
  silence : Outcome
  chooses : ℕ → ℕ → ℕ → Outcome
  refuses : ℕ → ℕ → Fault → Outcome

abbrev pub call_outcome : ℕ → ℕ → Result ℕ Fault → Outcome
call_outcome a b (Ok c) = chooses a b c
call_outcome a b (Err f) = refuses a b f

-- a call as what it shows
abbrev pub told : Option Played → Outcome
told None = silence
told (Some p) = call_outcome p.call.caller.number p.call.called.number (chosen p.answer)

abbrev pub outcome : Roster → Line → Outcome
outcome sides nothing = silence
outcome sides (wishes n cs) = silence
outcome sides (calls a b) = call_outcome a b (answer sides a b)

-- the sides after a command
abbrev pub after : Roster → Line → Roster
after sides nothing = sides
after sides (wishes n cs) = slice_set sides n (Some cs)
after sides (calls a b) = sides
