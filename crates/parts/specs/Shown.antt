-- What an answer has to do with what is wanted to be shown. Assumes nothing.
use Rattle.std.specs.Prelude.{◌≡◌, ℕ, List, Ok, Err, Result}
use Rattle.words.specs.declared.fault.Fault.{Fault}
use Rattle.parts.specs.declared.failure.NotShown.{NotShown}
use Rattle.parts.specs.declared.failure.NotShown.TheVariants.{Faulty, NoMemory}

-- the text that is wanted, or the fault that is; nothing is said where memory is wanting
abbrev pub IsShown : Result (List ℕ) Fault → Result (List ℕ) NotShown → Type 0
IsShown wanted (Ok text) = Ok text ≡ wanted
IsShown wanted (Err (Faulty fault)) = Err fault ≡ wanted
IsShown wanted (Err (NoMemory error)) = Unit {0}
