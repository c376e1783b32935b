-- Runs: what had happened before what, which worlds the network can reach, and whose keys are safe then. Assumes nothing.
use Rattle.std.specs.Prelude.{◌≡◌, ℕ, Bool, true, false, not, ◌&&◌, List, [], ◌∷◌}
use Rattle.words.specs.Choice.{proper}
use Rattle.symbolic.specs.Term.{Term, same}
use Rattle.symbolic.specs.Derivable.{Gets}
use Rattle.protocol.specs.Event.{Event, begun, answered, caller_ended, called_ended, stolen, taken, told, drew, spoke, Entry, heard}
use Rattle.protocol.specs.World.{Handlers, World, Command, Call, Deliver, Steal, Take, Reveal, Draw, play}
use Rattle.protocol.specs.Symbols.{symbols, fresh, start}

abbrev pub Log : Type 0
Log = List (Entry Term)

-- x stands in a list, and xs is what stands behind it; in a log that is what had happened before it
pub data At {X : Type 0} (x : X) (xs : List X) : List X → Type 0 where
  here : {y : X} {ys : List X} → x ≡ y → xs ≡ ys → At x xs (y ∷ ys)
  there : {y : X} {ys : List X} → At x xs ys → At x xs (y ∷ ys)

-- something has happened: its entry, and what had happened before it
pub record Past (log : Log) (what : Event Term) : Type 0 where
  pub entry : Entry Term
  pub below : Log
  pub place : At entry below log
  pub is : entry.what ≡ what

-- the network delivers only what it can derive from what it heard; everything else it may do at any time
unfoldable pub Allowed : World Term → Command Term → Type 0
Allowed w (Call a b) = Unit {0}
Allowed w (Deliver a t) = Gets (heard w.log) t
Allowed w (Steal a) = Unit {0}
Allowed w (Take a) = Unit {0}
Allowed w (Reveal n) = Unit {0}
Allowed w Draw = Unit {0}

-- every list of preferences is proper
unfoldable pub all_proper : List (List ℕ) → Bool
all_proper [] = true
all_proper (p ∷ ps) = proper p && all_proper ps

-- the worlds that can be reached, with sides that act by h and have these preferences
pub data Reach (h : Handlers Term) (preferences : List (List ℕ)) : World Term → Type 0 where
  begin : {w : World Term} → all_proper preferences ≡ true → start preferences ≡ w → Reach h preferences w
  more : {v w : World Term} → Reach h preferences v → (c : Command Term) → Allowed v c → play symbols h fresh v c ≡ w → Reach h preferences w

-- whether an event makes the secret half of a key known
unfoldable pub robs : Term → Event Term → Bool
robs k (begun b) = false
robs k (answered a) = false
robs k (caller_ended f) = false
robs k (called_ended f) = false
robs k (stolen t) = same t.key k
robs k (taken t) = same t.key k
robs k (told t) = false
robs k drew = false
robs k (spoke n) = false

-- whether an event is the taking of a side's private keys
unfoldable pub takes : Event Term → Bool
takes (begun b) = false
takes (answered a) = false
takes (caller_ended f) = false
takes (called_ended f) = false
takes (stolen t) = false
takes (taken t) = true
takes (told t) = false
takes drew = false
takes (spoke n) = false

-- whether nothing of a kind has happened
unfoldable pub never : (Event Term → Bool) → Log → Bool
never p [] = true
never p (e ∷ log) = not (p e.what) && never p log

-- whether the identity key with this public half is not stolen
abbrev pub safe : Term → Log → Bool
safe k log = never (robs k) log

-- whether nobody's private keys were taken: what was stolen are identity keys alone
abbrev pub untaken : Log → Bool
untaken log = never takes log
