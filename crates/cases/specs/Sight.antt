-- What a person who watches all sides sees of a world: what happened, and what was refused. Assumes nothing.
use Rattle.std.specs.Prelude.{ℕ, Bool, List, [], ◌∷◌, map}
use Rattle.symbolic.specs.Term.{Term}
use Rattle.protocol.specs.Side.{Side}
use Rattle.protocol.specs.Event.{Event, begun, answered, caller_ended, called_ended, stolen, taken, told, drew, spoke}
use Rattle.protocol.specs.World.{World}
use Rattle.promise.specs.Run.{Log, safe}

-- Calls a b: a calls b; Answers b a c: b answers a and chooses c
-- Ends a b c sure: the caller a ends its session with b, with the choice c, surely or not; Ended b a c sure: the called side b does
-- Robbed a: an identity key, or a side's private keys, were stolen; Told a: a gave a secret away; Drawn: the network drew; Spoken: what no side does
pub data Sight : Type 0 where
  Calls : ℕ → ℕ → Sight
  Answers : ℕ → ℕ → ℕ → Sight
  Ends : ℕ → ℕ → ℕ → Bool → Sight
  Ended : ℕ → ℕ → ℕ → Bool → Sight
  Robbed : ℕ → Sight
  Tells : ℕ → Sight
  Draws : Sight
  Speaks : Sight

unfoldable pub sight : Event Term → Log → Sight
sight (begun b) log = Calls b.me b.hello.called
sight (answered a) log = Answers a.me a.reply.body.hello.caller a.reply.body.choice
sight (caller_ended c) log = Ends c.me c.reply.body.hello.called c.reply.body.choice (safe c.their log)
sight (called_ended f) log = Ended f.me f.reply.body.hello.caller f.reply.body.choice (safe f.their log)
sight (stolen t) log = Robbed t.who
sight (taken t) log = Robbed t.who
sight (told t) log = Tells t.who
sight drew log = Draws
sight (spoke n) log = Speaks

-- all that happened, the newest first
unfoldable pub sights : Log → List Sight
sights [] = []
sights (e ∷ log) = sight e.what log ∷ sights log

-- how often each side refused by each number
abbrev pub refusals : World Term → List (List ℕ)
refusals w = map (λ (s : Side Term). s.counts) w.sides
