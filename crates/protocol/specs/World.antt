-- Sides, and a network that does what it likes with their words. Assumes nothing.
use Rattle.std.specs.Prelude.{ℕ, cond, List, [], ◌∷◌, ◌++◌, length, Some, None, Option, ◌==◌}
use Rattle.protocol.specs.Lists.{nth, put}
use Rattle.protocol.specs.Got.{Got, No, Yes, bind}
use Rattle.protocol.specs.Words.{Hello, Reply, Word, a_hello, a_reply, an_end}
use Rattle.protocol.specs.Algebra.{Algebra}
use Rattle.protocol.specs.Side.{Side, private_keys}
use Rattle.protocol.specs.Event.{Theft, Held, held, Event, stolen, taken, told, drew, Entry}
use Rattle.protocol.specs.Step.{Draws, Reaction, did, call, take_hello, take_reply, take_end, refuse}

-- how sides act; another way of acting gives another world of the same kind
pub record Handlers (X : Type 0) : Type 0 where
  pub on_call : Side X → ℕ → Draws X → Got (Reaction X)
  pub on_hello : Side X → Hello X → Draws X → Got (Reaction X)
  pub on_reply : Side X → Reply X → Got (Reaction X)
  pub on_end : Side X → X → Got (Reaction X)
  pub on_refusal : Side X → ℕ → Reaction X

-- sides that keep to the rules
abbrev pub rules : (A : Algebra) → Handlers A.Atom
rules A = record { on_call = call A; on_hello = take_hello A; on_reply = take_reply A; on_end = take_end A; on_refusal = refuse A }

-- sides: all sides, by number; log: all that happened, the newest first
pub record World (X : Type 0) : Type 0 where
  pub sides : List (Side X)
  pub log : List (Entry X)

-- Call a b: the side a is told to call b; Deliver b t: t is delivered to the side b; Steal a: the identity key of a is stolen
-- Take a: the private keys that a holds are taken; Reveal n: the secret of the session at place n of the log is given away by its side
-- Draw: the network draws a value and a key
pub data Command (X : Type 0) : Type 0 where
  Call : ℕ → ℕ → Command X
  Deliver : ℕ → X → Command X
  Steal : ℕ → Command X
  Take : ℕ → Command X
  Reveal : ℕ → Command X
  Draw : Command X

-- a word goes to the handler of its kind
unfoldable pub handle : {X : Type 0} → Handlers X → Side X → Draws X → Word X → Got (Reaction X)
handle h s d (a_hello w) = h.on_hello s w d
handle h s d (a_reply w) = h.on_reply s w
handle h s d (an_end x) = h.on_end s x

-- a refused word is for the handler of refusals
unfoldable pub settled : {X : Type 0} → Handlers X → Side X → Got (Reaction X) → Reaction X
settled h s (No n) = h.on_refusal s n
settled h s (Yes r) = r

-- a refused order changes nothing
unfoldable pub ordered : {X : Type 0} → Side X → Got (Reaction X) → Reaction X
ordered s (No n) = record { side = s; entries = [] }
ordered s (Yes r) = r

-- the world after a side acted; nothing happens where there is no such side
unfoldable pub acted : {X : Type 0} → World X → ℕ → Option (Side X) → (Side X → Reaction X) → World X
acted w a None f = w
acted w a (Some s) f = let r = f s in record { sides = put w.sides a r.side; log = r.entries ++ w.log }

-- the entry before which n things had happened
unfoldable pub entry_at : {X : Type 0} → List (Entry X) → ℕ → Option (Entry X)
entry_at [] n = None
entry_at (e ∷ log) n = cond (length log == n) (Some e) (entry_at log n)

-- the session secret of an event is given away by its side
unfoldable pub told_by : {X : Type 0} → ℕ → Option (Held X) → List (Entry X)
told_by n None = []
told_by n (Some k) = record { what = told (record { who = k.who; place = n; secret = k.secret }); words = k.secret ∷ [] } ∷ []

unfoldable pub revealed : {X : Type 0} → ℕ → Option (Entry X) → List (Entry X)
revealed n None = []
revealed n (Some e) = told_by n (held e.what)

-- the private keys of a side: what is taken, and under what name
abbrev pub robbed : (A : Algebra) → (Theft A.Atom → Event A.Atom) → (Side A.Atom → List A.Atom) → Side A.Atom → Reaction A.Atom
robbed A kind keys s = did s (kind (record { who = s.me; key = A.public s.own })) (keys s)

-- the world after a command; drawn t: what can be drawn once t things have happened
unfoldable pub play : (A : Algebra) → Handlers A.Atom → (ℕ → Draws A.Atom) → World A.Atom → Command A.Atom → World A.Atom
play A h drawn w (Call a b) = acted w a (nth w.sides a) (λ s. ordered s (h.on_call s b (drawn (length w.log))))
play A h drawn w (Deliver a t) = acted w a (nth w.sides a) (λ s. settled h s (bind (A.read t) (handle h s (drawn (length w.log)))))
play A h drawn w (Steal a) = acted w a (nth w.sides a) (robbed A stolen (λ s. s.own ∷ []))
play A h drawn w (Take a) = acted w a (nth w.sides a) (robbed A taken private_keys)
play A h drawn w (Reveal n) = record { sides = w.sides; log = revealed n (entry_at w.log n) ++ w.log }
play A h drawn w Draw = let d = drawn (length w.log) in record { sides = w.sides; log = record { what = drew; words = d.value 0 ∷ d.key 0 ∷ [] } ∷ w.log }

-- one command after the other
unfoldable pub plays : (A : Algebra) → Handlers A.Atom → (ℕ → Draws A.Atom) → World A.Atom → List (Command A.Atom) → World A.Atom
plays A h drawn w [] = w
plays A h drawn w (c ∷ cs) = plays A h drawn (play A h drawn w c) cs
