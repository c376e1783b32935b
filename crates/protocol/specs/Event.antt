-- What happens, each with everything that it is about. A run is a list of these, the newest first. Assumes nothing.
use Rattle.std.specs.Prelude.{ℕ, List, [], ◌∷◌, ◌++◌, Some, None, Option}
use Rattle.protocol.specs.Words.{Hello, Reply}

-- a side calls another
pub record Begun (X : Type 0) : Type 0 where
  pub me : ℕ
  pub their : X
  pub hello : Hello X
  pub secret : X

-- a side answers a hello, by the preferences that it has then
pub record Answered (X : Type 0) : Type 0 where
  pub me : ℕ
  pub their : X
  pub preferences : List ℕ
  pub reply : Reply X
  pub secret : X

-- a side ends a session: their is the half that verified the other's signature
pub record Finished (X : Type 0) : Type 0 where
  pub me : ℕ
  pub their : X
  pub reply : Reply X
  pub secret : X

-- keys are stolen: whose, and the half of the identity key that was among them
pub record Theft (X : Type 0) : Type 0 where
  pub who : ℕ
  pub key : X

-- a side gives a session secret away: who does, and of which session, by the number of things that had happened before it
pub record Told (X : Type 0) : Type 0 where
  pub who : ℕ
  pub place : ℕ
  pub secret : X

-- stolen: an identity key; taken: the private keys that a side holds; drew: the network draws a value and a key of its own
-- spoke: a side says something that belongs to no session, which no side does that keeps to the rules
pub data Event (X : Type 0) : Type 0 where
  begun : Begun X → Event X
  answered : Answered X → Event X
  caller_ended : Finished X → Event X
  called_ended : Finished X → Event X
  stolen : Theft X → Event X
  taken : Theft X → Event X
  told : Told X → Event X
  drew : Event X
  spoke : ℕ → Event X

-- an event with what the network hears of it
pub record Entry (X : Type 0) : Type 0 where
  pub what : Event X
  pub words : List X

-- all that the network has heard
unfoldable pub heard : {X : Type 0} → List (Entry X) → List X
heard [] = []
heard (e ∷ log) = e.words ++ heard log

-- the side and the secret of a session
pub record Held (X : Type 0) : Type 0 where
  pub who : ℕ
  pub secret : X

-- which side has come to hold which session secret by an event
unfoldable pub held : {X : Type 0} → Event X → Option (Held X)
held (begun b) = None
held (answered a) = Some (record { who = a.me; secret = a.secret })
held (caller_ended f) = Some (record { who = f.me; secret = f.secret })
held (called_ended f) = Some (record { who = f.me; secret = f.secret })
held (stolen t) = None
held (taken t) = None
held (told t) = None
held drew = None
held (spoke n) = None
