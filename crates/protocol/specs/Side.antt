-- What a side holds. Assumes nothing.
use Rattle.std.specs.Prelude.{ℕ, suc, ◌-◌, ◌^◌, min, Bool, List, ◌∷◌, map, slice_index, slice_set}
use Rattle.protocol.specs.Words.{Hello, Reply}

-- a call that is open: its hello, the secret of its ephemeral key, and the half that the called side signs with
pub record Call (X : Type 0) : Type 0 where
  pub hello : Hello X
  pub secret : X
  pub their : X

-- a session that was answered and isn't ended: the reply, the session secret, and the half that the caller signs with
pub record Answer (X : Type 0) : Type 0 where
  pub reply : Reply X
  pub secret : X
  pub their : X

-- one way of an ended session: its key, and the number of the next record
pub record Way (X : Type 0) : Type 0 where
  pub key : X
  pub next : ℕ

-- an ended session holds neither the session secret nor an ephemeral key
pub record Session (X : Type 0) : Type 0 where
  pub peer : ℕ
  pub calling : Bool
  pub choice : ℕ
  pub digest : X
  pub sends : Way X
  pub takes : Way X

-- keys: the public halves of all sides, by number; own: this side's identity key; counts: how often each number was refused
-- The tables have the oldest first.
pub record Side (X : Type 0) : Type 0 where
  pub me : ℕ
  pub own : X
  pub keys : List X
  pub preferences : List ℕ
  pub calls : List (Call X)
  pub answers : List (Answer X)
  pub ended : List (Session X)
  pub counts : List ℕ

abbrev pub most_calls : ℕ
most_calls = 64

abbrev pub most_answers : ℕ
most_answers = 1024

abbrev pub most_ended : ℕ
most_ended = 1024

-- a count stays at its largest value
abbrev pub most_counted : ℕ
most_counted = 2 ^ 64 - 1

abbrev pub with_calls : {X : Type 0} → Side X → List (Call X) → Side X
with_calls s calls = record { me = s.me; own = s.own; keys = s.keys; preferences = s.preferences; calls = calls; answers = s.answers; ended = s.ended; counts = s.counts }

abbrev pub with_answers : {X : Type 0} → Side X → List (Answer X) → Side X
with_answers s answers = record { me = s.me; own = s.own; keys = s.keys; preferences = s.preferences; calls = s.calls; answers = answers; ended = s.ended; counts = s.counts }

abbrev pub with_ended : {X : Type 0} → Side X → List (Session X) → Side X
with_ended s ended = record { me = s.me; own = s.own; keys = s.keys; preferences = s.preferences; calls = s.calls; answers = s.answers; ended = ended; counts = s.counts }

-- one refusal more
abbrev pub counted : {X : Type 0} → Side X → ℕ → Side X
counted s n = record { me = s.me; own = s.own; keys = s.keys; preferences = s.preferences; calls = s.calls; answers = s.answers; ended = s.ended; counts = slice_set s.counts n (min most_counted (suc (slice_index s.counts n))) }

-- the private keys that a side holds: its identity key, and the ephemeral keys of the calls that it has open
abbrev pub private_keys : {X : Type 0} → Side X → List X
private_keys s = s.own ∷ map (λ (c : Call _). c.secret) s.calls
