-- Sessions as the log has them: partners, sure ends, and how a secret can come out. Assumes nothing.
use Rattle.std.specs.Prelude.{◌≡◌, ℕ, ◌<◌, Bool, true, false, length, Some}
use Rattle.words.specs.Choice.{choose}
use Rattle.symbolic.specs.Term.{Term}
use Rattle.protocol.specs.Words.{Hello, Reply}
use Rattle.protocol.specs.Side.{Session}
use Rattle.protocol.specs.Step.{new_session}
use Rattle.protocol.specs.Symbols.{symbols}
use Rattle.protocol.specs.Event.{Begun, Answered, Finished, Theft, Told, Event, begun, answered, caller_ended, called_ended, taken, told}
use Rattle.promise.specs.Run.{Log, Past, safe}

abbrev pub hello_of : Reply Term → Hello Term
hello_of r = r.body.hello

-- the end of a session on the caller's side, or on the called side's
abbrev pub ended_by : Bool → Finished Term → Event Term
ended_by true f = caller_ended f
ended_by false f = called_ended f

-- the session that a side holds after such an end
abbrev pub session_of : Bool → Finished Term → Session Term
session_of true f = new_session symbols true (hello_of f.reply).called f.reply f.secret
session_of false f = new_session symbols false (hello_of f.reply).caller f.reply f.secret

-- a called side and a caller went through the same session: the same words, so the same list, choice and nonces, and the same secret
pub record SameSession (a : Answered Term) (c : Finished Term) : Type 0 where
  pub called : a.me ≡ (hello_of c.reply).called
  pub caller : c.me ≡ (hello_of a.reply).caller
  pub reply : a.reply ≡ c.reply
  pub secret : a.secret ≡ c.secret

-- the choice is the best: of what this caller really offered, the first of the called side's preferences, as they were when it answered
pub record Best (c : Finished Term) (a : Answered Term) (before : Log) : Type 0 where
  pub call : Begun Term
  pub calling : Past before (begun call)
  pub caller : call.me ≡ c.me
  pub hello : call.hello ≡ hello_of c.reply
  pub first : choose a.preferences call.hello.offer ≡ Some c.reply.body.choice

-- the partner of a caller's session: the called side answered it before the caller ended
pub record Answerer (c : Finished Term) (before : Log) : Type 0 where
  pub answer : Answered Term
  pub answering : Past before (answered answer)
  pub same : SameSession answer c
  pub best : Best c answer before

-- the partner of a called side's session: the caller ended it before the called side did
pub record Caller (f : Finished Term) (before : Log) : Type 0 where
  pub answer : Answered Term
  pub answering : Past before (answered answer)
  pub own : answer.me ≡ f.me
  pub ended : Finished Term
  pub ending : Past before (caller_ended ended)
  pub reply : ended.reply ≡ f.reply
  pub secret : ended.secret ≡ f.secret
  pub same : SameSession answer ended
  pub best : Best ended answer ending.below

-- a caller's session that one of its two ends ended surely: the caller while the called side's key was safe, or the called side while the caller's was
pub data Sure (log : Log) (c : Finished Term) (p : Past log (caller_ended c)) : Type 0 where
  by_caller : safe c.their p.below ≡ true → Sure log c p
  by_called : (f : Finished Term) (q : Past log (called_ended f)) → safe f.their q.below ≡ true → f.reply ≡ c.reply → Sure log c p

-- one of the two ends gave the secret of this very session away
pub data GivenAway (log : Log) (c : Finished Term) (p : Past log (caller_ended c)) : Type 0 where
  by_caller : (t : Told Term) → Past log (told t) → t.who ≡ c.me → t.place ≡ length p.below → GivenAway log c p
  by_answerer : (t : Told Term) → Past log (told t) → (a : Answered Term) (q : Past log (answered a)) → a.reply ≡ c.reply → t.who ≡ a.me → t.place ≡ length q.below → GivenAway log c p
  by_called : (t : Told Term) → Past log (told t) → (f : Finished Term) (q : Past log (called_ended f)) → f.reply ≡ c.reply → t.who ≡ f.me → t.place ≡ length q.below → GivenAway log c p

-- the caller's private keys were taken while this very call was open: after it began, and before it ended
pub record TakenWhileOpen (c : Finished Term) (before : Log) : Type 0 where
  pub theft : Theft Term
  pub taking : Past before (taken theft)
  pub victim : theft.who ≡ c.me
  pub call : Begun Term
  pub calling : Past taking.below (begun call)
  pub hello : call.hello ≡ hello_of c.reply

-- the only ways in which the secret of a session can come out
pub data Out (log : Log) (c : Finished Term) (p : Past log (caller_ended c)) : Type 0 where
  given_away : GivenAway log c p → Out log c p
  taken_open : TakenWhileOpen c p.below → Out log c p

-- of two ended sessions of a side the first was ended before the second
pub record EndedBefore (log : Log) (me : ℕ) (c d : Session Term) : Type 0 where
  pub first : Finished Term
  pub first_calling : Bool
  pub first_ending : Past log (ended_by first_calling first)
  pub first_mine : first.me ≡ me
  pub first_session : c ≡ session_of first_calling first
  pub second : Finished Term
  pub second_calling : Bool
  pub second_ending : Past log (ended_by second_calling second)
  pub second_mine : second.me ≡ me
  pub second_session : d ≡ session_of second_calling second
  pub before : length first_ending.below < length second_ending.below
