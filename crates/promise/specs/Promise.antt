-- What is promised of every world that the network can reach. Each statement is of a world; `Always` says it of all. Assumes nothing.
use Rattle.std.specs.Prelude.{◌≡◌, ℕ, ◌<◌, ◌≤◌, true, ◌⊎◌, List, [], ◌∷◌, ◌++◌, length, drop, Some}
use mathlib.Core.List.{Memᴰ}
use Rattle.words.specs.Choice.{holds, choose}
use Rattle.symbolic.specs.Key.{own}
use Rattle.symbolic.specs.Term.{Term, Raw, Public}
use Rattle.symbolic.specs.Derivable.{Gets}
use Rattle.protocol.specs.Lists.{nth, put, kept}
use Rattle.protocol.specs.Got.{No, bind}
use Rattle.protocol.specs.Side.{Call, Answer, Session, Side, most_calls, most_answers, most_ended, counted}
use Rattle.protocol.specs.Event.{Begun, Answered, Finished, held, Event, begun, answered, caller_ended, called_ended, Entry, heard}
use Rattle.protocol.specs.World as world
use Rattle.protocol.specs.World.{Handlers, rules, World, Command, handle, play, plays}
use Rattle.protocol.specs.Symbols.{symbols, fresh, start}
use Rattle.promise.specs.Run.{Log, At, Past, Allowed, all_proper, Reach, safe, untaken}
use Rattle.promise.specs.Session.{hello_of, EndedBefore, SameSession, Answerer, Caller, Sure, GivenAway, Out}

-- the identity key of a side, by its public half
abbrev pub identity : ℕ → Term
identity n = Public (own n 0)

-- The key that verified the other's signature is the identity key of the side that the session is with.
pub record RightKeys (w : World Term) : Type 0 where
  pub of_called : (c : Finished Term) → Past w.log (caller_ended c) → c.their ≡ identity (hello_of c.reply).called
  pub of_caller : (f : Finished Term) → Past w.log (called_ended f) → f.their ≡ identity (hello_of f.reply).caller

-- A caller that ends while the called side's identity key is safe has a partner: the called side answered this very session, and chose the best of what was really offered.
abbrev pub CallerHasPartner : World Term → Type 0
CallerHasPartner w = (c : Finished Term) (p : Past w.log (caller_ended c)) → safe c.their p.below ≡ true → Answerer c p.below

-- A called side that ends while the caller's identity key is safe has a partner: the caller ended this very session, and the choice is the best of what was really offered.
abbrev pub CalledHasPartner : World Term → Type 0
CalledHasPartner w = (f : Finished Term) (p : Past w.log (called_ended f)) → safe f.their p.below ≡ true → Caller f p.below

-- Two things are one if as much had happened before them.
abbrev pub One : {log : Log} {v w : Event Term} → Past log v → Past log w → Type 0
One p q = p.below ≡ q.below

-- One each, with no exception: secrets, partners and ends.
pub record OneEach (w : World Term) : Type 0 where
  -- no two answered sessions have the same secret
  pub answers : (a b : Answered Term) (p : Past w.log (answered a)) (q : Past w.log (answered b)) → a.secret ≡ b.secret → One p q
  -- no two callers' sessions that both end surely have the same secret
  pub callers : (c d : Finished Term) (p : Past w.log (caller_ended c)) (q : Past w.log (caller_ended d)) → safe c.their p.below ≡ true → safe d.their q.below ≡ true → c.secret ≡ d.secret → One p q
  -- no two callers' sessions have the same partner
  pub one_caller : (a : Answered Term) → Past w.log (answered a) → (c d : Finished Term) (p : Past w.log (caller_ended c)) (q : Past w.log (caller_ended d)) → SameSession a c → SameSession a d → One p q
  -- no two answered sessions have the same partner
  pub one_answer : (c : Finished Term) → Past w.log (caller_ended c) → (a b : Answered Term) (p : Past w.log (answered a)) (q : Past w.log (answered b)) → SameSession a c → SameSession b c → One p q
  -- a session ends at most once on the caller's side
  pub caller_once : (c d : Finished Term) (p : Past w.log (caller_ended c)) (q : Past w.log (caller_ended d)) → hello_of c.reply ≡ hello_of d.reply → One p q
  -- and at most once on the called side's
  pub called_once : (f g : Finished Term) (p : Past w.log (called_ended f)) (q : Past w.log (called_ended g)) → f.reply ≡ g.reply → One p q

-- What a caller ends with follows from its hello and the reply's body, which holds that hello: the same body, the same secret.
abbrev pub EndsByItsWords : World Term → Type 0
EndsByItsWords w = (c d : Finished Term) → Past w.log (caller_ended c) → Past w.log (caller_ended d) → c.reply.body ≡ d.reply.body → c.secret ≡ d.secret

-- A session that one of its ends ended surely shares its secret with no other caller's session at all, sure or not, unless the secret came out.
abbrev pub Unshared : World Term → Type 0
Unshared w = (c : Finished Term) (p : Past w.log (caller_ended c)) → Sure w.log c p → (d : Finished Term) (q : Past w.log (caller_ended d)) → d.secret ≡ c.secret → One p q ⊎ Out w.log c p

-- The secret of a session that its caller ended surely, or its called side, is never derived, whatever is stolen afterwards, unless it came out.
abbrev pub SecretKept : World Term → Type 0
SecretKept w = (c : Finished Term) (p : Past w.log (caller_ended c)) → Sure w.log c p → Gets (heard w.log) c.secret → Out w.log c p

-- The same of a called side's session that it ended surely: the way out is that of its partner.
pub record PartnerOut (w : World Term) (f : Finished Term) : Type 0 where
  pub caller : Finished Term
  pub ending : Past w.log (caller_ended caller)
  pub reply : caller.reply ≡ f.reply
  pub out : Out w.log caller ending

abbrev pub CalledSecretKept : World Term → Type 0
CalledSecretKept w = (f : Finished Term) (p : Past w.log (called_ended f)) → safe f.their p.below ≡ true → Gets (heard w.log) f.secret → PartnerOut w f

-- Where identity keys alone are stolen, a secret comes out only if one of the two ends gives it away.
pub record OnlyGivenAway (w : World Term) : Type 0 where
  pub kept : untaken w.log ≡ true → (c : Finished Term) (p : Past w.log (caller_ended c)) → Sure w.log c p → Gets (heard w.log) c.secret → GivenAway w.log c p
  pub unshared : untaken w.log ≡ true → (c : Finished Term) (p : Past w.log (caller_ended c)) → Sure w.log c p → (d : Finished Term) (q : Past w.log (caller_ended d)) → d.secret ≡ c.secret → One p q ⊎ GivenAway w.log c p

-- Everybody else, honest third sides too, never has it: who derives it is nobody, and who holds it is one of the two.
pub record NobodyElse (w : World Term) (c : Finished Term) : Type 0 where
  pub underivable : Gets (heard w.log) c.secret → ⊥
  pub holders : (e : Event Term) → Past w.log e → (who : ℕ) → held e ≡ Some (record { who = who; secret = c.secret }) → (who ≡ (hello_of c.reply).caller) ⊎ (who ≡ (hello_of c.reply).called)

abbrev pub NobodyElseHasIt : World Term → Type 0
NobodyElseHasIt w = untaken w.log ≡ true → (c : Finished Term) (p : Past w.log (caller_ended c)) → Sure w.log c p → (GivenAway w.log c p → ⊥) → NobodyElse w c

-- The choice that a caller ends with was offered by it, sure or not.
pub record Offered (c : Finished Term) (before : Log) : Type 0 where
  pub call : Begun Term
  pub calling : Past before (begun call)
  pub caller : call.me ≡ c.me
  pub hello : call.hello ≡ hello_of c.reply
  pub offered : holds call.hello.offer c.reply.body.choice ≡ true

abbrev pub ChoiceOffered : World Term → Type 0
ChoiceOffered w = (c : Finished Term) (p : Past w.log (caller_ended c)) → Offered c p.below

-- A refused word changes nothing but its count, and adds nothing to what was heard.
pub record Unheard (w v : World Term) (a : ℕ) (s : Side Term) (n : ℕ) : Type 0 where
  pub log : v.log ≡ w.log
  pub heard_same : heard v.log ≡ heard w.log
  pub sides : v.sides ≡ put w.sides a (counted s n)

abbrev pub RefusalIsSilent : Handlers Term → World Term → Type 0
RefusalIsSilent h w = (a : ℕ) (s : Side Term) (t : Term) (n : ℕ) → nth w.sides a ≡ Some s → bind (symbols.read t) (handle h s (fresh (length w.log))) ≡ No n → Unheard w (play symbols h fresh w (world.Deliver a t)) a s n

-- The tables never hold more than 64, 1,024 and 1,024.
pub record Bounded (s : Side Term) : Type 0 where
  pub calls : length s.calls ≤ most_calls
  pub answers : length s.answers ≤ most_answers
  pub ended : length s.ended ≤ most_ended

-- The tables are in the order of time: what stands behind another began, was answered or ended after it.
pub record InOrder (log : Log) (s : Side Term) : Type 0 where
  pub calls : (c d : Call Term) (rest : List (Call Term)) → At c rest s.calls → Memᴰ d rest → (x y : Begun Term) (p : Past log (begun x)) (q : Past log (begun y)) → x.hello ≡ c.hello → y.hello ≡ d.hello → length p.below < length q.below
  pub answers : (c d : Answer Term) (rest : List (Answer Term)) → At c rest s.answers → Memᴰ d rest → (x y : Answered Term) (p : Past log (answered x)) (q : Past log (answered y)) → x.reply ≡ c.reply → y.reply ≡ d.reply → length p.below < length q.below
  pub ended : (c d : Session Term) (rest : List (Session Term)) → At c rest s.ended → Memᴰ d rest → EndedBefore log s.me c d

-- What goes for a new one is the first, where the table is full.
pub record OldestGoes (X : Type 0) (n : ℕ) : Type 0 where
  pub room : (xs : List X) (x : X) → length xs < n → kept n xs x ≡ xs ++ x ∷ []
  pub full : (xs : List X) (x : X) → length xs ≡ n → kept n xs x ≡ drop 1 (xs ++ x ∷ [])

pub record TablesHoldTheNewest (w : World Term) : Type 0 where
  pub bounded : (n : ℕ) (s : Side Term) → nth w.sides n ≡ Some s → Bounded s
  pub in_order : (n : ℕ) (s : Side Term) → nth w.sides n ≡ Some s → InOrder w.log s
  pub calls : OldestGoes (Call Term) most_calls
  pub answers : OldestGoes (Answer Term) most_answers
  pub ended : OldestGoes (Session Term) most_ended

-- the word that was heard last
unfoldable pub last_heard : List Term → Term
last_heard [] = Raw 0
last_heard (t ∷ ts) = t

-- the network delivers to a side the word that it heard last
abbrev pub passed_on : Handlers Term → World Term → ℕ → World Term
passed_on h w a = play symbols h fresh w (world.Deliver a (last_heard (heard w.log)))

-- a side calls another, and the network does nothing but deliver
abbrev pub undisturbed : Handlers Term → World Term → ℕ → ℕ → World Term
undisturbed h w a b = passed_on h (passed_on h (passed_on h (play symbols h fresh w (world.Call a b)) b) a) b

-- four things happened since: a call, its answer, and its end on both sides, with the same reply and secret; surely, if the keys were safe
pub record BothEnded (w v : World Term) (a b choice : ℕ) : Type 0 where
  pub caller : Finished Term
  pub called : Finished Term
  pub call : Entry Term
  pub answer : Entry Term
  pub caller_words : List Term
  pub called_words : List Term
  pub log : v.log ≡ record { what = called_ended called; words = called_words } ∷ record { what = caller_ended caller; words = caller_words } ∷ answer ∷ call ∷ w.log
  pub caller_side : caller.me ≡ a
  pub called_side : called.me ≡ b
  pub same_reply : called.reply ≡ caller.reply
  pub same_secret : called.secret ≡ caller.secret
  pub chosen : caller.reply.body.choice ≡ choice
  pub caller_sure : safe (identity b) w.log ≡ true → safe caller.their (answer ∷ call ∷ w.log) ≡ true
  pub called_sure : safe (identity a) w.log ≡ true → safe called.their (record { what = caller_ended caller; words = caller_words } ∷ answer ∷ call ∷ w.log) ≡ true

-- From every world, for any two sides with a cipher in common: if the network does nothing but deliver, both end.
abbrev pub UndisturbedEnds : Handlers Term → World Term → Type 0
UndisturbedEnds h w = (a b choice : ℕ) (s t : Side Term) → nth w.sides a ≡ Some s → nth w.sides b ≡ Some t → choose t.preferences s.preferences ≡ Some choice → BothEnded w (undisturbed h w a b) a b choice

-- The whole promise of a world, with sides that act by h.
pub record Promise (h : Handlers Term) (w : World Term) : Type 0 where
  pub right_keys : RightKeys w
  pub caller_partner : CallerHasPartner w
  pub called_partner : CalledHasPartner w
  pub one_each : OneEach w
  pub by_its_words : EndsByItsWords w
  pub unshared : Unshared w
  pub secret_kept : SecretKept w
  pub called_secret_kept : CalledSecretKept w
  pub only_given_away : OnlyGivenAway w
  pub nobody_else : NobodyElseHasIt w
  pub choice_offered : ChoiceOffered w
  pub refusal_silent : RefusalIsSilent h w
  pub undisturbed_ends : UndisturbedEnds h w
  pub tables : TablesHoldTheNewest w

-- a statement of every world that can be reached, with sides that keep to the rules
abbrev pub Always : (World Term → Type 0) → Type 0
Always P = (preferences : List (List ℕ)) (w : World Term) → Reach (rules symbols) preferences w → P w

-- each of the commands may be given when its turn comes
unfoldable pub AllAllowed : Handlers Term → World Term → List (Command Term) → Type 0
AllAllowed h w [] = Unit {0}
AllAllowed h w (c ∷ cs) = Allowed w c × AllAllowed h (play symbols h fresh w c) cs

-- THE PROMISE: whatever the network does, in whatever order, with any number of sides: the world that is reached keeps the promise.
abbrev pub EveryRunKeepsThePromise : Type 0
EveryRunKeepsThePromise = (preferences : List (List ℕ)) → all_proper preferences ≡ true → (commands : List (Command Term)) → AllAllowed (rules symbols) (start preferences) commands → Promise (rules symbols) (plays symbols (rules symbols) fresh (start preferences) commands)
