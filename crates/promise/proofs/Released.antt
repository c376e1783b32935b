-- What sides have released by the end of a log, and what justifies each entry. Assumes nothing.
use Rattle.std.proofs.Common.{◌≡◌, ℕ, true, ◌⊎◌, List, [], ◌∷◌, length, Some}
use mathlib.Core.List.{Memᴰ}
use Rattle.words.specs.Registry.{kind_end, derive_lock}
use Rattle.words.specs.Choice.{holds, choose}
use Rattle.symbolic.specs.Key.{Key, own, made, plain}
use Rattle.symbolic.specs.Term.{Term, Number, Fresh, Secret, Public, One, Element, Sign, Mac, Close, Both, Tag, rise}
use Rattle.symbolic.proofs.Public.{Released, Ok, Grows}
use Rattle.protocol.specs.Words.{Reply}
use Rattle.protocol.specs.Event.{Begun, Answered, Finished, Theft, Told, held, Event, begun, answered, caller_ended, called_ended, stolen, taken, told, drew, spoke, Entry}
use Rattle.protocol.specs.Symbols.{hello_term, reply_term, nothing, Variant}
use Rattle.promise.specs.Run.{Log, At, Past}
use Rattle.promise.specs.Session.{hello_of}
use Rattle.promise.proofs.Logs.{later}

-- the secret keys that the network knows, each because of something that has happened
pub data Known (log : Log) (k : Key) : Type 0 where
  everybody : (n : ℕ) → k ≡ plain n → Known log k
  by_theft : (t : Theft Term) → Past log (stolen t) → k ≡ own t.who 0 → Known log k
  by_taking : (t : Theft Term) (p : Past log (taken t)) → Memᴰ (Secret k) p.entry.words → Known log k
  by_drawing : (p : Past log drew) → k ≡ made (length p.below) 0 → Known log k

-- the drawn values that are public: nonces, what was given away, what was sealed for known keys or under the group's one, what the network drew
pub data Given (log : Log) (t i : ℕ) : Type 0 where
  nonce_begun : (b : Begun Term) (p : Past log (begun b)) → t ≡ length p.below → i ≡ 0 → Given log t i
  nonce_answered : (a : Answered Term) (p : Past log (answered a)) → t ≡ length p.below → i ≡ 0 → Given log t i
  by_telling : (k : Told Term) → Past log (told k) → k.secret ≡ Fresh t i → Given log t i
  by_sealing : (a : Answered Term) (p : Past log (answered a)) → t ≡ length p.below → i ≡ 1 → (ks : List Key) → (hello_of a.reply).half ≡ Element ks → ((k : Key) → Memᴰ k ks → Known log k) → Given log t i
  by_one : (a : Answered Term) (p : Past log (answered a)) → t ≡ length p.below → i ≡ 1 → rise (made (length p.below) 2) (hello_of a.reply).half ≡ One → Given log t i
  by_drawing : (p : Past log drew) → t ≡ length p.below → i ≡ 0 → Given log t i

-- the signatures that sides have made: that of an end is public only with the secret that it is locked with
pub data Signed (v : Variant) (log : Log) (k : Key) (m u : Term) : Type 0 where
  a_reply : (a : Answered Term) → Past log (answered a) → k ≡ own a.me 0 → m ≡ v.body a.reply.body → Signed v log k m u
  an_end : (f : Finished Term) → Past log (caller_ended f) → k ≡ own f.me 0 → m ≡ v.claim (reply_term f.reply) → u ≡ f.secret → Signed v log k m u

-- what a caller that ends sends: the reply with its signature, locked
abbrev pub end_signature : Variant → ℕ → Reply Term → Term
end_signature v me r = Sign (own me 0) (v.claim (reply_term r))

abbrev pub lock_of : Variant → ℕ → Term → Reply Term → Term
lock_of v me secret r = Close (Mac secret (Number 1 derive_lock)) 0 nothing (Both (reply_term r) (end_signature v me r))

-- what sides have closed: the session secret in a reply, and an end
pub data Closed (v : Variant) (log : Log) (k : Term) (n : ℕ) (h m : Term) : Type 0 where
  a_seal : (a : Answered Term) → Past log (answered a) → Close k n h m ≡ a.reply.body.box → Closed v log k n h m
  a_lock : (f : Finished Term) → Past log (caller_ended f) → Close k n h m ≡ lock_of v f.me f.secret f.reply → Closed v log k n h m

abbrev pub released : Variant → Log → Released
released v log = record { given = Given log; known = Known log; signed = Signed v log; closed = Closed v log }

known_grows : {log whole : Log} {e : Entry Term} → At e log whole → {k : Key} → Known log k → Known whole k
known_grows a (everybody n e) = everybody n e
known_grows a (by_theft t p e) = by_theft t (later a p) e
known_grows a (by_taking t p m) = by_taking t (later a p) m
known_grows a (by_drawing p e) = by_drawing (later a p) e

given_grows : {log whole : Log} {e : Entry Term} → At e log whole → {t i : ℕ} → Given log t i → Given whole t i
given_grows a (nonce_begun b p e f) = nonce_begun b (later a p) e f
given_grows a (nonce_answered b p e f) = nonce_answered b (later a p) e f
given_grows a (by_telling k p e) = by_telling k (later a p) e
given_grows a (by_sealing b p e f ks g h) = by_sealing b (later a p) e f ks g (λ k m. known_grows a (h k m))
given_grows a (by_one b p e f g) = by_one b (later a p) e f g
given_grows a (by_drawing p e f) = by_drawing (later a p) e f

signed_grows : {v : Variant} {log whole : Log} {e : Entry Term} → At e log whole → {k : Key} {m u : Term} → Signed v log k m u → Signed v whole k m u
signed_grows a (a_reply b p e f) = a_reply b (later a p) e f
signed_grows a (an_end b p e f g) = an_end b (later a p) e f g

closed_grows : {v : Variant} {log whole : Log} {e : Entry Term} → At e log whole → {k h m : Term} {n : ℕ} → Closed v log k n h m → Closed v whole k n h m
closed_grows a (a_seal b p e) = a_seal b (later a p) e
closed_grows a (a_lock b p e) = a_lock b (later a p) e

-- what is released stays so
pub released_grows : (v : Variant) {log whole : Log} {e : Entry Term} → At e log whole → Grows (released v log) (released v whole)
released_grows v a = record { more_given = given_grows a; more_known = known_grows a; more_signed = signed_grows a; more_closed = closed_grows a }

-- the element that only who holds one of two secret keys can compute
abbrev pub sealing_key : Key → Term → Term → Term → Term
sealing_key x other theirs mine = Mac (rise x other) (Both theirs mine)

abbrev pub half_of : Key → Term
half_of k = Element (k ∷ [])

-- A call, with what was sent: its nonce and key are named by its time.
pub record CallMade (b : Begun Term) (words : List Term) (log : Log) : Type 0 where
  pub caller : b.hello.caller ≡ b.me
  pub nonce : b.hello.nonce ≡ Fresh (length log) 0
  pub half : b.hello.half ≡ half_of (made (length log) 1)
  pub secret : b.secret ≡ Secret (made (length log) 1)
  pub their : b.their ≡ Public (own b.hello.called 0)
  pub sent : words ≡ hello_term b.hello ∷ []

-- An answer: its draws are named by its time, and the hello that it answers was public.
pub record AnswerMade (v : Variant) (a : Answered Term) (words : List Term) (log : Log) : Type 0 where
  pub me : (hello_of a.reply).called ≡ a.me
  pub their : a.their ≡ Public (own (hello_of a.reply).caller 0)
  pub nonce : a.reply.body.nonce ≡ Fresh (length log) 0
  pub secret : a.secret ≡ Fresh (length log) 1
  pub seal : a.reply.body.seal ≡ half_of (made (length log) 2)
  pub box : a.reply.body.box ≡ Close (sealing_key (made (length log) 2) (hello_of a.reply).half (hello_of a.reply).half (half_of (made (length log) 2))) 0 nothing (Fresh (length log) 1)
  pub signature : a.reply.signature ≡ Sign (own a.me 0) (v.body a.reply.body)
  pub best : choose a.preferences (hello_of a.reply).offer ≡ Some a.reply.body.choice
  pub public : Ok (released v log) (hello_term (hello_of a.reply))
  pub sent : words ≡ reply_term a.reply ∷ []

-- A caller's end: it is of a call that was open, the reply was public, and the box opened with the call's key.
pub record CallerEnd (v : Variant) (c : Finished Term) (words : List Term) (log : Log) : Type 0 where
  pub call : Begun Term
  pub calling : Past log (begun call)
  pub me : call.me ≡ c.me
  pub hello : call.hello ≡ hello_of c.reply
  pub their : c.their ≡ Public (own (hello_of c.reply).called 0)
  pub signature : c.reply.signature ≡ Sign (own (hello_of c.reply).called 0) (v.body c.reply.body)
  pub offered : holds (hello_of c.reply).offer c.reply.body.choice ≡ true
  pub box : c.reply.body.box ≡ Close (sealing_key (made (length calling.below) 1) c.reply.body.seal (half_of (made (length calling.below) 1)) c.reply.body.seal) 0 nothing c.secret
  pub once : (f : Finished Term) → Past log (caller_ended f) → hello_of f.reply ≡ hello_of c.reply → ⊥
  pub public : Ok (released v log) (reply_term c.reply)
  pub sent : words ≡ Tag kind_end (lock_of v c.me c.secret c.reply) ∷ []

-- A called side's end: it is of a session that it had answered, and the lock that it opened was public.
pub record CalledEnd (v : Variant) (f : Finished Term) (words : List Term) (log : Log) : Type 0 where
  pub answer : Answered Term
  pub answering : Past log (answered answer)
  pub me : answer.me ≡ f.me
  pub reply : answer.reply ≡ f.reply
  pub secret : answer.secret ≡ f.secret
  pub their : f.their ≡ Public (own (hello_of f.reply).caller 0)
  pub once : (g : Finished Term) → Past log (called_ended g) → g.reply ≡ f.reply → ⊥
  pub public : Ok (released v log) (lock_of v (hello_of f.reply).caller f.secret f.reply)
  pub sent : words ≡ []

pub record TheftDone (t : Theft Term) (words : List Term) : Type 0 where
  pub key : t.key ≡ Public (own t.who 0)
  pub sent : words ≡ Secret (own t.who 0) ∷ []

-- a call that is open: it has begun and isn't ended
pub record OpenCall (who : ℕ) (secret : Term) (log : Log) : Type 0 where
  pub call : Begun Term
  pub calling : Past log (begun call)
  pub me : call.me ≡ who
  pub same : call.secret ≡ secret
  pub unended : (f : Finished Term) → Past log (caller_ended f) → hello_of f.reply ≡ call.hello → ⊥

pub record KeysTaken (t : Theft Term) (words : List Term) (log : Log) : Type 0 where
  pub key : t.key ≡ Public (own t.who 0)
  pub each : (x : Term) → Memᴰ x words → (x ≡ Secret (own t.who 0)) ⊎ OpenCall t.who x log

-- A secret given away is that of a session, by its side.
pub record SecretTold (t : Told Term) (words : List Term) (log : Log) : Type 0 where
  pub session : Event Term
  pub having : Past log session
  pub holds : held session ≡ Some (record { who = t.who; secret = t.secret })
  pub place : t.place ≡ length having.below
  pub sent : words ≡ t.secret ∷ []

-- what justifies an entry, by what had happened before it
unfoldable pub Justified : Variant → Event Term → List Term → Log → Type 0
Justified v (begun b) words log = CallMade b words log
Justified v (answered a) words log = AnswerMade v a words log
Justified v (caller_ended c) words log = CallerEnd v c words log
Justified v (called_ended f) words log = CalledEnd v f words log
Justified v (stolen t) words log = TheftDone t words
Justified v (taken t) words log = KeysTaken t words log
Justified v (told t) words log = SecretTold t words log
Justified v drew words log = words ≡ Fresh (length log) 0 ∷ Secret (made (length log) 0) ∷ []
Justified v (spoke n) words log = ⊥

-- every entry of a log is justified by what had happened before it
pub record Fair (v : Variant) (log : Log) : Type 0 where
  pub each : (e : Entry Term) (below : Log) → At e below log → Justified v e.what e.words below
