-- What a side does: it calls, and takes a hello, a reply and an end. Everything else is refused with its number. Assumes nothing.
use Rattle.std.specs.Prelude.{ℕ, Bool, true, false, cond, not, List, [], ◌∷◌, is_some, ◌==◌}
use Rattle.words.specs.Numbers.{wrong_side, nothing_in_common, no_such_call, bad_signature, not_offered, seal_shut, common_one, no_such_session, other_reply}
use Rattle.words.specs.Registry.{derive_to_called, derive_to_caller}
use Rattle.words.specs.Choice.{holds, choose}
use Rattle.protocol.specs.Lists.{nth, seek, without, kept}
use Rattle.protocol.specs.Got.{Got, Yes, guard, need}
use Rattle.protocol.specs.Words.{Hello, Body, Reply, a_hello, a_reply, an_end}
use Rattle.protocol.specs.Algebra.{Algebra, sealed, unsealed, locked, unlocked, way_key}
use Rattle.protocol.specs.Side.{Call, Answer, Way, Session, Side, most_calls, most_answers, most_ended, with_calls, with_answers, with_ended, counted}
use Rattle.protocol.specs.Event.{Event, begun, answered, caller_ended, called_ended, Entry}

-- the values and the keys that can be drawn for one step
pub record Draws (X : Type 0) : Type 0 where
  pub value : ℕ → X
  pub key : ℕ → X

-- what a side does with a word: the side after it, and what happened with what was sent
pub record Reaction (X : Type 0) : Type 0 where
  pub side : Side X
  pub entries : List (Entry X)

abbrev pub did : {X : Type 0} → Side X → Event X → List X → Reaction X
did s what words = record { side = s; entries = record { what = what; words = words } ∷ [] }

-- the hello of a call: the ciphers offered are the caller's preferences
abbrev pub new_hello : (A : Algebra) → Side A.Atom → ℕ → Draws A.Atom → Hello A.Atom
new_hello A s peer d = record { caller = s.me; called = peer; offer = s.preferences; nonce = d.value 0; half = A.half (d.key 1) }

-- what a call does, once the half is found that the called side signs with
abbrev pub begin_call : (A : Algebra) → Side A.Atom → ℕ → Draws A.Atom → A.Atom → Reaction A.Atom
begin_call A s peer d their =
    let h = new_hello A s peer d in
    did (with_calls s (kept most_calls s.calls (record { hello = h; secret = d.key 1; their = their }))) (begun (record { me = s.me; their = their; hello = h; secret = d.key 1 })) (A.write (a_hello h) ∷ [])

-- a call to a side that is there
unfoldable pub call : (A : Algebra) → Side A.Atom → ℕ → Draws A.Atom → Got (Reaction A.Atom)
call A s peer d = need wrong_side (nth s.keys peer) (λ their. Yes (begin_call A s peer d their))

-- the reply to a hello with a choice: drawn are a nonce, the session secret and the key of the seal
abbrev pub new_body : (A : Algebra) → Hello A.Atom → ℕ → Draws A.Atom → Body A.Atom
new_body A h c d = record { hello = h; choice = c; nonce = d.value 0; seal = A.half (d.key 2); box = sealed A (d.key 2) h.half (d.value 1) }

abbrev pub new_reply : (A : Algebra) → A.Atom → Body A.Atom → Reply A.Atom
new_reply A own b = record { body = b; signature = A.sign own (A.body b) }

-- what an answer does, once the caller's half and the choice are found
abbrev pub give_answer : (A : Algebra) → Side A.Atom → Hello A.Atom → Draws A.Atom → A.Atom → ℕ → Reaction A.Atom
give_answer A s h d their c =
    let r = new_reply A s.own (new_body A h c d) in
    did (with_answers s (kept most_answers s.answers (record { reply = r; secret = d.value 1; their = their }))) (answered (record { me = s.me; their = their; preferences = s.preferences; reply = r; secret = d.value 1 })) (A.write (a_reply r) ∷ [])

-- a hello is answered: it is for this side, the caller is there, a cipher is in common, and the common element isn't the group's one
unfoldable pub take_hello : (A : Algebra) → Side A.Atom → Hello A.Atom → Draws A.Atom → Got (Reaction A.Atom)
take_hello A s h d =
    guard wrong_side (h.called == s.me)
    (need wrong_side (nth s.keys h.caller) (λ their.
    need nothing_in_common (choose s.preferences h.offer) (λ c.
    guard common_one (not (A.same (A.common (d.key 2) h.half) A.one))
    (Yes (give_answer A s h d their c)))))

-- a way at its beginning: its key comes from the session secret, the choice and the reply's digest
abbrev pub first_way : (A : Algebra) → ℕ → Reply A.Atom → A.Atom → Way A.Atom
first_way A way r secret = record { key = way_key A way secret r.body.choice (A.digest (A.write (a_reply r))); next = 0 }

-- an ended session: it has its two ways, and the session secret isn't kept
abbrev pub new_session : (A : Algebra) → Bool → ℕ → Reply A.Atom → A.Atom → Session A.Atom
new_session A calling peer r secret =
    let there = first_way A derive_to_called r secret in
    let back = first_way A derive_to_caller r secret in
    record { peer = peer; calling = calling; choice = r.body.choice; digest = A.digest (A.write (a_reply r)); sends = cond calling there back; takes = cond calling back there }

-- whether a call has this hello
abbrev pub has_hello : (A : Algebra) → Hello A.Atom → Call A.Atom → Bool
has_hello A h c = A.same (A.write (a_hello c.hello)) (A.write (a_hello h))

-- what an end holds: the whole reply, and behind it the caller's signature over it
abbrev pub end_content : (A : Algebra) → A.Atom → Reply A.Atom → A.Atom
end_content A own r = let w = A.write (a_reply r) in A.both w (A.sign own (A.claim w))

-- what a caller does that ends: it sends the end, and the call with its ephemeral key is gone
abbrev pub end_call : (A : Algebra) → Side A.Atom → Reply A.Atom → Call A.Atom → A.Atom → Reaction A.Atom
end_call A s r c secret =
    let h = r.body.hello in
    did (with_ended (with_calls s (without (has_hello A h) s.calls)) (kept most_ended s.ended (new_session A true h.called r secret))) (caller_ended (record { me = s.me; their = c.their; reply = r; secret = secret })) (A.write (an_end (locked A secret (end_content A s.own r))) ∷ [])

-- a reply is taken: its hello is that of an open call, the signature is the called side's, the choice was offered, and the seal opens
unfoldable pub take_reply : (A : Algebra) → Side A.Atom → Reply A.Atom → Got (Reaction A.Atom)
take_reply A s r =
    guard wrong_side (r.body.hello.caller == s.me)
    (need wrong_side (nth s.keys r.body.hello.called) (λ _.
    need no_such_call (seek (has_hello A r.body.hello) s.calls) (λ c.
    guard bad_signature (A.verifies c.their (A.body r.body) r.signature)
    (guard not_offered (holds c.hello.offer r.body.choice)
    (need seal_shut (unsealed A c.secret r.body.seal r.body.box) (λ secret.
    guard common_one (not (A.same (A.common c.secret r.body.seal) A.one))
    (Yes (end_call A s r c secret))))))))

-- whether the secret of an answered session opens this end
abbrev pub opens : (A : Algebra) → A.Atom → Answer A.Atom → Bool
opens A x a = is_some (unlocked A a.secret x)

-- what a called side does that ends: nothing is sent, and the session secret is gone
abbrev pub end_answer : (A : Algebra) → Side A.Atom → A.Atom → Answer A.Atom → Reaction A.Atom
end_answer A s x a = did (with_ended (with_answers s (without (opens A x) s.answers)) (kept most_ended s.ended (new_session A false a.reply.body.hello.caller a.reply a.secret))) (called_ended (record { me = s.me; their = a.their; reply = a.reply; secret = a.secret })) []

-- an end is taken: the secret of an answered session opens it, and it holds that session's reply with the caller's signature
unfoldable pub take_end : (A : Algebra) → Side A.Atom → A.Atom → Got (Reaction A.Atom)
take_end A s x =
    need no_such_session (seek (opens A x) s.answers) (λ a.
    need no_such_session (unlocked A a.secret x) (λ content.
    guard bad_signature (A.verifies a.their (A.claim (A.front content)) (A.rear content))
    (guard other_reply (A.same (A.front content) (A.write (a_reply a.reply)))
    (Yes (end_answer A s x a)))))

-- a refused word changes nothing but its count, and nothing is sent
abbrev pub refuse : (A : Algebra) → Side A.Atom → ℕ → Reaction A.Atom
refuse A s n = record { side = counted s n; entries = [] }
