-- Sides that leave one rule out. Each is the rules with one thing changed. Assumes nothing.
use Rattle.std.specs.Prelude.{ℕ, true, not, List, [], ◌∷◌, map, Some, None, Option, ◌==◌}
use Rattle.words.specs.Numbers.{wrong_side, nothing_in_common, no_such_call, bad_signature, not_offered, seal_shut, common_one, no_such_session, other_reply}
use Rattle.words.specs.Registry.{mark_reply}
use Rattle.words.specs.Choice.{holds, choose}
use Rattle.symbolic.specs.Term.{Term, Number, One, Both, Tag, same}
use Rattle.protocol.specs.Lists.{nth, seek}
use Rattle.protocol.specs.Got.{Got, No, Yes, bind, guard, need}
use Rattle.protocol.specs.Words.{Hello, Body, Reply, an_end}
use Rattle.protocol.specs.Algebra.{unsealed, locked, unlocked}
use Rattle.protocol.specs.Side.{Call, Side, with_calls, counted}
use Rattle.protocol.specs.Event.{Finished, Event, begun, answered, caller_ended, called_ended, stolen, taken, told, drew, spoke, Entry}
use Rattle.protocol.specs.Step.{Draws, Reaction, new_body, new_reply, call, give_answer, take_hello, end_call, take_reply, opens, end_answer, take_end, refuse}
use Rattle.protocol.specs.World.{Handlers, rules}
use Rattle.protocol.specs.Symbols.{symbols, primitives, hello_term, claim_term, word_term}

-- the rules, but for what a reply's signature is over
abbrev pub signing : (Body Term → Term) → Handlers Term
signing body = rules (primitives (record { body = body; claim = claim_term; one = One }))

-- what a called side adds to the words, and what a caller does but for its list and the names
abbrev pub part_of_called : Body Term → Term
part_of_called b = Both (Number 1 b.choice) (Both b.nonce (Both b.seal b.box))

abbrev pub part_of_caller : Hello Term → Term
part_of_caller h = Both h.nonce h.half

-- the word that a caller sends when it ends, made anew
unfoldable pub resaid : (Finished Term → Term) → Event Term → List Term → List Term
resaid f (begun b) words = words
resaid f (answered a) words = words
resaid f (caller_ended c) words = word_term (an_end (locked symbols c.secret (f c))) ∷ []
resaid f (called_ended c) words = words
resaid f (stolen t) words = words
resaid f (taken t) words = words
resaid f (told t) words = words
resaid f drew words = words
resaid f (spoke n) words = words

abbrev pub resent : (Finished Term → Term) → Reaction Term → Reaction Term
resent f x = record { side = x.side; entries = map (λ (e : Entry Term). record { what = e.what; words = resaid f e.what e.words }) x.entries }

-- an end whose content must be a part of the session's own, signed by the caller
abbrev pub take_part : (Reply Term → Term) → Side Term → Term → Got (Reaction Term)
take_part part s x =
    need no_such_session (seek (opens symbols x) s.answers) (λ a.
    need no_such_session (unlocked symbols a.secret x) (λ content.
    guard bad_signature (symbols.verifies a.their (symbols.front content) (symbols.rear content))
    (guard other_reply (same (symbols.front content) (part a.reply))
    (Yes (end_answer symbols s x a)))))

-- 1. Each side signs only its own part of the words.
abbrev pub own_parts : Handlers Term
own_parts = record {
  on_call = call symbols;
  on_hello = (signing part_of_called).on_hello;
  on_reply = λ s r. bind ((signing part_of_called).on_reply s r) (λ x. Yes (resent (λ c. let p = part_of_caller c.reply.body.hello in Both p (symbols.sign s.own p)) x));
  on_end = take_part (λ r. part_of_caller r.body.hello);
  on_refusal = refuse symbols;
}

-- 2. The reply is signed without the hello in it.
abbrev pub unsigned_hello : Handlers Term
unsigned_hello = signing part_of_called

-- 3. The caller takes a reply whose hello isn't compared with its own.
abbrev pub take_any_reply : Side Term → Reply Term → Got (Reaction Term)
take_any_reply s r =
    guard wrong_side (r.body.hello.caller == s.me)
    (need wrong_side (nth s.keys r.body.hello.called) (λ _.
    need no_such_call (seek (λ c. true) s.calls) (λ c.
    guard bad_signature (symbols.verifies c.their (symbols.body r.body) r.signature)
    (guard not_offered (holds c.hello.offer r.body.choice)
    (need seal_shut (unsealed symbols c.secret r.body.seal r.body.box) (λ secret.
    guard common_one (not (same (symbols.common c.secret r.body.seal) One))
    (Yes (end_call symbols s r c secret))))))))

abbrev pub uncompared : Handlers Term
uncompared = record { on_call = call symbols; on_hello = take_hello symbols; on_reply = take_any_reply; on_end = take_end symbols; on_refusal = refuse symbols }

-- 4. The caller keeps its ephemeral key after the end.
abbrev pub keeps_key : Handlers Term
keeps_key = record {
  on_call = call symbols;
  on_hello = take_hello symbols;
  on_reply = λ s r. bind (take_reply symbols s r) (λ x. Yes (record { side = with_calls x.side s.calls; entries = x.entries }));
  on_end = take_end symbols;
  on_refusal = refuse symbols;
}

-- an answer that is an end at once
abbrev pub believe : Side Term → Hello Term → Draws Term → Term → ℕ → Reaction Term
believe s h d their c =
    let x = give_answer symbols s h d their c in
    let end : Event Term = called_ended (record { me = s.me; their = their; reply = new_reply symbols s.own (new_body symbols h c d); secret = d.value 1 }) in
    record { side = x.side; entries = record { what = end; words = [] } ∷ x.entries }

-- 5. The called side believes in the caller at the hello, and not at the end.
abbrev pub believes_hellos : Handlers Term
believes_hellos = record {
  on_call = call symbols;
  on_hello = λ s h d.
      guard wrong_side (h.called == s.me)
      (need wrong_side (nth s.keys h.caller) (λ their.
      need nothing_in_common (choose s.preferences h.offer) (λ c.
      guard common_one (not (same (symbols.common (d.key 2) h.half) One))
      (Yes (believe s h d their c)))));
  on_reply = take_reply symbols;
  on_end = take_end symbols;
  on_refusal = refuse symbols;
}

-- what stands before the seal in a reply
abbrev pub before_the_seal : Body Term → Term
before_the_seal b = Tag mark_reply (Both (hello_term b.hello) (Both (Number 1 b.choice) b.nonce))

-- 6. The called side's signature doesn't cover the sealed secret.
abbrev pub unsigned_seal : Handlers Term
unsigned_seal = signing before_the_seal

-- the key of a call that is open, if there is one
unfoldable pub reused : Option (Call Term) → Draws Term → Draws Term
reused None d = d
reused (Some c) d = record { value = d.value; key = λ i. c.secret }

-- 7. The same ephemeral key for two calls.
abbrev pub one_key : Handlers Term
one_key = record {
  on_call = λ s peer d. call symbols s peer (reused (nth s.calls 0) d);
  on_hello = take_hello symbols;
  on_reply = take_reply symbols;
  on_end = take_end symbols;
  on_refusal = refuse symbols;
}

-- 8. The choice by the offer's order instead of the called side's preferences.
abbrev pub offer_first : Handlers Term
offer_first = record {
  on_call = call symbols;
  on_hello = λ s h d.
      guard wrong_side (h.called == s.me)
      (need wrong_side (nth s.keys h.caller) (λ their.
      need nothing_in_common (choose h.offer s.preferences) (λ c.
      guard common_one (not (same (symbols.common (d.key 2) h.half) One))
      (Yes (give_answer symbols s h d their c)))));
  on_reply = take_reply symbols;
  on_end = take_end symbols;
  on_refusal = refuse symbols;
}

-- 9. A side that answers faults in words.
abbrev pub answers_faults : Handlers Term
answers_faults = record {
  on_call = call symbols;
  on_hello = take_hello symbols;
  on_reply = take_reply symbols;
  on_end = take_end symbols;
  on_refusal = λ s n. record { side = counted s n; entries = record { what = spoke n; words = Number 1 n ∷ [] } ∷ [] };
}

-- 10. A side that never ends anything.
abbrev pub never_ends : Handlers Term
never_ends = record {
  on_call = call symbols;
  on_hello = take_hello symbols;
  on_reply = λ s r. No no_such_call;
  on_end = λ s x. No no_such_session;
  on_refusal = refuse symbols;
}

-- a reply's signed part without its mark
abbrev pub unmarked : Body Term → Term
unmarked b = Both (hello_term b.hello) (part_of_called b)

-- 11. An end that holds only what was signed of the reply, without its signature, and no marks.
abbrev pub bare_ends : Handlers Term
bare_ends = record {
  on_call = call symbols;
  on_hello = (signing unmarked).on_hello;
  on_reply = λ s r. bind ((signing unmarked).on_reply s r) (λ x. Yes (resent (λ c. let p = unmarked c.reply.body in Both p (symbols.sign s.own p)) x));
  on_end = take_part (λ r. unmarked r.body);
  on_refusal = refuse symbols;
}
