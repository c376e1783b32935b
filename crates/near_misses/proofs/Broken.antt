-- Without a rule, somebody ends surely and has no partner, or not the best choice. Assumes nothing.
use Rattle.std.proofs.Common.{◌≡◌, ℕ, Bool, true, false, ◌&&◌, eqb, List, [], ◌∷◌, Some, None, Option, sym, refl, ap, ◌∙◌, subst}
use Rattle.std.proofs.lemmas.Bool.{eq-eqb, and_from}
use Rattle.words.specs.Choice.{choose}
use Rattle.symbolic.specs.Key.{own, made}
use Rattle.symbolic.specs.Term.{Term, Fresh, Secret, Sign, Both, same}
use Rattle.symbolic.specs.Derivable.{Gets, raw, number, listed, both, tag, signed, mac, close}
use Rattle.symbolic.proofs.Terms.{is_same}
use Rattle.protocol.specs.Words.{Hello, Reply, an_end}
use Rattle.protocol.specs.Event.{Answered, Finished, Event, begun, answered, caller_ended, called_ended, stolen, taken, told, drew, spoke}
use Rattle.protocol.specs.Algebra.{locked}
use Rattle.protocol.specs.Symbols.{symbols, hello_term, reply_term, word_term, start}
use Rattle.promise.specs.Run.{Log, never}
use Rattle.promise.specs.Session.{hello_of, Answerer, Caller}
use Rattle.promise.specs.Promise.{identity, AllAllowed}
use Rattle.promise.proofs.Events.{kind}
use Rattle.promise.proofs.Logs.{never_was}
use Rattle.cases.specs.Table.{reply, end, opposite, first_hello, struck_hello}
use Rattle.cases.proofs.Heard.{playing, stands_at, first, second, third, hello_nonce, hello_half, reply_signature, reply_nonce, reply_seal, reply_box, own_half, opened}
use Rattle.near_misses.specs.Weak.{part_of_called, unmarked, resaid, own_parts, unsigned_hello, uncompared, believes_hellos, offer_first, bare_ends, part_of_caller}
use Rattle.near_misses.specs.Scripts.{own_parts_script, struck_reply, unsigned_hello_script, three_sides, renamed_hello, renamed_reply, uncompared_script, uncompared_reply, believes_hellos_script, false_hello, offer_first_script, offer_first_reply, bare_ends_script, reflected_reply, reply_signing, with_hello}
use Rattle.near_misses.specs.Attacks.{world_after, OwnPartsBreak, UnsignedHelloBreaks, UncomparedBreaks, BelievingHellosBreaks, OfferFirstBreaks, BareEndsBreak}

-- which events there would have to be
unfoldable answers_with : Reply Term → (Answered Term → Bool) → Event Term → Bool
answers_with r best (begun b) = false
answers_with r best (answered a) = same (reply_term a.reply) (reply_term r) && best a
answers_with r best (caller_ended c) = false
answers_with r best (called_ended c) = false
answers_with r best (stolen t) = false
answers_with r best (taken t) = false
answers_with r best (told t) = false
answers_with r best drew = false
answers_with r best (spoke n) = false

unfoldable calls_with : Hello Term → Event Term → Bool
calls_with h (begun b) = same (hello_term b.hello) (hello_term h)
calls_with h (answered a) = false
calls_with h (caller_ended c) = false
calls_with h (called_ended c) = false
calls_with h (stolen t) = false
calls_with h (taken t) = false
calls_with h (told t) = false
calls_with h drew = false
calls_with h (spoke n) = false

abbrev caller_ends : Event Term → Bool
caller_ends e = eqb (kind e) 2

-- whether a choice is this one
unfoldable is_choice : Option ℕ → ℕ → Bool
is_choice None n = false
is_choice (Some c) n = eqb c n

computing : Unit {0}
unfolding playing resaid answers_with calls_with is_choice
computing = tt

-- there is no answer with this reply
no_answer : {c : Finished Term} {before : Log} (r : Reply Term) → (x : Answerer c before) → c.reply ≡ r → never (answers_with r (λ a. true)) before ≡ true → ⊥
unfolding answers_with
no_answer {c} {before} r x e n = never_was (answers_with r (λ a. true)) before n (answered x.answer) (and_from (same (reply_term x.answer.reply) (reply_term r)) true (is_same (reply_term x.answer.reply) (reply_term r) (ap reply_term (x.same.reply ∙ e))) refl) x.answering

-- another hello put into a reply that was heard
swapped : {ts : List Term} (h : Hello Term) (r : Reply Term) → Gets ts (hello_term h) → Gets ts (reply_term r) → Gets ts (reply_term (with_hello h r))
swapped h r g k = both (tag (both g (both number (both (reply_nonce r k) (both (reply_seal r k) (reply_box r k)))))) (reply_signature r k)

-- a hello that was heard, under other names and with another list
changed : {ts : List Term} (g h : Hello Term) → Gets ts (hello_term g) → g.nonce ≡ h.nonce → g.half ≡ h.half → Gets ts (hello_term h)
changed {ts} g h k e f = tag (both number (both number (both listed (both (subst (λ t. Gets ts t) e (hello_nonce g k)) (subst (λ t. Gets ts t) f (hello_half g k))))))

own_parts_allowed : AllAllowed own_parts (start opposite) own_parts_script
unfolding computing
own_parts_allowed = (tt, (changed first_hello struck_hello first refl refl, (swapped first_hello (reply_signing part_of_called 1 struck_hello 1 1) second first, (first, tt))))

pub own_parts_break : OwnPartsBreak
unfolding computing
own_parts_break = record {
  proper = refl;
  allowed = own_parts_allowed;
  sees = refl;
  broken = λ P.
      let log = (world_after own_parts opposite own_parts_script).log in
      let c : Finished Term = record { me = 0; their = identity 1; reply = struck_reply; secret = Fresh 1 1 } in
      let part = part_of_caller first_hello in
      let x = P c (stands_at log 1 (record { what = caller_ended c; words = word_term (an_end (locked symbols (Fresh 1 1) (Both part (Sign (own 0 0) part)))) ∷ [] }) refl) refl in
      no_answer struck_reply x refl refl;
}

pub unsigned_hello_breaks : UnsignedHelloBreaks
unfolding computing
unsigned_hello_breaks = record {
  proper = refl;
  allowed = (tt, (changed first_hello renamed_hello first refl refl, (swapped first_hello (reply_signing part_of_called 1 renamed_hello 2 1) second first, tt)));
  sees = refl;
  broken = λ P.
      let log = (world_after unsigned_hello three_sides unsigned_hello_script).log in
      let c : Finished Term = record { me = 0; their = identity 1; reply = renamed_reply; secret = Fresh 1 1 } in
      let x = P c (stands_at log 0 (record { what = caller_ended c; words = end 0 renamed_reply 1 ∷ [] }) refl) refl in
      no_answer renamed_reply x refl refl;
}

-- there was no call with this hello
no_call : {c : Finished Term} {before : Log} (h : Hello Term) → (x : Answerer c before) → hello_of c.reply ≡ h → never (calls_with h) before ≡ true → ⊥
unfolding calls_with
no_call {c} {before} h x e n = never_was (calls_with h) before n (begun x.best.call) (is_same (hello_term x.best.call.hello) (hello_term h) (ap hello_term (x.best.hello ∙ e))) x.best.calling

pub uncompared_breaks : UncomparedBreaks
unfolding computing
uncompared_breaks = record {
  proper = refl;
  allowed = (tt, (changed first_hello struck_hello first refl refl, (first, tt)));
  sees = refl;
  broken = λ P.
      let log = (world_after uncompared opposite uncompared_script).log in
      let c : Finished Term = record { me = 0; their = identity 1; reply = uncompared_reply; secret = Fresh 1 1 } in
      let x = P c (stands_at log 0 (record { what = caller_ended c; words = end 0 uncompared_reply 1 ∷ [] }) refl) refl in
      no_call struck_hello x refl refl;
}

-- no caller ended
no_end : {f : Finished Term} {before : Log} → Caller f before → never caller_ends before ≡ true → ⊥
no_end {before = before} x n = never_was caller_ends before n (caller_ended x.ended) refl x.ending

-- a hello of the network's own, in anybody's name
false_one : {ts : List Term} (a : ℕ) → Gets ts (Secret (made 0 0)) → Gets ts (hello_term (false_hello a))
false_one a key = tag (both number (both number (both listed (both raw (own_half key)))))

pub believing_hellos_breaks : BelievingHellosBreaks
unfolding computing
believing_hellos_breaks = record {
  proper = refl;
  allowed = (tt, (false_one 0 second, tt));
  sees = refl;
  broken = λ P.
      let log = (world_after believes_hellos opposite believes_hellos_script).log in
      let f : Finished Term = record { me = 1; their = identity 0; reply = reply 1 (false_hello 0) 1 1; secret = Fresh 1 1 } in
      let x = P f (stands_at log 0 (record { what = called_ended f; words = [] }) refl) refl in
      no_end x refl;
}

-- there is no answer with this reply whose choice is the best
no_best_answer : {c : Finished Term} {before : Log} (r : Reply Term) → (x : Answerer c before) → c.reply ≡ r → never (answers_with r (λ a. is_choice (choose a.preferences (hello_of r).offer) r.body.choice)) before ≡ true → ⊥
unfolding answers_with is_choice
no_best_answer {c} {before} r x e n =
    let best : Answered Term → Bool = λ a. is_choice (choose a.preferences (hello_of r).offer) r.body.choice in
    let offer : x.best.call.hello.offer ≡ (hello_of r).offer = ap (λ (h : Hello Term). h.offer) (x.best.hello ∙ ap hello_of e) in
    let is = ap (λ o. is_choice o r.body.choice) (ap (choose x.answer.preferences) (sym offer) ∙ x.best.first ∙ ap (λ (y : Reply Term). Some y.body.choice) e) ∙ eq-eqb r.body.choice r.body.choice refl in
    never_was (answers_with r best) before n (answered x.answer) (and_from (same (reply_term x.answer.reply) (reply_term r)) (best x.answer) (is_same (reply_term x.answer.reply) (reply_term r) (ap reply_term (x.same.reply ∙ e))) is) x.answering

pub offer_first_breaks : OfferFirstBreaks
unfolding computing
offer_first_breaks = record {
  proper = refl;
  allowed = (tt, (first, (first, (first, tt))));
  sees = refl;
  broken = λ P.
      let log = (world_after offer_first opposite offer_first_script).log in
      let c : Finished Term = record { me = 0; their = identity 1; reply = offer_first_reply; secret = Fresh 1 1 } in
      let x = P c (stands_at log 1 (record { what = caller_ended c; words = end 0 offer_first_reply 1 ∷ [] }) refl) refl in
      no_best_answer offer_first_reply x refl refl;
}

-- the end that the network makes: it opens the seal that was made for its own half, and sends the side's signature back
reflected : {ts : List Term} → Gets ts (Secret (made 0 0)) → Gets ts (reply_term reflected_reply) → Gets ts (Fresh 1 1)
unfolding computing
reflected key r = opened (made 0 0) (false_hello 1).half reflected_reply.body.seal (Fresh 1 1) key (own_half key) (reply_seal reflected_reply r) (reply_box reflected_reply r)

bare_end : {ts : List Term} → Gets ts (Secret (made 0 0)) → Gets ts (reply_term reflected_reply) → Gets ts (word_term (an_end (locked symbols (Fresh 1 1) (Both (unmarked reflected_reply.body) (Sign (own 1 0) (unmarked reflected_reply.body))))))
unfolding computing
bare_end key r = tag (close (mac (reflected key r) number) number (both (signed (own 1 0) (reply_signature reflected_reply r)) (reply_signature reflected_reply r)))

pub bare_ends_break : BareEndsBreak
unfolding computing
bare_ends_break = record {
  proper = refl;
  allowed = (tt, (false_one 1 second, (bare_end third first, tt)));
  sees = refl;
  broken = λ P.
      let log = (world_after bare_ends opposite bare_ends_script).log in
      let f : Finished Term = record { me = 1; their = identity 1; reply = reflected_reply; secret = Fresh 1 1 } in
      let x = P f (stands_at log 0 (record { what = called_ended f; words = [] }) refl) refl in
      no_end x refl;
}
