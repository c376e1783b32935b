-- If the network does nothing but deliver, a call ends on both sides. Assumes nothing.
use Rattle.std.proofs.Common.{◌≡◌, ℕ, Bool, true, false, cond, not, ◌⊎◌, List, [], ◌∷◌, length, Some, sym, refl, ap, ◌∙◌, subst, inl, inr, arith}
use mathlib.Core.List.{Memᴰ}
use Rattle.std.proofs.lemmas.Bool.{and_from}
use Rattle.words.specs.Registry.{kind_end, derive_lock}
use Rattle.words.specs.Choice.{holds, choose}
use Rattle.symbolic.specs.Key.{own, made, insert}
use Rattle.symbolic.specs.Term.{Term, Number, Fresh, Secret, Sign, Mac, Close, Both, Tag, seen, rise}
use Rattle.symbolic.specs.Derivable.{by_ear}
use Rattle.protocol.specs.Lists.{nth}
use Rattle.protocol.specs.Words.{Hello, Reply}
use Rattle.protocol.specs.Side.{Call, Answer, Side, most_calls, most_answers}
use Rattle.protocol.specs.Event.{Begun, Answered, Finished, begun, answered, caller_ended, Entry, heard}
use Rattle.protocol.specs.Step.{Reaction, new_hello, new_body, new_reply, begin_call, give_answer, end_call, end_answer}
use Rattle.protocol.specs.World as world
use Rattle.protocol.specs.World.{rules, World, play}
use Rattle.protocol.specs.Symbols.{symbols, fresh, hello_term, reply_term, nothing, by_key, key_seen, Variant, primitives}
use Rattle.protocol.proofs.Steps.{some_same, none_some}
use Rattle.protocol.proofs.Tables.{put_nth, nth_put, put_there, kept_new}
use Rattle.promise.specs.Run.{Log, here, there, Past, Allowed, robs, never, safe}
use Rattle.promise.specs.Promise.{identity, last_heard, passed_on, undisturbed, BothEnded, UndisturbedEnds}
use Rattle.promise.proofs.Variants.{Laws}
use Rattle.promise.proofs.Released.{lock_of}
use Rattle.promise.proofs.Calls.{half_is}
use Rattle.promise.proofs.Hellos.{signed_by}
use Rattle.promise.proofs.Sound.{Sound}
use Rattle.promise.proofs.Reached.{Good, play_good}
use Rattle.promise.proofs.Live.{after, call_made, hello_answered, reply_taken, end_taken}

-- what is chosen was offered
choose_holds : (ps offer : List ℕ) (c : ℕ) → choose ps offer ≡ Some c → holds offer c ≡ true
unfolding choose
choose_holds [] offer c e = absurd (none_some c e)
choose_holds (p ∷ ps) offer c e = go (holds offer p) refl e (choose_holds ps offer c)
  where
    go : (b : Bool) → holds offer p ≡ b → cond b (Some p) (choose ps offer) ≡ Some c → (choose ps offer ≡ Some c → holds offer c ≡ true) → holds offer c ≡ true
    go true h e rest = ap (holds offer) (sym (some_same p c e)) ∙ h
    go false h e rest = rest e

-- a key is as safe after something that is no theft
still_safe : (k : Term) (e : Entry Term) (log : Log) → robs k e.what ≡ false → safe k log ≡ true → safe k (e ∷ log) ≡ true
unfolding never
still_safe k e log n s = and_from (not (robs k e.what)) (safe k log) (ap not n) s

module _ {v : Variant} (laws : Laws v) {preferences : List (List ℕ)} {w : World Term} (good : Good v preferences w) (a b choice : ℕ) (s t : Side Term) (at_a : nth w.sides a ≡ Some s) (at_b : nth w.sides b ≡ Some t) (chosen : choose t.preferences s.preferences ≡ Some choice) where
  abbrev seat_a : Sound preferences w.log a s
  seat_a = good.sound a s at_a

  -- the call
  abbrev hello : Hello Term
  hello = new_hello (primitives v) s b (fresh (length w.log))

  abbrev calling : Reaction Term
  calling = begin_call (primitives v) s b (fresh (length w.log)) (identity b)

  abbrev begun_world : World Term
  begun_world = after w a calling

  first_step : play symbols (rules (primitives v)) fresh w (world.Call a b) ≡ begun_world
  first_step = call_made good a b s t.preferences at_a (good.sound b t at_b).seat.wishes

  begun_good : Good v preferences begun_world
  unfolding Allowed
  begun_good = subst (λ u. Good v preferences u) first_step (play_good laws good (world.Call a b) tt)

  abbrev call_row : Call Term
  call_row = record { hello = hello; secret = Secret (made (length w.log) 1); their = identity b }

  caller_then : nth begun_world.sides a ≡ Some calling.side
  caller_then = nth_put w.sides a s calling.side at_a

  -- the called side, which may be the caller
  called_side : (x : Side Term) × (nth begun_world.sides b ≡ Some x)
  called_side = put_there w.sides a b calling.side t at_b

  abbrev callee : Side Term
  callee = called_side.0

  callee_wishes : callee.preferences ≡ t.preferences
  callee_wishes = some_same callee.preferences t.preferences (sym (begun_good.sound b callee called_side.1).seat.wishes ∙ (good.sound b t at_b).seat.wishes)

  -- the answer
  abbrev answering : Reaction Term
  answering = give_answer (primitives v) callee hello (fresh (length begun_world.log)) (identity s.me) choice

  abbrev answered_world : World Term
  answered_world = after begun_world b answering

  second_step : passed_on (rules (primitives v)) begun_world b ≡ answered_world
  unfolding heard last_heard
  second_step = hello_answered laws begun_good b callee hello s.preferences choice (made (length w.log) 1) called_side.1 refl (ap (nth preferences) seat_a.seat.me ∙ seat_a.seat.wishes) seat_a.seat.proper_list (ap (λ l. choose l s.preferences) callee_wishes ∙ chosen) (half_is v (made (length w.log) 1))

  answered_good : Good v preferences answered_world
  unfolding Allowed heard last_heard
  answered_good = subst (λ u. Good v preferences u) second_step (play_good laws begun_good (world.Deliver b (hello_term hello)) (by_ear (Memᴰ.head refl)))

  abbrev reply : Reply Term
  reply = new_reply (primitives v) callee.own (new_body (primitives v) hello choice (fresh (length begun_world.log)))

  abbrev secret : Term
  secret = Fresh (length begun_world.log) 1

  abbrev answer_row : Answer Term
  answer_row = record { reply = reply; secret = secret; their = identity s.me }

  called_then : nth answered_world.sides b ≡ Some answering.side
  called_then = nth_put begun_world.sides b callee answering.side called_side.1

  -- the caller still has the call open
  caller_still : (x : Side Term) × (nth answered_world.sides a ≡ Some x) × Memᴰ call_row x.calls
  caller_still = let x = put_there begun_world.sides b a answering.side calling.side caller_then in (x.0, x.1, go x.0 (put_nth begun_world.sides b a answering.side x.0 x.1))
    where
      open_call : Memᴰ call_row calling.side.calls
      open_call = kept_new most_calls s.calls call_row (omega arith)

      go : (x : Side Term) → ((a ≡ b) × (x ≡ answering.side)) ⊎ ((a ≡ b → ⊥) × (nth begun_world.sides a ≡ Some x)) → Memᴰ call_row x.calls
      go x (inl e) = subst (λ (y : Side Term). Memᴰ call_row y.calls) (sym e.1) (subst (λ (y : Side Term). Memᴰ call_row y.calls) (some_same calling.side callee (sym caller_then ∙ ap (nth begun_world.sides) e.0 ∙ called_side.1)) open_call)
      go x (inr e) = subst (λ (y : Side Term). Memᴰ call_row y.calls) (some_same calling.side x (sym caller_then ∙ e.1)) open_call

  abbrev caller_now : Side Term
  caller_now = caller_still.0

  abbrev begun_call : Begun Term
  begun_call = record { me = s.me; their = identity b; hello = hello; secret = Secret (made (length w.log) 1) }

  begun_before : Past answered_world.log (begun begun_call)
  begun_before = record { entry = record { what = begun begun_call; words = hello_term hello ∷ [] }; below = w.log; place = there (here refl refl); is = refl }

  callee_me : callee.me ≡ b
  callee_me = (begun_good.sound b callee called_side.1).seat.me

  signature_is : reply.signature ≡ Sign (own b 0) (v.body reply.body)
  signature_is = signed_by v (begun_good.sound b callee called_side.1).seat (v.body reply.body) ∙ ap (λ n. Sign (own n 0) (v.body reply.body)) callee_me

  third : (c : Call Term) × (c.their ≡ identity b) × (play symbols (rules (primitives v)) fresh answered_world (world.Deliver a (reply_term reply)) ≡ after answered_world a (end_call (primitives v) caller_now reply c secret))
  unfolding by_key key_seen seen rise insert
  third = reply_taken laws answered_good a caller_now reply t.preferences call_row begun_call begun_before (made (length begun_world.log) 2) secret caller_still.1 seat_a.seat.me (good.sound b t at_b).seat.wishes seat_a.seat.proper_list caller_still.2 refl refl signature_is (choose_holds t.preferences s.preferences choice chosen) refl refl

  abbrev ending : Reaction Term
  ending = end_call (primitives v) caller_now reply third.0 secret

  abbrev caller_ended_world : World Term
  caller_ended_world = after answered_world a ending

  third_step : passed_on (rules (primitives v)) answered_world a ≡ caller_ended_world
  unfolding heard last_heard
  third_step = third.2

  caller_ended_good : Good v preferences caller_ended_world
  unfolding Allowed heard
  caller_ended_good = subst (λ u. Good v preferences u) third.2 (play_good laws answered_good (world.Deliver a (reply_term reply)) (by_ear (Memᴰ.head refl)))

  -- the called side still has the session open
  called_side_still : (x : Side Term) × (nth caller_ended_world.sides b ≡ Some x) × Memᴰ answer_row x.answers
  called_side_still = let x = put_there answered_world.sides a b ending.side answering.side called_then in (x.0, x.1, go x.0 (put_nth answered_world.sides a b ending.side x.0 x.1))
    where
      open_answer : Memᴰ answer_row answering.side.answers
      open_answer = kept_new most_answers callee.answers answer_row (omega arith)

      go : (x : Side Term) → ((b ≡ a) × (x ≡ ending.side)) ⊎ ((b ≡ a → ⊥) × (nth answered_world.sides b ≡ Some x)) → Memᴰ answer_row x.answers
      go x (inl e) = subst (λ (y : Side Term). Memᴰ answer_row y.answers) (sym e.1) (subst (λ (y : Side Term). Memᴰ answer_row y.answers) (some_same answering.side caller_now (sym called_then ∙ ap (nth answered_world.sides) e.0 ∙ caller_still.1)) open_answer)
      go x (inr e) = subst (λ (y : Side Term). Memᴰ answer_row y.answers) (some_same answering.side x (sym called_then ∙ e.1)) open_answer

  abbrev callee_now : Side Term
  callee_now = called_side_still.0

  abbrev answer_event : Answered Term
  answer_event = record { me = callee.me; their = identity s.me; preferences = callee.preferences; reply = reply; secret = secret }

  answered_before : Past caller_ended_world.log (answered answer_event)
  answered_before = record { entry = record { what = answered answer_event; words = reply_term reply ∷ [] }; below = begun_world.log; place = there (here refl refl); is = refl }

  -- what the caller sent is the lock of its reply
  sent_is : Tag kind_end (Close (Mac secret (Number 1 derive_lock)) 0 nothing (Both (reply_term reply) ((primitives v).sign caller_now.own (v.claim (reply_term reply))))) ≡ Tag kind_end (lock_of v s.me secret reply)
  sent_is =
      let seat = (answered_good.sound a caller_now caller_still.1).seat in
      ap (λ x. Tag kind_end (Close (Mac secret (Number 1 derive_lock)) 0 nothing (Both (reply_term reply) x))) (signed_by v seat (v.claim (reply_term reply)) ∙ ap (λ n. Sign (own n 0) (v.claim (reply_term reply))) (seat.me ∙ sym seat_a.seat.me))

  fourth : (x : Answer Term) × (x.their ≡ identity s.me) × (x.reply ≡ reply) × (x.secret ≡ secret) × (play symbols (rules (primitives v)) fresh caller_ended_world (world.Deliver b (Tag kind_end (lock_of v s.me secret reply))) ≡ after caller_ended_world b (end_answer (primitives v) callee_now (lock_of v s.me secret reply) x))
  fourth = end_taken caller_ended_good b callee_now answer_row answer_event answered_before called_side_still.1 called_side_still.2 refl

  abbrev both_ended_world : World Term
  both_ended_world = after caller_ended_world b (end_answer (primitives v) callee_now (lock_of v s.me secret reply) fourth.0)

  fourth_step : passed_on (rules (primitives v)) caller_ended_world b ≡ both_ended_world
  unfolding heard last_heard
  fourth_step = ap (λ x. play symbols (rules (primitives v)) fresh caller_ended_world (world.Deliver b x)) sent_is ∙ fourth.4

  whole : undisturbed (rules (primitives v)) w a b ≡ both_ended_world
  whole = ap (λ x. passed_on (rules (primitives v)) (passed_on (rules (primitives v)) (passed_on (rules (primitives v)) x b) a) b) first_step ∙ ap (λ x. passed_on (rules (primitives v)) (passed_on (rules (primitives v)) x a) b) second_step ∙ ap (λ x. passed_on (rules (primitives v)) x b) third_step ∙ fourth_step

  abbrev caller_event : Finished Term
  caller_event = record { me = caller_now.me; their = third.0.their; reply = reply; secret = secret }

  abbrev called_event : Finished Term
  called_event = record { me = callee_now.me; their = fourth.0.their; reply = fourth.0.reply; secret = fourth.0.secret }

  abbrev call_entry : Entry Term
  call_entry = record { what = begun begun_call; words = hello_term hello ∷ [] }

  abbrev answer_entry : Entry Term
  answer_entry = record { what = answered answer_event; words = reply_term reply ∷ [] }

  abbrev end_words : List Term
  end_words = Tag kind_end (Close (Mac secret (Number 1 derive_lock)) 0 nothing (Both (reply_term reply) ((primitives v).sign caller_now.own (v.claim (reply_term reply))))) ∷ []

  pub both_ended : BothEnded w (undisturbed (rules (primitives v)) w a b) a b choice
  unfolding robs
  both_ended = record {
    caller = caller_event;
    called = called_event;
    call = call_entry;
    answer = answer_entry;
    caller_words = end_words;
    called_words = [];
    log = ap (λ (u : World Term). u.log) whole;
    caller_side = (answered_good.sound a caller_now caller_still.1).seat.me;
    called_side = (caller_ended_good.sound b callee_now called_side_still.1).seat.me;
    same_reply = fourth.2;
    same_secret = fourth.3;
    chosen = refl;
    caller_sure = λ x. subst (λ k. safe k (answer_entry ∷ call_entry ∷ w.log) ≡ true) (sym third.1) (still_safe (identity b) answer_entry (call_entry ∷ w.log) refl (still_safe (identity b) call_entry w.log refl x));
    called_sure = λ x. subst (λ k. safe k (record { what = caller_ended caller_event; words = end_words } ∷ answer_entry ∷ call_entry ∷ w.log) ≡ true) (sym (fourth.1 ∙ ap identity seat_a.seat.me)) (still_safe (identity a) (record { what = caller_ended caller_event; words = end_words }) (answer_entry ∷ call_entry ∷ w.log) refl (still_safe (identity a) answer_entry (call_entry ∷ w.log) refl (still_safe (identity a) call_entry w.log refl x)));
  }

pub undisturbed_ends : {v : Variant} → Laws v → {preferences : List (List ℕ)} {w : World Term} → Good v preferences w → UndisturbedEnds (rules (primitives v)) w
undisturbed_ends laws good a b choice s t e f c = both_ended laws good a b choice s t e f c
