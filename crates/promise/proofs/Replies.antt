-- A caller that takes a public reply fits the log. Assumes nothing.
use Rattle.std.proofs.Common.{◌≡◌, ℕ, true, not, eqb, List, [], ◌∷◌, ◌++◌, length, Some, sym, refl, ap, ◌∙◌, subst, le_trans}
use mathlib.Core.List.{Memᴰ}
use Rattle.std.proofs.lemmas.Bool.{eqb-true}
use Rattle.words.specs.Numbers.{wrong_side, no_such_call, bad_signature, not_offered, seal_shut, common_one}
use Rattle.words.specs.Registry.{kind_end, derive_lock}
use Rattle.words.specs.Choice.{holds}
use Rattle.symbolic.specs.Key.{Key, own, made}
use Rattle.symbolic.specs.Term.{Term, Number, Secret, Public, Mac, Both, Tag, Close, same, rise}
use Rattle.symbolic.proofs.Terms.{same_is, is_same}
use Rattle.symbolic.proofs.Public.{Ok}
use Rattle.protocol.specs.Lists.{nth, seek, without}
use Rattle.protocol.specs.Got.{Yes}
use Rattle.protocol.specs.Words.{Hello, Reply}
use Rattle.protocol.specs.Algebra.{unsealed, seal_key}
use Rattle.protocol.specs.Side.{Call, Side, most_ended}
use Rattle.protocol.specs.Event.{Finished, caller_ended, called_ended, Entry}
use Rattle.protocol.specs.Step.{Reaction, has_hello, end_call, take_reply, new_session}
use Rattle.protocol.specs.Symbols.{hello_term, reply_term, nothing, Variant, primitives}
use Rattle.protocol.proofs.Steps.{yes_same, by_guard, by_need}
use Rattle.protocol.proofs.Reading.{verified_is, unclosed_is}
use Rattle.protocol.proofs.Tables.{seek_found, newest_bounded, without_shorter}
use Rattle.protocol.proofs.Rows.{rows_of, rows_without, rows_once}
use Rattle.promise.specs.Run.{Log}
use Rattle.promise.specs.Session.{hello_of, session_of}
use Rattle.promise.proofs.Events.{other_kind, caller_same}
use Rattle.promise.proofs.Logs.{now_past}
use Rattle.promise.proofs.Released.{released, CallerEnd, sealing_key, half_of, Justified, Fair}
use Rattle.promise.proofs.Fair.{the_call}
use Rattle.protocol.proofs.Apart.{hello_same}
use Rattle.promise.proofs.Partners.{call_time}
use Rattle.promise.proofs.Sound.{CallRow, Sound, grow_calls, grow_answers, end_now, Fits, spoken}
use Rattle.promise.proofs.Calls.{half_is}
use Rattle.promise.proofs.Hellos.{signed_by, common_is}

-- the calls with one hello have one time
one_time : (v : Variant) {log : Log} {n : ℕ} → Fair v log → (h : Hello Term) (x y : Call Term) (t u : ℕ) → CallRow log n x t → CallRow log n y u → has_hello (primitives v) h x ≡ true → has_hello (primitives v) h y ≡ true → t ≡ u
one_time v fair h x y t u r q p o =
    let a = hello_same x.hello h (same_is (hello_term x.hello) (hello_term h) p) in
    let b = hello_same y.hello h (same_is (hello_term y.hello) (hello_term h) o) in
    sym r.time ∙ call_time fair r.call q.call r.calling q.calling (r.hello ∙ a ∙ sym b ∙ sym q.hello) ∙ q.time

module _ {v : Variant} {preferences : List (List ℕ)} {log : Log} {n : ℕ} {s : Side Term} (fair : Fair v log) (sound : Sound preferences log n s) (r : Reply Term) (c : Call Term) (t : ℕ) (row : CallRow log n c t) (secret : Term) (for-me : (hello_of r).caller ≡ s.me) (this : has_hello (primitives v) (hello_of r) c ≡ true) (verified : (primitives v).verifies c.their (v.body r.body) r.signature ≡ true) (offered : holds c.hello.offer r.body.choice ≡ true) (opened : unsealed (primitives v) c.secret r.body.seal r.body.box ≡ Some secret) (heard : Ok (released v log) (reply_term r)) where
  abbrev event : Finished Term
  event = record { me = s.me; their = c.their; reply = r; secret = secret }

  abbrev sent : List Term
  sent = Tag kind_end (Close (Mac secret (Number 1 derive_lock)) 0 nothing (Both (reply_term r) ((primitives v).sign s.own (v.claim (reply_term r))))) ∷ []

  abbrev entry : Entry Term
  entry = record { what = caller_ended event; words = sent }

  hello_is : c.hello ≡ hello_of r
  hello_is = hello_same c.hello (hello_of r) (same_is (hello_term c.hello) (hello_term (hello_of r)) this)

  abbrev key : Key
  key = made (length row.calling.below) 1

  secret_is : c.secret ≡ Secret key
  secret_is = sym row.secret ∙ (the_call fair row.call row.calling).secret

  their_is : c.their ≡ Public (own (hello_of r).called 0)
  their_is = sym row.their ∙ (the_call fair row.call row.calling).their ∙ ap (λ (h : Hello Term). Public (own h.called 0)) (row.hello ∙ hello_is)

  sealing_is : seal_key (primitives v) ((primitives v).common c.secret r.body.seal) ((primitives v).half c.secret) r.body.seal ≡ sealing_key key r.body.seal (half_of key) r.body.seal
  sealing_is = ap (λ x. Mac ((primitives v).common x r.body.seal) (Both ((primitives v).half x) r.body.seal)) secret_is ∙ ap (λ x. Mac x (Both ((primitives v).half (Secret key)) r.body.seal)) (common_is v key r.body.seal) ∙ ap (λ x. Mac (rise key r.body.seal) (Both x r.body.seal)) (half_is v key)

  justified : CallerEnd v event sent log
  justified = record {
    call = row.call;
    calling = row.calling;
    me = row.who ∙ sym sound.seat.me;
    hello = row.hello ∙ hello_is;
    their = their_is;
    signature = verified_is (own (hello_of r).called 0) c.their (v.body r.body) r.signature their_is verified;
    offered = ap (λ (h : Hello Term). holds h.offer r.body.choice) (sym hello_is) ∙ offered;
    box = unclosed_is (seal_key (primitives v) ((primitives v).common c.secret r.body.seal) ((primitives v).half c.secret) r.body.seal) nothing r.body.box secret 0 opened ∙ ap (λ k. Close k 0 nothing secret) sealing_is;
    once = λ f p e. row.unended f p (e ∙ sym hello_is);
    public = heard;
    sent = ap (λ x. Tag kind_end (Close (Mac secret (Number 1 derive_lock)) 0 nothing (Both (reply_term r) x)) ∷ []) (signed_by v sound.seat (v.claim (reply_term r)));
  }

  -- no other open call is this one
  others_open : (f : Finished Term) → caller_ended event ≡ caller_ended f → (x : Call Term) (u : ℕ) → Memᴰ x (without (has_hello (primitives v) (hello_of r)) s.calls) → CallRow log n x u → hello_of f.reply ≡ x.hello → ⊥
  others_open f e x u m q h = rows_once (has_hello (primitives v) (hello_of r)) (one_time v fair (hello_of r)) sound.calls x m (is_same (hello_term x.hello) (hello_term (hello_of r)) (ap hello_term (sym h ∙ ap (λ (y : Finished Term). hello_of y.reply) (sym (caller_same event f e)))))

  end_fits : Fits v preferences log n (end_call (primitives v) s r c secret)
  unfolding Justified
  end_fits =
      spoken entry refl justified (record { caller = λ f e. ap (λ (y : Finished Term). (hello_of y.reply).caller) (sym (caller_same event f e)) ∙ for-me ∙ sound.seat.me; called = λ f e. absurd (other_kind (caller_ended event) (called_ended f) e refl) })
      (record {
        seat = record { me = sound.seat.me; own_key = sound.seat.own_key; keys = sound.seat.keys; proper_list = sound.seat.proper_list; wishes = sound.seat.wishes };
        calls = grow_calls entry log n (without (has_hello (primitives v) (hello_of r)) s.calls) others_open (rows_without (has_hello (primitives v) (hello_of r)) sound.calls);
        answers = grow_answers entry log n s.answers (λ f e x u m w g. other_kind (caller_ended event) (called_ended f) e refl) sound.answers;
        ended = end_now entry log n s.ended (session_of true event) (record { end = event; calling = true; ending = now_past entry log; time = refl; who = sound.seat.me; session = refl }) sound.ended;
        few_calls = le_trans (without_shorter (has_hello (primitives v) (hello_of r)) s.calls) sound.few_calls;
        few_answers = sound.few_answers;
        few_ended = newest_bounded most_ended (s.ended ++ new_session (primitives v) true (hello_of r).called r secret ∷ []);
      })

pub reply_fits : {v : Variant} {preferences : List (List ℕ)} {log : Log} {n : ℕ} {s : Side Term} → Fair v log → Sound preferences log n s → (r : Reply Term) → Ok (released v log) (reply_term r) → (x : Reaction Term) → take_reply (primitives v) s r ≡ Yes x → Fits v preferences log n x
unfolding take_reply
reply_fits {v} {preferences} {log} {n} {s} fair sound r heard x e =
    let a = by_guard wrong_side (eqb (hello_of r).caller s.me) _ x e in
    let b = by_need wrong_side (nth s.keys (hello_of r).called) _ x a.1 in
    let c = by_need no_such_call (seek (has_hello (primitives v) (hello_of r)) s.calls) _ x b.2 in
    let call = c.0 in
    let d = by_guard bad_signature ((primitives v).verifies call.their (v.body r.body) r.signature) _ x c.2 in
    let f = by_guard not_offered (holds call.hello.offer r.body.choice) _ x d.1 in
    let g = by_need seal_shut (unsealed (primitives v) call.secret r.body.seal r.body.box) _ x f.1 in
    let h = by_guard common_one (not (same ((primitives v).common call.secret r.body.seal) v.one)) _ x g.2 in
    let found = seek_found (has_hello (primitives v) (hello_of r)) s.calls call c.1 in
    let row = rows_of call found.0 sound.calls in
    subst (λ z. Fits v preferences log n z) (yes_same (end_call (primitives v) s r call g.0) x h.1)
    (end_fits fair sound r call row.0 row.1 g.0 (eqb-true (hello_of r).caller s.me a.0) found.1 d.0 f.0 g.1 heard)
