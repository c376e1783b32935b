-- A called side that takes a public end fits the log. Assumes nothing.
use Rattle.std.proofs.Common.{◌≡◌, ℕ, true, false, List, [], ◌∷◌, ◌++◌, is_some as option_is_some, Some, None, Option, sym, refl, ap, ◌∙◌, subst, le_trans}
use mathlib.Core.List.{Memᴰ}
use Rattle.std.proofs.lemmas.Bool.{false≢true}
use Rattle.words.specs.Numbers.{bad_signature, no_such_session, other_reply}
use Rattle.words.specs.Registry.{derive_lock}
use Rattle.symbolic.specs.Key.{Key, own}
use Rattle.symbolic.specs.Term.{Term, Number, Public, Sign, Mac, Both, Close, same}
use Rattle.symbolic.proofs.Terms.{same_is}
use Rattle.symbolic.proofs.Public.{Ok}
use Rattle.protocol.specs.Lists.{seek, without}
use Rattle.protocol.specs.Got.{Yes}
use Rattle.protocol.specs.Words.{Reply}
use Rattle.protocol.specs.Algebra.{unlocked, lock_key}
use Rattle.protocol.specs.Side.{Answer, Side, most_ended}
use Rattle.protocol.specs.Event.{Answered, Finished, caller_ended, called_ended, Entry}
use Rattle.protocol.specs.Step.{Reaction, opens, end_answer, take_end, new_session}
use Rattle.protocol.specs.Symbols.{reply_term, nothing, Variant, primitives}
use Rattle.protocol.proofs.Steps.{yes_same, by_guard, by_need}
use Rattle.protocol.proofs.Reading.{verified_is, unclosed_is, content_is}
use Rattle.protocol.proofs.Tables.{seek_found, newest_bounded, without_shorter}
use Rattle.protocol.proofs.Rows.{rows_of, rows_without, rows_once}
use Rattle.promise.specs.Run.{Log}
use Rattle.promise.specs.Session.{hello_of, session_of}
use Rattle.promise.proofs.Events.{other_kind, called_same}
use Rattle.promise.proofs.Logs.{now_past}
use Rattle.promise.proofs.Released.{released, CalledEnd, lock_of, end_signature, Justified, Fair}
use Rattle.promise.proofs.Fair.{the_answer}
use Rattle.promise.proofs.Partners.{answer_time, reply_time, one_answer}
use Rattle.promise.proofs.Sound.{AnswerRow, Sound, grow_calls, grow_answers, end_now, Fits, spoken}

is_some : {X : Type 0} (o : Option X) → option_is_some o ≡ true → (x : X) × (o ≡ Some x)
is_some None e = absurd (false≢true e)
is_some (Some x) e = (x, refl)

lock_secret : (s t c d : Term) → Close (Mac s (Number 1 derive_lock)) 0 nothing c ≡ Close (Mac t (Number 1 derive_lock)) 0 nothing d → s ≡ t
lock_secret s t c d e = cc

-- two secrets that open one end are one
pub one_secret : (v : Variant) (x : Term) (a b : Answer Term) → opens (primitives v) x a ≡ true → opens (primitives v) x b ≡ true → a.secret ≡ b.secret
one_secret v x a b p q =
    let c = is_some (unlocked (primitives v) a.secret x) p in
    let d = is_some (unlocked (primitives v) b.secret x) q in
    lock_secret a.secret b.secret c.0 d.0 (sym (unclosed_is (lock_key (primitives v) a.secret) nothing x c.0 0 c.1) ∙ unclosed_is (lock_key (primitives v) b.secret) nothing x d.0 0 d.1)

one_time : (v : Variant) {log : Log} {n : ℕ} → Fair v log → (x : Term) (a b : Answer Term) (t u : ℕ) → AnswerRow log n a t → AnswerRow log n b u → opens (primitives v) x a ≡ true → opens (primitives v) x b ≡ true → t ≡ u
one_time v fair x a b t u r q p o = sym r.time ∙ answer_time fair r.answer q.answer r.answering q.answering (r.secret ∙ one_secret v x a b p o ∙ sym q.secret) ∙ q.time

module _ {v : Variant} {preferences : List (List ℕ)} {log : Log} {n : ℕ} {s : Side Term} (fair : Fair v log) (sound : Sound preferences log n s) (x : Term) (a : Answer Term) (t : ℕ) (row : AnswerRow log n a t) (content : Term) (opener : opens (primitives v) x a ≡ true) (opened : unlocked (primitives v) a.secret x ≡ Some content) (verified : (primitives v).verifies a.their (v.claim ((primitives v).front content)) ((primitives v).rear content) ≡ true) (equal : same ((primitives v).front content) (reply_term a.reply) ≡ true) (heard : Ok (released v log) x) where
  abbrev event : Finished Term
  event = record { me = s.me; their = a.their; reply = a.reply; secret = a.secret }

  abbrev entry : Entry Term
  entry = record { what = called_ended event; words = [] }

  abbrev caller_key : Key
  caller_key = own (hello_of a.reply).caller 0

  their_is : a.their ≡ Public caller_key
  their_is = sym row.their ∙ (the_answer fair row.answer row.answering).their ∙ ap (λ (r : Reply Term). Public (own (hello_of r).caller 0)) row.reply

  front_is : (primitives v).front content ≡ reply_term a.reply
  front_is = same_is ((primitives v).front content) (reply_term a.reply) equal

  -- what the end holds is the session's reply with the caller's signature
  holds_reply : content ≡ Both (reply_term a.reply) (end_signature v (hello_of a.reply).caller a.reply)
  holds_reply = content_is content (v.claim ((primitives v).front content)) caller_key (verified_is caller_key a.their (v.claim ((primitives v).front content)) ((primitives v).rear content) their_is verified) ∙ ap (λ w. Both w (Sign caller_key (v.claim w))) front_is

  lock_is : x ≡ lock_of v (hello_of a.reply).caller a.secret a.reply
  lock_is = unclosed_is (lock_key (primitives v) a.secret) nothing x content 0 opened ∙ ap (λ c. Close (Mac a.secret (Number 1 derive_lock)) 0 nothing c) holds_reply

  justified : CalledEnd v event [] log
  justified = record {
    answer = row.answer;
    answering = row.answering;
    me = row.who ∙ sym sound.seat.me;
    reply = row.reply;
    secret = row.secret;
    their = their_is;
    once = row.unended;
    public = subst (λ z. Ok (released v log) z) lock_is heard;
    sent = refl;
  }

  -- no other answered session is this one
  others_open : (f : Finished Term) → called_ended event ≡ called_ended f → (y : Answer Term) (u : ℕ) → Memᴰ y (without (opens (primitives v) x) s.answers) → AnswerRow log n y u → f.reply ≡ y.reply → ⊥
  others_open f e y u m q h =
      let same_reply = row.reply ∙ ap (λ (z : Finished Term). z.reply) (called_same event f e) ∙ h ∙ sym q.reply in
      let one = one_answer row.answer q.answer row.answering q.answering (reply_time fair row.answer q.answer row.answering q.answering same_reply) in
      let same_secret : a.secret ≡ y.secret = sym row.secret ∙ ap (λ (z : Answered Term). z.secret) one ∙ q.secret in
      rows_once (opens (primitives v) x) (one_time v fair x) sound.answers y m (ap (λ z. option_is_some (unlocked (primitives v) z x)) (sym same_secret) ∙ opener)

  called_is : (hello_of a.reply).called ≡ n
  called_is = ap (λ (r : Reply Term). (hello_of r).called) (sym row.reply) ∙ (the_answer fair row.answer row.answering).me ∙ row.who

  end_fits : Fits v preferences log n (end_answer (primitives v) s x a)
  unfolding Justified
  end_fits =
      spoken entry refl justified (record { caller = λ f e. absurd (other_kind (called_ended event) (caller_ended f) e refl); called = λ f e. ap (λ (z : Finished Term). (hello_of z.reply).called) (sym (called_same event f e)) ∙ called_is })
      (record {
        seat = record { me = sound.seat.me; own_key = sound.seat.own_key; keys = sound.seat.keys; proper_list = sound.seat.proper_list; wishes = sound.seat.wishes };
        calls = grow_calls entry log n s.calls (λ f e y u m w g. other_kind (called_ended event) (caller_ended f) e refl) sound.calls;
        answers = grow_answers entry log n (without (opens (primitives v) x) s.answers) others_open (rows_without (opens (primitives v) x) sound.answers);
        ended = end_now entry log n s.ended (session_of false event) (record { end = event; calling = false; ending = now_past entry log; time = refl; who = sound.seat.me; session = refl }) sound.ended;
        few_calls = sound.few_calls;
        few_answers = le_trans (without_shorter (opens (primitives v) x) s.answers) sound.few_answers;
        few_ended = newest_bounded most_ended (s.ended ++ new_session (primitives v) false (hello_of a.reply).caller a.reply a.secret ∷ []);
      })

pub end_taken_fits : {v : Variant} {preferences : List (List ℕ)} {log : Log} {n : ℕ} {s : Side Term} → Fair v log → Sound preferences log n s → (x : Term) → Ok (released v log) x → (r : Reaction Term) → take_end (primitives v) s x ≡ Yes r → Fits v preferences log n r
unfolding take_end
end_taken_fits {v} {preferences} {log} {n} {s} fair sound x heard r e =
    let a = by_need no_such_session (seek (opens (primitives v) x) s.answers) _ r e in
    let b = by_need no_such_session (unlocked (primitives v) a.0.secret x) _ r a.2 in
    let c = by_guard bad_signature ((primitives v).verifies a.0.their (v.claim ((primitives v).front b.0)) ((primitives v).rear b.0)) _ r b.2 in
    let d = by_guard other_reply (same ((primitives v).front b.0) (reply_term a.0.reply)) _ r c.1 in
    let found = seek_found (opens (primitives v) x) s.answers a.0 a.1 in
    let row = rows_of a.0 found.0 sound.answers in
    subst (λ z. Fits v preferences log n z) (yes_same (end_answer (primitives v) s x a.0) r d.1)
    (end_fits fair sound x a.0 row.0 row.1 b.0 found.1 b.1 c.0 d.0 heard)
