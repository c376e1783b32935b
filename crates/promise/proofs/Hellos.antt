-- An answer to a public hello fits the log. Assumes nothing.
use Rattle.std.proofs.Common.{◌≡◌, ℕ, not, eqb, ◌⊎◌, List, [], ◌∷◌, ◌++◌, length, Some, sym, refl, ap, ◌∙◌, subst, inl, inr, arith}
use Rattle.std.proofs.lemmas.Bool.{eqb-true}
use Rattle.words.specs.Numbers.{wrong_side, nothing_in_common, common_one}
use Rattle.words.specs.Choice.{choose}
use Rattle.symbolic.specs.Key.{Key, own, made, insert}
use Rattle.symbolic.specs.Term.{Term, Fresh, Secret, Sign, same, seen, rise}
use Rattle.symbolic.proofs.Public.{Ok}
use Rattle.protocol.specs.Lists.{nth}
use Rattle.protocol.specs.Got.{Yes}
use Rattle.protocol.specs.Words.{Hello, Body, Reply}
use Rattle.protocol.specs.Side.{Answer, Side, most_answers}
use Rattle.protocol.specs.Event.{Answered, Finished, answered, caller_ended, called_ended, Entry}
use Rattle.protocol.specs.Step.{Reaction, new_body, new_reply, give_answer, take_hello}
use Rattle.protocol.specs.Symbols.{fresh, hello_term, reply_term, by_key, key_seen, Variant, primitives}
use Rattle.protocol.proofs.Steps.{yes_same, by_guard, by_need}
use Rattle.protocol.proofs.Tables.{newest_bounded}
use Rattle.protocol.proofs.Rows.{Rows, rows_map, rows_append, rows_newest}
use Rattle.promise.specs.Run.{Log, Past}
use Rattle.promise.proofs.Events.{other_kind}
use Rattle.promise.proofs.Logs.{later, now_past, now_or_before, at_shorter}
use Rattle.promise.proofs.Released.{released, AnswerMade, Justified, Fair}
use Rattle.promise.proofs.Fair.{the_answer, the_called_end}
use Rattle.promise.proofs.Shapes.{fresh_time}
use Rattle.promise.proofs.Sound.{AnswerRow, Seat, Sound, key_is, answer_row_grows, grow_calls, grow_ended, Fits, spoken}

-- what a side signs with its own key
pub signed_by : (v : Variant) {preferences : List (List ℕ)} {n : ℕ} {s : Side Term} → Seat preferences n s → (m : Term) → (primitives v).sign s.own m ≡ Sign (own s.me 0) m
unfolding by_key key_seen seen
signed_by v seat m = ap (λ x. (primitives v).sign x m) seat.own_key ∙ ap (λ x. Sign (own x 0) m) (sym seat.me)

pub common_is : (v : Variant) (k : Key) (e : Term) → (primitives v).common (Secret k) e ≡ rise k e
unfolding by_key key_seen seen
common_is v k e = refl

-- an answer with a nonce of this moment was not ended before
new_unended : {v : Variant} {log : Log} → Fair v log → (r : Reply Term) → r.body.nonce ≡ Fresh (length log) 0 → (f : Finished Term) → Past log (called_ended f) → f.reply ≡ r → ⊥
new_unended {log} fair r n f p e =
    let j = the_called_end fair f p in
    let a = later p.place j.answering in
    let t = fresh_time (length a.below) (length log) 0 0 (sym (the_answer fair j.answer a).nonce ∙ ap (λ (x : Reply Term). x.body.nonce) (j.reply ∙ e) ∙ n) in
    let s = at_shorter a.place in
    omega arith

module _ {v : Variant} {preferences : List (List ℕ)} {log : Log} {n : ℕ} {s : Side Term} (fair : Fair v log) (sound : Sound preferences log n s) (h : Hello Term) (their : Term) (c : ℕ) (for-me : h.called ≡ s.me) (found : nth s.keys h.caller ≡ Some their) (chosen : choose s.preferences h.offer ≡ Some c) (public : Ok (released v log) (hello_term h)) where
  abbrev body : Body Term
  body = new_body (primitives v) h c (fresh (length log))

  abbrev reply : Reply Term
  reply = new_reply (primitives v) s.own body

  abbrev event : Answered Term
  event = record { me = s.me; their = their; preferences = s.preferences; reply = reply; secret = Fresh (length log) 1 }

  abbrev entry : Entry Term
  entry = record { what = answered event; words = reply_term reply ∷ [] }

  justified : AnswerMade v event (reply_term reply ∷ []) log
  unfolding by_key key_seen seen rise insert
  justified = record {
    me = for-me;
    their = key_is sound.seat h.caller their found;
    nonce = refl;
    secret = refl;
    seal = refl;
    box = refl;
    signature = signed_by v sound.seat (v.body body);
    best = chosen;
    public = public;
    sent = refl;
  }

  abbrev row : Answer Term
  row = record { reply = reply; secret = Fresh (length log) 1; their = their }

  -- the session isn't ended yet
  unended : (f : Finished Term) → Past (entry ∷ log) (called_ended f) → f.reply ≡ reply → ⊥
  unended f p e = either (now_or_before p)
    where
      either : ((answered event ≡ called_ended f) × (p.below ≡ log)) ⊎ ((q : Past log (called_ended f)) × (q.below ≡ p.below)) → ⊥
      either (inl x) = other_kind (answered event) (called_ended f) x.0 refl
      either (inr x) = new_unended fair reply refl f x.0 e

  new_row : AnswerRow (entry ∷ log) n row (length log)
  new_row = record { answer = event; answering = now_past entry log; time = refl; who = sound.seat.me; reply = refl; secret = refl; their = refl; unended = unended }

  grown : Rows (AnswerRow (entry ∷ log) n) (length log) 0 s.answers
  grown = rows_map (AnswerRow (entry ∷ log) n) (λ x t m r. answer_row_grows entry log n x t r (λ f e g. other_kind (answered event) (called_ended f) e refl)) sound.answers

  answer_fits : Fits v preferences log n (give_answer (primitives v) s h (fresh (length log)) their c)
  unfolding Justified
  answer_fits =
      spoken entry refl justified (record { caller = λ f e. absurd (other_kind (answered event) (caller_ended f) e refl); called = λ f e. absurd (other_kind (answered event) (called_ended f) e refl) })
      (record {
        seat = record { me = sound.seat.me; own_key = sound.seat.own_key; keys = sound.seat.keys; proper_list = sound.seat.proper_list; wishes = sound.seat.wishes };
        calls = grow_calls entry log n s.calls (λ f e x t m w g. other_kind (answered event) (caller_ended f) e refl) sound.calls;
        answers = rows_newest most_answers (s.answers ++ row ∷ []) (rows_append row new_row grown);
        ended = grow_ended entry log n s.ended sound.ended;
        few_calls = sound.few_calls;
        few_answers = newest_bounded most_answers (s.answers ++ row ∷ []);
        few_ended = sound.few_ended;
      })

pub hello_fits : {v : Variant} {preferences : List (List ℕ)} {log : Log} {n : ℕ} {s : Side Term} → Fair v log → Sound preferences log n s → (h : Hello Term) → Ok (released v log) (hello_term h) → (r : Reaction Term) → take_hello (primitives v) s h (fresh (length log)) ≡ Yes r → Fits v preferences log n r
unfolding take_hello
hello_fits {v} {preferences} {log} {n} {s} fair sound h heard r e =
    let a = by_guard wrong_side (eqb h.called s.me) _ r e in
    let b = by_need wrong_side (nth s.keys h.caller) _ r a.1 in
    let c = by_need nothing_in_common (choose s.preferences h.offer) _ r b.2 in
    let d = by_guard common_one (not (same ((primitives v).common (Secret (made (length log) 2)) h.half) v.one)) _ r c.2 in
    subst (λ z. Fits v preferences log n z) (yes_same (give_answer (primitives v) s h (fresh (length log)) b.0 c.0) r d.1)
    (answer_fits fair sound h b.0 c.0 (eqb-true h.called s.me a.0) b.1 c.1 heard)
