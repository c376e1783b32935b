-- A call fits the log. Assumes nothing.
use Rattle.std.proofs.Common.{◌≡◌, ℕ, ◌⊎◌, List, [], ◌∷◌, ◌++◌, length, Some, sym, refl, ap, ◌∙◌, subst, inl, inr, arith}
use Rattle.words.specs.Numbers.{wrong_side}
use Rattle.symbolic.specs.Key.{Key, made, insert}
use Rattle.symbolic.specs.Term.{Term, Secret, seen, rise}
use Rattle.protocol.specs.Lists.{nth}
use Rattle.protocol.specs.Got.{Yes}
use Rattle.protocol.specs.Words.{Hello}
use Rattle.protocol.specs.Side.{Call, Side, most_calls}
use Rattle.protocol.specs.Event.{Begun, Finished, begun, caller_ended, called_ended, Entry}
use Rattle.protocol.specs.Step.{Reaction, new_hello, begin_call, call}
use Rattle.protocol.specs.Symbols.{fresh, hello_term, by_key, key_seen, Variant, primitives}
use Rattle.protocol.proofs.Steps.{yes_same, by_need}
use Rattle.protocol.proofs.Tables.{newest_bounded}
use Rattle.protocol.proofs.Rows.{Rows, rows_map, rows_append, rows_newest}
use Rattle.promise.specs.Run.{Log, Past}
use Rattle.promise.specs.Session.{hello_of}
use Rattle.promise.proofs.Events.{other_kind}
use Rattle.promise.proofs.Logs.{later, now_past, now_or_before, at_shorter}
use Rattle.promise.proofs.Released.{CallMade, half_of, Justified, Fair}
use Rattle.promise.proofs.Fair.{the_call, the_caller_end}
use Rattle.promise.proofs.Shapes.{fresh_time}
use Rattle.promise.proofs.Sound.{CallRow, Sound, key_is, call_row_grows, grow_answers, grow_ended, Fits, spoken}

-- a call with a nonce of this moment was not ended before
pub new_unended : {v : Variant} {log : Log} → Fair v log → (h : Hello Term) → h.nonce ≡ (fresh (length log)).value 0 → (f : Finished Term) → Past log (caller_ended f) → hello_of f.reply ≡ h → ⊥
new_unended {log} fair h n f p e =
    let j = the_caller_end fair f p in
    let b = later p.place j.calling in
    let t = fresh_time (length b.below) (length log) 0 0 (sym (the_call fair j.call b).nonce ∙ ap (λ (x : Hello Term). x.nonce) (j.hello ∙ e) ∙ n) in
    let s = at_shorter b.place in
    omega arith

-- the half of a drawn key
pub half_is : (v : Variant) (k : Key) → (primitives v).half (Secret k) ≡ half_of k
unfolding by_key key_seen seen rise insert
half_is v k = refl

module _ {v : Variant} {preferences : List (List ℕ)} {log : Log} {n : ℕ} {s : Side Term} (fair : Fair v log) (sound : Sound preferences log n s) (peer : ℕ) (their : Term) (found : nth s.keys peer ≡ Some their) where
  abbrev hello : Hello Term
  hello = new_hello (primitives v) s peer (fresh (length log))

  abbrev event : Begun Term
  event = record { me = s.me; their = their; hello = hello; secret = Secret (made (length log) 1) }

  abbrev entry : Entry Term
  entry = record { what = begun event; words = hello_term hello ∷ [] }

  justified : CallMade event (hello_term hello ∷ []) log
  justified = record { caller = refl; nonce = refl; half = half_is v (made (length log) 1); secret = refl; their = key_is sound.seat peer their found; sent = refl }

  abbrev row : Call Term
  row = record { hello = hello; secret = Secret (made (length log) 1); their = their }

  -- the call isn't ended yet
  unended : (f : Finished Term) → Past (entry ∷ log) (caller_ended f) → hello_of f.reply ≡ hello → ⊥
  unended f p h = either (now_or_before p)
    where
      either : ((begun event ≡ caller_ended f) × (p.below ≡ log)) ⊎ ((q : Past log (caller_ended f)) × (q.below ≡ p.below)) → ⊥
      either (inl x) = other_kind (begun event) (caller_ended f) x.0 refl
      either (inr x) = new_unended fair hello refl f x.0 h

  new_row : CallRow (entry ∷ log) n row (length log)
  new_row = record { call = event; calling = now_past entry log; time = refl; who = sound.seat.me; hello = refl; secret = refl; their = refl; unended = unended }

  grown : Rows (CallRow (entry ∷ log) n) (length log) 0 s.calls
  grown = rows_map (CallRow (entry ∷ log) n) (λ c t m r. call_row_grows entry log n c t r (λ f e h. other_kind (begun event) (caller_ended f) e refl)) sound.calls

  begun_fits : Fits v preferences log n (begin_call (primitives v) s peer (fresh (length log)) their)
  unfolding Justified
  begun_fits =
      spoken entry refl justified (record { caller = λ f e. absurd (other_kind (begun event) (caller_ended f) e refl); called = λ f e. absurd (other_kind (begun event) (called_ended f) e refl) })
      (record {
        seat = record { me = sound.seat.me; own_key = sound.seat.own_key; keys = sound.seat.keys; proper_list = sound.seat.proper_list; wishes = sound.seat.wishes };
        calls = rows_newest most_calls (s.calls ++ row ∷ []) (rows_append row new_row grown);
        answers = grow_answers entry log n s.answers (λ f e x t m w h. other_kind (begun event) (called_ended f) e refl) sound.answers;
        ended = grow_ended entry log n s.ended sound.ended;
        few_calls = newest_bounded most_calls (s.calls ++ row ∷ []);
        few_answers = sound.few_answers;
        few_ended = sound.few_ended;
      })

pub call_fits : {v : Variant} {preferences : List (List ℕ)} {log : Log} {n : ℕ} {s : Side Term} → Fair v log → Sound preferences log n s → (peer : ℕ) (r : Reaction Term) → call (primitives v) s peer (fresh (length log)) ≡ Yes r → Fits v preferences log n r
unfolding call
call_fits {v} {preferences} {log} {n} {s} fair sound peer r e =
    let x = by_need wrong_side (nth s.keys peer) _ r e in
    subst (λ z. Fits v preferences log n z) (yes_same (begin_call (primitives v) s peer (fresh (length log)) x.0) r x.2) (begun_fits fair sound peer x.0 x.1)
