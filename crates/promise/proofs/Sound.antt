-- What holds of every side in every world that is reached: its tables have what the log has and has not ended. Assumes nothing.
use Rattle.std.proofs.Common.{◌≡◌, ℕ, zero, suc, ◌+◌, ◌≤◌, Bool, true, ◌⊎◌, List, [], ◌∷◌, ◌++◌, length, Some, sym, ap, ◌∙◌, inl, inr, arith}
use mathlib.Core.List.{Memᴰ}
use Rattle.words.specs.Choice.{proper}
use Rattle.symbolic.specs.Key.{own}
use Rattle.symbolic.specs.Term.{Term, Secret, Public}
use Rattle.protocol.specs.Lists.{nth, kept}
use Rattle.protocol.specs.Side.{Call, Answer, Session, Side, most_calls, most_answers, most_ended}
use Rattle.protocol.specs.Event.{Begun, Answered, Finished, Event, begun, answered, caller_ended, called_ended, Entry}
use Rattle.protocol.specs.Step.{Reaction}
use Rattle.protocol.specs.Symbols.{new_keys, Variant}
use Rattle.protocol.proofs.Steps.{none_some, some_same}
use Rattle.protocol.proofs.Rows.{Rows, rows_high, rows_map, rows_append, rows_newest}
use Rattle.promise.specs.Run.{Log, Past}
use Rattle.promise.specs.Session.{hello_of, ended_by, session_of}
use Rattle.promise.proofs.Logs.{next, now_or_before}
use Rattle.promise.proofs.Released.{Justified}

-- a row of the open calls: it has begun, and isn't ended
pub record CallRow (log : Log) (me : ℕ) (c : Call Term) (t : ℕ) : Type 0 where
  pub call : Begun Term
  pub calling : Past log (begun call)
  pub time : length calling.below ≡ t
  pub who : call.me ≡ me
  pub hello : call.hello ≡ c.hello
  pub secret : call.secret ≡ c.secret
  pub their : call.their ≡ c.their
  pub unended : (f : Finished Term) → Past log (caller_ended f) → hello_of f.reply ≡ c.hello → ⊥

-- a row of the answered sessions: it was answered, and isn't ended
pub record AnswerRow (log : Log) (me : ℕ) (x : Answer Term) (t : ℕ) : Type 0 where
  pub answer : Answered Term
  pub answering : Past log (answered answer)
  pub time : length answering.below ≡ t
  pub who : answer.me ≡ me
  pub reply : answer.reply ≡ x.reply
  pub secret : answer.secret ≡ x.secret
  pub their : answer.their ≡ x.their
  pub unended : (f : Finished Term) → Past log (called_ended f) → f.reply ≡ x.reply → ⊥

-- a row of the ended sessions: the event by which it was ended on this side
pub record EndedRow (log : Log) (me : ℕ) (x : Session Term) (t : ℕ) : Type 0 where
  pub end : Finished Term
  pub calling : Bool
  pub ending : Past log (ended_by calling end)
  pub time : length ending.below ≡ t
  pub who : end.me ≡ me
  pub session : x ≡ session_of calling end

-- the side at a place has that place's number and key, and knows the halves of all
pub record Seat (preferences : List (List ℕ)) (n : ℕ) (s : Side Term) : Type 0 where
  pub me : s.me ≡ n
  pub own_key : s.own ≡ Secret (own n 0)
  pub keys : s.keys ≡ new_keys 0 preferences
  pub proper_list : proper s.preferences ≡ true
  pub wishes : nth preferences n ≡ Some s.preferences

pub record Sound (preferences : List (List ℕ)) (log : Log) (n : ℕ) (s : Side Term) : Type 0 where
  pub seat : Seat preferences n s
  pub calls : Rows (CallRow log n) (length log) 0 s.calls
  pub answers : Rows (AnswerRow log n) (length log) 0 s.answers
  pub ended : Rows (EndedRow log n) (length log) 0 s.ended
  pub few_calls : length s.calls ≤ most_calls
  pub few_answers : length s.answers ≤ most_answers
  pub few_ended : length s.ended ≤ most_ended

new_keys_are : (ps : List (List ℕ)) (m b : ℕ) (k : Term) → nth (new_keys m ps) b ≡ Some k → k ≡ Public (own (m + b) 0)
unfolding nth new_keys
new_keys_are [] m b k e = absurd (none_some k e)
new_keys_are (p ∷ ps) m zero k e = let h : m ≡ m + 0 = omega arith in sym (some_same (Public (own m 0)) k e) ∙ ap (λ x. Public (own x 0)) h
new_keys_are (p ∷ ps) m (suc b) k e = let h : suc m + b ≡ m + suc b = omega arith in new_keys_are ps (suc m) b k e ∙ ap (λ x. Public (own x 0)) h

new_keys_there : (ps : List (List ℕ)) (m b : ℕ) (p : List ℕ) → nth ps b ≡ Some p → nth (new_keys m ps) b ≡ Some (Public (own (m + b) 0))
unfolding nth new_keys
new_keys_there [] m b p e = absurd (none_some p e)
new_keys_there (q ∷ ps) m zero p e = let h : m ≡ m + 0 = omega arith in ap (λ x. Some (Public (own x 0))) h
new_keys_there (q ∷ ps) m (suc b) p e = let h : suc m + b ≡ m + suc b = omega arith in new_keys_there ps (suc m) b p e ∙ ap (λ x. Some (Public (own x 0))) h

-- the half of a side that is there is found
pub key_there : {preferences : List (List ℕ)} {n : ℕ} {s : Side Term} → Seat preferences n s → (b : ℕ) (p : List ℕ) → nth preferences b ≡ Some p → nth s.keys b ≡ Some (Public (own b 0))
key_there {preferences} seat b p e = let h : 0 + b ≡ b = omega arith in ap (λ l. nth l b) seat.keys ∙ new_keys_there preferences 0 b p e ∙ ap (λ x. Some (Public (own x 0))) h

-- the half that is looked up for a side is that side's
pub key_is : {preferences : List (List ℕ)} {n : ℕ} {s : Side Term} → Seat preferences n s → (b : ℕ) (k : Term) → nth s.keys b ≡ Some k → k ≡ Public (own b 0)
key_is {preferences} seat b k e = let h : 0 + b ≡ b = omega arith in new_keys_are preferences 0 b k (ap (λ l. nth l b) (sym seat.keys) ∙ e) ∙ ap (λ x. Public (own x 0)) h

-- a row stays right when something happens that doesn't end it
pub call_row_grows : (e : Entry Term) (log : Log) (n : ℕ) (c : Call Term) (t : ℕ) → CallRow log n c t → ((f : Finished Term) → e.what ≡ caller_ended f → hello_of f.reply ≡ c.hello → ⊥) → CallRow (e ∷ log) n c t
call_row_grows e log n c t r apart = record { call = r.call; calling = next e r.calling; time = r.time; who = r.who; hello = r.hello; secret = r.secret; their = r.their; unended = λ f p h. either f h (now_or_before p) }
  where
    either : (f : Finished Term) → hello_of f.reply ≡ c.hello → {below : Log} → ((e.what ≡ caller_ended f) × (below ≡ log)) ⊎ ((q : Past log (caller_ended f)) × (q.below ≡ below)) → ⊥
    either f h (inl x) = apart f x.0 h
    either f h (inr x) = r.unended f x.0 h

pub answer_row_grows : (e : Entry Term) (log : Log) (n : ℕ) (x : Answer Term) (t : ℕ) → AnswerRow log n x t → ((f : Finished Term) → e.what ≡ called_ended f → f.reply ≡ x.reply → ⊥) → AnswerRow (e ∷ log) n x t
answer_row_grows e log n x t r apart = record { answer = r.answer; answering = next e r.answering; time = r.time; who = r.who; reply = r.reply; secret = r.secret; their = r.their; unended = λ f p h. either f h (now_or_before p) }
  where
    either : (f : Finished Term) → f.reply ≡ x.reply → {below : Log} → ((e.what ≡ called_ended f) × (below ≡ log)) ⊎ ((q : Past log (called_ended f)) × (q.below ≡ below)) → ⊥
    either f h (inl y) = apart f y.0 h
    either f h (inr y) = r.unended f y.0 h

-- tables stay right when something happens that doesn't end a row
pub grow_calls : (e : Entry Term) (log : Log) (n : ℕ) (cs : List (Call Term)) → ((f : Finished Term) → e.what ≡ caller_ended f → (c : Call Term) (t : ℕ) → Memᴰ c cs → CallRow log n c t → hello_of f.reply ≡ c.hello → ⊥) → Rows (CallRow log n) (length log) 0 cs → Rows (CallRow (e ∷ log) n) (length (e ∷ log)) 0 cs
grow_calls e log n cs apart rows = rows_high (suc (length log)) (omega arith) (rows_map (CallRow (e ∷ log) n) (λ c t m r. call_row_grows e log n c t r (λ f q h. apart f q c t m r h)) rows)

pub grow_answers : (e : Entry Term) (log : Log) (n : ℕ) (xs : List (Answer Term)) → ((f : Finished Term) → e.what ≡ called_ended f → (x : Answer Term) (t : ℕ) → Memᴰ x xs → AnswerRow log n x t → f.reply ≡ x.reply → ⊥) → Rows (AnswerRow log n) (length log) 0 xs → Rows (AnswerRow (e ∷ log) n) (length (e ∷ log)) 0 xs
grow_answers e log n xs apart rows = rows_high (suc (length log)) (omega arith) (rows_map (AnswerRow (e ∷ log) n) (λ x t m r. answer_row_grows e log n x t r (λ f q h. apart f q x t m r h)) rows)

pub ended_row_grows : (e : Entry Term) (log : Log) (n : ℕ) (x : Session Term) (t : ℕ) → EndedRow log n x t → EndedRow (e ∷ log) n x t
ended_row_grows e log n x t r = record { end = r.end; calling = r.calling; ending = next e r.ending; time = r.time; who = r.who; session = r.session }

pub grow_ended : (e : Entry Term) (log : Log) (n : ℕ) (xs : List (Session Term)) → Rows (EndedRow log n) (length log) 0 xs → Rows (EndedRow (e ∷ log) n) (length (e ∷ log)) 0 xs
grow_ended e log n xs rows = rows_high (suc (length log)) (omega arith) (rows_map (EndedRow (e ∷ log) n) (λ x t m r. ended_row_grows e log n x t r) rows)

-- a session that is ended now, in the table
pub end_now : (e : Entry Term) (log : Log) (n : ℕ) (xs : List (Session Term)) (x : Session Term) → EndedRow (e ∷ log) n x (length log) → Rows (EndedRow log n) (length log) 0 xs → Rows (EndedRow (e ∷ log) n) (length (e ∷ log)) 0 (kept most_ended xs x)
end_now e log n xs x row rows = rows_newest most_ended (xs ++ x ∷ []) (rows_append x row (rows_map (EndedRow (e ∷ log) n) (λ y t m r. ended_row_grows e log n y t r) rows))

-- an event ends only sessions of the side that it is of
pub record OfSide (what : Event Term) (n : ℕ) : Type 0 where
  pub caller : (f : Finished Term) → what ≡ caller_ended f → (hello_of f.reply).caller ≡ n
  pub called : (f : Finished Term) → what ≡ called_ended f → (hello_of f.reply).called ≡ n

-- what a side did fits the log: it did nothing that is told, or one thing that is justified
pub data Fits (v : Variant) (preferences : List (List ℕ)) (log : Log) (n : ℕ) (r : Reaction Term) : Type 0 where
  quiet : r.entries ≡ [] → Sound preferences log n r.side → Fits v preferences log n r
  spoken : (e : Entry Term) → r.entries ≡ e ∷ [] → Justified v e.what e.words log → OfSide e.what n → Sound preferences (e ∷ log) n r.side → Fits v preferences log n r
