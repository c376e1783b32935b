-- Every world that the network can reach is good: its log is fair, and its sides are sound. Assumes nothing.
use Rattle.std.proofs.Common.{◌≡◌, ℕ, zero, suc, ◌+◌, Bool, true, false, cond, eqb, ◌⊎◌, List, [], ◌∷◌, ◌++◌, map, length, Some, None, Option, sym, refl, ap, ◌∙◌, subst, inl, inr, arith}
use mathlib.Core.List.Memᴰ
use mathlib.Core.List.{Memᴰ}
use Rattle.std.proofs.lemmas.Bool.{eqb-true, and_parts}
use Rattle.words.specs.Choice.{proper}
use Rattle.symbolic.specs.Key.{own, made}
use Rattle.symbolic.specs.Term.{Term, Fresh, Secret, Public, seen}
use Rattle.symbolic.specs.Derivable.{Gets}
use Rattle.symbolic.proofs.Public.{Ok, ok_untag}
use Rattle.protocol.specs.Lists.{nth, put}
use Rattle.protocol.specs.Got.{Got, No, Yes, bind}
use Rattle.protocol.specs.Words.{Word, a_hello, a_reply, an_end}
use Rattle.protocol.specs.Side.{Call, Answer, Side, private_keys}
use Rattle.protocol.specs.Event.{Finished, Theft, Told, Held, held, Event, caller_ended, called_ended, stolen, taken, told, drew, Entry, heard}
use Rattle.protocol.specs.Step.{Reaction, call, refuse}
use Rattle.protocol.specs.World as world
use Rattle.protocol.specs.World.{rules, World, Command, handle, settled, ordered, acted, entry_at, told_by, revealed, robbed, play}
use Rattle.protocol.specs.Symbols.{symbols, fresh, word_term, new_keys, new_side, new_sides, start, by_key, key_seen, Variant, primitives}
use Rattle.protocol.proofs.Steps.{none_some, some_same, by_bind}
use Rattle.protocol.proofs.Reading.{read_is}
use Rattle.protocol.proofs.Tables.{put_nth, length_put}
use Rattle.protocol.proofs.Rows.{Rows, rows_of}
use Rattle.protocol.proofs.Rows as rows
use Rattle.promise.specs.Run.{Log, At, here, there, Allowed, all_proper, Reach, begin, more}
use Rattle.promise.specs.Session.{hello_of}
use Rattle.promise.proofs.Variants.{Laws}
use Rattle.promise.proofs.Events.{kind, other_kind}
use Rattle.promise.proofs.Released.{released, OpenCall, Justified, Fair}
use Rattle.promise.proofs.Fair.{the_call, the_answer, derivable_public}
use Rattle.promise.proofs.Sound.{CallRow, AnswerRow, Seat, Sound, grow_calls, grow_answers, grow_ended, OfSide, Fits, quiet, spoken}
use Rattle.promise.proofs.Calls.{call_fits}
use Rattle.promise.proofs.Hellos.{hello_fits}
use Rattle.promise.proofs.Replies.{reply_fits}
use Rattle.promise.proofs.Ends.{end_taken_fits}

pub record Good (v : Variant) (preferences : List (List ℕ)) (w : World Term) : Type 0 where
  pub fair : Fair v w.log
  pub count : length w.sides ≡ length preferences
  pub sound : (n : ℕ) (s : Side Term) → nth w.sides n ≡ Some s → Sound preferences w.log n s

-- a fair log with one more justified entry is fair
fair_more : {v : Variant} (e : Entry Term) (log : Log) → Fair v log → Justified v e.what e.words log → Fair v (e ∷ log)
fair_more {v} e log fair j = record { each = go }
  where
    go : (x : Entry Term) (below : Log) → At x below (e ∷ log) → Justified v x.what x.words below
    go x below (here f g) = subst (λ l. Justified v x.what x.words l) (sym g) (subst (λ y. Justified v y.what y.words log) (sym f) j)
    go x below (there a) = fair.each x below a

-- the tables of a side whose sessions this event doesn't end
sound_more : {preferences : List (List ℕ)} {log : Log} {n : ℕ} {s : Side Term} (e : Entry Term) → ((f : Finished Term) → e.what ≡ caller_ended f → (c : Call Term) (t : ℕ) → CallRow log n c t → hello_of f.reply ≡ c.hello → ⊥) → ((f : Finished Term) → e.what ≡ called_ended f → (x : Answer Term) (t : ℕ) → AnswerRow log n x t → f.reply ≡ x.reply → ⊥) → Sound preferences log n s → Sound preferences (e ∷ log) n s
sound_more {log = log} {n = n} {s = s} e p q sound = record {
  seat = sound.seat;
  calls = grow_calls e log n s.calls (λ f g c t m r h. p f g c t r h) sound.calls;
  answers = grow_answers e log n s.answers (λ f g x t m r h. q f g x t r h) sound.answers;
  ended = grow_ended e log n s.ended sound.ended;
  few_calls = sound.few_calls;
  few_answers = sound.few_answers;
  few_ended = sound.few_ended;
}

-- another side's tables stay right
sound_other : {v : Variant} {preferences : List (List ℕ)} {log : Log} {n m : ℕ} {s : Side Term} → Fair v log → (e : Entry Term) → OfSide e.what n → (m ≡ n → ⊥) → Sound preferences log m s → Sound preferences (e ∷ log) m s
sound_other {log = log} {n = n} {m = m} fair e of-side other sound =
    sound_more e
    (λ f g c t r h. other (sym r.who ∙ sym (the_call fair r.call r.calling).caller ∙ ap (λ (x : _). x.caller) (r.hello ∙ sym h) ∙ of-side.caller f g))
    (λ f g x t r h. other (sym r.who ∙ sym (the_answer fair r.answer r.answering).me ∙ ap (λ (y : _). (hello_of y).called) (r.reply ∙ sym h) ∙ of-side.called f g))
    sound

-- an event that ends nothing
record NoEnd (what : Event Term) : Type 0 where
  no_caller : (f : Finished Term) → what ≡ caller_ended f → ⊥
  no_called : (f : Finished Term) → what ≡ called_ended f → ⊥

sound_still : {preferences : List (List ℕ)} {log : Log} {n : ℕ} {s : Side Term} (e : Entry Term) → NoEnd e.what → Sound preferences log n s → Sound preferences (e ∷ log) n s
sound_still e none sound = sound_more e (λ f g c t r h. none.no_caller f g) (λ f g x t r h. none.no_called f g) sound

-- the world after a side acted in a way that fits
acted_good : {v : Variant} {preferences : List (List ℕ)} {w : World Term} → Good v preferences w → (n : ℕ) (o : Option (Side Term)) → nth w.sides n ≡ o → (f : Side Term → Reaction Term) → ((s : Side Term) → o ≡ Some s → Fits v preferences w.log n (f s)) → Good v preferences (acted w n o f)
unfolding acted
acted_good good n None e f fits = good
acted_good {v} {preferences} {w} good n (Some s) e f fits = go (fits s refl)
  where
    go : Fits v preferences w.log n (f s) → Good v preferences (record { sides = put w.sides n (f s).side; log = (f s).entries ++ w.log })
    go (quiet g sound) = subst (λ es. Good v preferences (record { sides = put w.sides n (f s).side; log = es ++ w.log })) (sym g) (record { fair = good.fair; count = length_put w.sides n (f s).side ∙ good.count; sound = λ m z h. each m z (put_nth w.sides n m (f s).side z h) })
      where
        each : (m : ℕ) (z : Side Term) → ((m ≡ n) × (z ≡ (f s).side)) ⊎ ((m ≡ n → ⊥) × (nth w.sides m ≡ Some z)) → Sound preferences w.log m z
        each m z (inl p) = subst (λ k. Sound preferences w.log k z) (sym p.0) (subst (λ y. Sound preferences w.log n y) (sym p.1) sound)
        each m z (inr p) = good.sound m z p.1
    go (spoken x g j of-side sound) = subst (λ es. Good v preferences (record { sides = put w.sides n (f s).side; log = es ++ w.log })) (sym g) (record { fair = fair_more x w.log good.fair j; count = length_put w.sides n (f s).side ∙ good.count; sound = λ m z h. each m z (put_nth w.sides n m (f s).side z h) })
      where
        each : (m : ℕ) (z : Side Term) → ((m ≡ n) × (z ≡ (f s).side)) ⊎ ((m ≡ n → ⊥) × (nth w.sides m ≡ Some z)) → Sound preferences (x ∷ w.log) m z
        each m z (inl p) = subst (λ k. Sound preferences (x ∷ w.log) k z) (sym p.0) (subst (λ y. Sound preferences (x ∷ w.log) n y) (sym p.1) sound)
        each m z (inr p) = sound_other good.fair x of-side p.0 (good.sound m z p.1)

-- a refused word, and a refused order
refuse_fits : {v : Variant} {preferences : List (List ℕ)} {log : Log} {n : ℕ} {s : Side Term} → Sound preferences log n s → (k : ℕ) → Fits v preferences log n (refuse (primitives v) s k)
refuse_fits sound k = quiet refl (record { seat = record { me = sound.seat.me; own_key = sound.seat.own_key; keys = sound.seat.keys; proper_list = sound.seat.proper_list; wishes = sound.seat.wishes }; calls = sound.calls; answers = sound.answers; ended = sound.ended; few_calls = sound.few_calls; few_answers = sound.few_answers; few_ended = sound.few_ended })

ordered_fits : {v : Variant} {preferences : List (List ℕ)} {log : Log} {n : ℕ} {s : Side Term} → Sound preferences log n s → (g : Got (Reaction Term)) → ((r : Reaction Term) → g ≡ Yes r → Fits v preferences log n r) → Fits v preferences log n (ordered s g)
unfolding ordered
ordered_fits sound (No k) f = quiet refl sound
ordered_fits sound (Yes r) f = f r refl

settled_fits : {v : Variant} {preferences : List (List ℕ)} {log : Log} {n : ℕ} {s : Side Term} → Sound preferences log n s → (g : Got (Reaction Term)) → ((r : Reaction Term) → g ≡ Yes r → Fits v preferences log n r) → Fits v preferences log n (settled (rules (primitives v)) s g)
unfolding settled
settled_fits sound (No k) f = refuse_fits sound k
settled_fits sound (Yes r) f = f r refl

-- a word that can be derived is taken in a way that fits, or refused
handled_fits : {v : Variant} {preferences : List (List ℕ)} {log : Log} {n : ℕ} {s : Side Term} → Fair v log → Sound preferences log n s → (w : Word Term) → Ok (released v log) (word_term w) → (r : Reaction Term) → handle (rules (primitives v)) s (fresh (length log)) w ≡ Yes r → Fits v preferences log n r
unfolding handle
handled_fits fair sound (a_hello h) o r e = hello_fits fair sound h o r e
handled_fits fair sound (a_reply x) o r e = reply_fits fair sound x o r e
handled_fits fair sound (an_end x) o r e = end_taken_fits fair sound x (ok_untag o) r e

deliver_fits : {v : Variant} → Laws v → {preferences : List (List ℕ)} {log : Log} {n : ℕ} {s : Side Term} → Fair v log → Sound preferences log n s → (t : Term) → Gets (heard log) t → Fits v preferences log n (settled (rules (primitives v)) s (bind (symbols.read t) (handle (rules (primitives v)) s (fresh (length log)))))
deliver_fits {v} laws {preferences} {log} {n} {s} fair sound t g = settled_fits sound (bind (symbols.read t) (handle (rules (primitives v)) s (fresh (length log)))) taken_in
  where
    taken_in : (r : Reaction Term) → bind (symbols.read t) (handle (rules (primitives v)) s (fresh (length log))) ≡ Yes r → Fits v preferences log n r
    taken_in r e =
        let b = by_bind (symbols.read t) (handle (rules (primitives v)) s (fresh (length log))) r e in
        handled_fits fair sound b.0 (subst (λ x. Ok (released v log) x) (read_is t b.0 b.1) (derivable_public laws fair g)) r b.2

-- an event of another kind ends nothing
ends_nothing : (what : Event Term) → ((f : Finished Term) → eqb (kind what) (kind (caller_ended f)) ≡ false) → ((f : Finished Term) → eqb (kind what) (kind (called_ended f)) ≡ false) → NoEnd what
ends_nothing what p q = record { no_caller = λ f e. other_kind what (caller_ended f) e (p f); no_called = λ f e. other_kind what (called_ended f) e (q f) }

no_end_of : {what : Event Term} (n : ℕ) → NoEnd what → OfSide what n
no_end_of n none = record { caller = λ f e. absurd (none.no_caller f e); called = λ f e. absurd (none.no_called f e) }

-- the half of a side's own key
own_half : (v : Variant) {preferences : List (List ℕ)} {n : ℕ} {s : Side Term} → Seat preferences n s → (primitives v).public s.own ≡ Public (own s.me 0)
unfolding by_key key_seen seen
own_half v seat = ap (λ x. (primitives v).public x) seat.own_key ∙ ap (λ x. Public (own x 0)) (sym seat.me)

own_secret : {preferences : List (List ℕ)} {n : ℕ} {s : Side Term} → Seat preferences n s → s.own ≡ Secret (own s.me 0)
own_secret seat = seat.own_key ∙ ap (λ x. Secret (own x 0)) (sym seat.me)

steal_fits : {v : Variant} {preferences : List (List ℕ)} {log : Log} {n : ℕ} {s : Side Term} → Sound preferences log n s → Fits v preferences log n (robbed (primitives v) stolen (λ s. s.own ∷ []) s)
unfolding Justified
steal_fits {v} {preferences} {log} {n} {s} sound =
    let theft : Theft Term = record { who = s.me; key = (primitives v).public s.own } in
    let e : Entry Term = record { what = stolen theft; words = s.own ∷ [] } in
    spoken e refl (record { key = own_half v sound.seat; sent = ap (λ x. x ∷ []) (own_secret sound.seat) }) (no_end_of n (ends_nothing (stolen theft) (λ f. refl) (λ f. refl))) (sound_still e (ends_nothing (stolen theft) (λ f. refl) (λ f. refl)) sound)

-- each of the private keys is the identity key, or the key of an open call
private_each : {preferences : List (List ℕ)} {log : Log} {n : ℕ} {s : Side Term} → Sound preferences log n s → (x : Term) → Memᴰ x (private_keys s) → (x ≡ Secret (own s.me 0)) ⊎ OpenCall s.me x log
private_each {preferences} {log} {n} {s} sound x m = go (Memᴰ.cases_cons m)
  where
    go : (x ≡ s.own) ⊎ Memᴰ x (map (λ (c : Call Term). c.secret) s.calls) → (x ≡ Secret (own s.me 0)) ⊎ OpenCall s.me x log
    go (inl e) = inl (e ∙ own_secret sound.seat)
    go (inr k) =
        let y = Memᴰ.of_map (λ (c : Call Term). c.secret) s.calls k in
        let r = (rows_of y.0 y.1 sound.calls).1 in
        inr (record { call = r.call; calling = r.calling; me = r.who ∙ sym sound.seat.me; same = r.secret ∙ y.2; unended = λ f p h. r.unended f p (h ∙ r.hello) })

take_fits : {v : Variant} {preferences : List (List ℕ)} {log : Log} {n : ℕ} {s : Side Term} → Sound preferences log n s → Fits v preferences log n (robbed (primitives v) taken private_keys s)
unfolding Justified
take_fits {v} {preferences} {log} {n} {s} sound =
    let theft : Theft Term = record { who = s.me; key = (primitives v).public s.own } in
    let e : Entry Term = record { what = taken theft; words = private_keys s } in
    spoken e refl (record { key = own_half v sound.seat; each = private_each sound }) (no_end_of n (ends_nothing (taken theft) (λ f. refl) (λ f. refl))) (sound_still e (ends_nothing (taken theft) (λ f. refl) (λ f. refl)) sound)

-- one more justified entry that ends nothing, and no side acts
noted_good : {v : Variant} {preferences : List (List ℕ)} {w : World Term} → Good v preferences w → (e : Entry Term) → Justified v e.what e.words w.log → NoEnd e.what → Good v preferences (record { sides = w.sides; log = e ∷ w.log })
noted_good {w = w} good e j none = record { fair = fair_more e w.log good.fair j; count = good.count; sound = λ n s h. sound_still e none (good.sound n s h) }

-- the entry at a place has as many before it
entry_found : (log : Log) (n : ℕ) (e : Entry Term) → entry_at log n ≡ Some e → (below : Log) × At e below log × (length below ≡ n)
unfolding entry_at
entry_found [] n e f = absurd (none_some e f)
entry_found (x ∷ log) n e f = go (eqb (length log) n) refl f (entry_found log n e)
  where
    go : (b : Bool) → eqb (length log) n ≡ b → cond b (Some x) (entry_at log n) ≡ Some e → (entry_at log n ≡ Some e → (below : Log) × At e below log × (length below ≡ n)) → (below : Log) × At e below (x ∷ log) × (length below ≡ n)
    go true g f rest = (log, here (sym (some_same x e f)) refl, eqb-true (length log) n g)
    go false g f rest = let r = rest f in (r.0, there r.1, r.2)

reveal_good : {v : Variant} {preferences : List (List ℕ)} {w : World Term} → Good v preferences w → (n : ℕ) (o : Option (Entry Term)) → entry_at w.log n ≡ o → Good v preferences (record { sides = w.sides; log = revealed n o ++ w.log })
unfolding revealed told_by Justified
reveal_good good n None e = record { fair = good.fair; count = good.count; sound = good.sound }
reveal_good {v} {preferences} {w} good n (Some x) e = go (held x.what) refl
  where
    go : (k : Option (Held Term)) → held x.what ≡ k → Good v preferences (record { sides = w.sides; log = told_by n k ++ w.log })
    go None f = record { fair = good.fair; count = good.count; sound = good.sound }
    go (Some k) f =
        let r = entry_found w.log n x e in
        let t : Told Term = record { who = k.who; place = n; secret = k.secret } in
        noted_good good (record { what = told t; words = k.secret ∷ [] }) (record { session = x.what; having = record { entry = x; below = r.0; place = r.1; is = refl }; holds = f; place = sym r.2; sent = refl }) (ends_nothing (told t) (λ f. refl) (λ f. refl))

draw_good : {v : Variant} {preferences : List (List ℕ)} {w : World Term} → Good v preferences w → Good v preferences (record { sides = w.sides; log = record { what = drew; words = Fresh (length w.log) 0 ∷ Secret (made (length w.log) 0) ∷ [] } ∷ w.log })
unfolding Justified
draw_good {w = w} good = noted_good good (record { what = drew; words = Fresh (length w.log) 0 ∷ Secret (made (length w.log) 0) ∷ [] }) refl (ends_nothing drew (λ f. refl) (λ f. refl))

-- the sides at the start
new_sides_are : (keys : List Term) (ps : List (List ℕ)) (m n : ℕ) (s : Side Term) → all_proper ps ≡ true → nth (new_sides keys m ps) n ≡ Some s → (p : List ℕ) × (s ≡ new_side keys (m + n) p) × (proper p ≡ true) × (nth ps n ≡ Some p)
unfolding nth new_sides all_proper
new_sides_are keys [] m n s a e = absurd (none_some s e)
new_sides_are keys (p ∷ ps) m zero s a e = let h : m ≡ m + 0 = omega arith in (p, sym (some_same (new_side keys m p) s e) ∙ ap (λ x. new_side keys x p) h, (and_parts (proper p) (all_proper ps) a).0, refl)
new_sides_are keys (p ∷ ps) m (suc n) s a e =
    let h : suc m + n ≡ m + suc n = omega arith in
    let r = new_sides_are keys ps (suc m) n s (and_parts (proper p) (all_proper ps) a).1 e in
    (r.0, r.1 ∙ ap (λ x. new_side keys x r.0) h, r.2, r.3)

length_sides : (keys : List Term) (ps : List (List ℕ)) (m : ℕ) → length (new_sides keys m ps) ≡ length ps
unfolding new_sides
length_sides keys [] m = refl
length_sides keys (p ∷ ps) m = ap suc (length_sides keys ps (suc m))

start_good : (v : Variant) (preferences : List (List ℕ)) → all_proper preferences ≡ true → Good v preferences (start preferences)
start_good v preferences a = record { fair = record { each = λ e below x. elim x [ ] }; count = length_sides (new_keys 0 preferences) preferences 0; sound = each }
  where
    side_sound : (n : ℕ) (p : List ℕ) → proper p ≡ true → nth preferences n ≡ Some p → Sound preferences [] n (new_side (new_keys 0 preferences) n p)
    side_sound n p q o = record { seat = record { me = refl; own_key = refl; keys = refl; proper_list = q; wishes = o }; calls = rows.none (omega arith); answers = rows.none (omega arith); ended = rows.none (omega arith); few_calls = omega arith; few_answers = omega arith; few_ended = omega arith }

    each : (n : ℕ) (s : Side Term) → nth (new_sides (new_keys 0 preferences) 0 preferences) n ≡ Some s → Sound preferences [] n s
    each n s e =
        let r = new_sides_are (new_keys 0 preferences) preferences 0 n s a e in
        let h : n ≡ 0 + n = omega arith in
        subst (λ x. Sound preferences [] n x) (ap (λ x. new_side (new_keys 0 preferences) x r.0) h ∙ sym r.1) (side_sound n r.0 r.2 r.3)

-- a command that the network may give leads from a good world to a good one
pub play_good : {v : Variant} → Laws v → {preferences : List (List ℕ)} {w : World Term} → Good v preferences w → (c : Command Term) → Allowed w c → Good v preferences (play symbols (rules (primitives v)) fresh w c)
unfolding play Allowed
play_good {v} laws {w = w} good (world.Call a b) x = acted_good good a (nth w.sides a) refl _ (λ s e. ordered_fits (good.sound a s e) (call (primitives v) s b (fresh (length w.log))) (λ r f. call_fits good.fair (good.sound a s e) b r f))
play_good {v} laws {w = w} good (world.Deliver a t) x = acted_good good a (nth w.sides a) refl _ (λ s e. deliver_fits laws good.fair (good.sound a s e) t x)
play_good {v} laws {w = w} good (world.Steal a) x = acted_good good a (nth w.sides a) refl _ (λ s e. steal_fits (good.sound a s e))
play_good {v} laws {w = w} good (world.Take a) x = acted_good good a (nth w.sides a) refl _ (λ s e. take_fits (good.sound a s e))
play_good {v} laws {w = w} good (world.Reveal n) x = reveal_good good n (entry_at w.log n) refl
play_good {v} laws {w = w} good world.Draw x = draw_good good

-- every world that can be reached is good
pub reached_good : {v : Variant} → Laws v → {preferences : List (List ℕ)} {w : World Term} → Reach (rules (primitives v)) preferences w → Good v preferences w
reached_good {v} laws {preferences} (begin a e) = subst (λ w. Good v preferences w) e (start_good v preferences a)
reached_good {v} laws {preferences} (more r c x e) = subst (λ w. Good v preferences w) e (play_good laws (reached_good laws r) c x)
