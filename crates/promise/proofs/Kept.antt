-- The promise of a good world, but for the undisturbed session. Assumes nothing.
use Rattle.std.proofs.Common.{◌≡◌, ℕ, ◌-◌, ◌<◌, true, ◌⊎◌, List, [], ◌∷◌, ◌++◌, length, drop, sym, ap, ◌∙◌, subst, inl, inr, arith, length-append}
use mathlib.Core.List.{Memᴰ}
use Rattle.words.specs.Choice.{holds}
use Rattle.symbolic.specs.Term.{Term}
use Rattle.symbolic.specs.Derivable.{Gets}
use Rattle.protocol.specs.Lists.{put, newest}
use Rattle.protocol.specs.Got.{bind}
use Rattle.protocol.specs.Words.{Hello, Reply}
use Rattle.protocol.specs.Side.{Call, Answer, Session, Side, most_calls, most_answers, most_ended, counted}
use Rattle.protocol.specs.Event.{Begun, Answered, Finished, Event, begun, answered, caller_ended, heard}
use Rattle.protocol.specs.World as world
use Rattle.protocol.specs.World.{rules, World, handle, settled, acted, play}
use Rattle.protocol.specs.Symbols.{symbols, fresh, Variant, primitives}
use Rattle.protocol.proofs.Rows.{Rows, rows_pair}
use Rattle.promise.specs.Run.{At, Past, safe, untaken}
use Rattle.promise.specs.Session as session
use Rattle.promise.specs.Session.{hello_of, EndedBefore, SameSession, Sure, GivenAway, TakenWhileOpen, Out}
use Rattle.promise.specs.Promise.{RightKeys, CallerHasPartner, CalledHasPartner, OneEach, EndsByItsWords, Unshared, SecretKept, CalledSecretKept, OnlyGivenAway, NobodyElseHasIt, ChoiceOffered, RefusalIsSilent, InOrder, OldestGoes, TablesHoldTheNewest}
use Rattle.promise.proofs.Variants.{Laws}
use Rattle.promise.proofs.Events.{caller_same}
use Rattle.promise.proofs.Logs.{later, none_taken, at_split}
use Rattle.promise.proofs.Released.{Fair}
use Rattle.promise.proofs.Fair as fair
use Rattle.promise.proofs.Fair.{the_call, the_answer, the_caller_end, the_called_end, Holder, holder, past_is}
use Rattle.promise.proofs.Partners.{one_place, one_below, one_answer, answer_time, reply_time, call_time, caller_once, called_once, joined, has_answerer, has_caller, same_body}
use Rattle.promise.proofs.Secrecy.{derived_out, shared_out, sure_answer}
use Rattle.promise.proofs.Sound.{Sound}
use Rattle.promise.proofs.Reached.{Good}

-- what goes for a new one is the oldest
pub oldest_goes : {X : Type 0} (n : ℕ) → OldestGoes X n
unfolding newest
oldest_goes n = record {
  room = λ xs x h. let k : length (xs ++ x ∷ []) - n ≡ 0 = simp length-append (omega arith) in ap (λ m. drop m (xs ++ x ∷ [])) k;
  full = λ xs x h. let k : length (xs ++ x ∷ []) - n ≡ 1 = simp length-append (omega arith) in ap (λ m. drop m (xs ++ x ∷ [])) k;
}

module _ {v : Variant} (laws : Laws v) {preferences : List (List ℕ)} {w : World Term} (good : Good v preferences w) where
  abbrev just : Fair v w.log
  just = good.fair

  pub right_keys : RightKeys w
  right_keys = record { of_called = λ c p. (the_caller_end just c p).their; of_caller = λ f p. (the_called_end just f p).their }

  pub caller_partner : CallerHasPartner w
  caller_partner c p s = has_answerer laws just c p s

  pub called_partner : CalledHasPartner w
  called_partner f p s = has_caller laws just f p s

  -- two sure callers with one secret have one partner, so one reply and one hello
  sure_callers : (c d : Finished Term) (p : Past w.log (caller_ended c)) (q : Past w.log (caller_ended d)) → safe c.their p.below ≡ true → safe d.their q.below ≡ true → c.secret ≡ d.secret → p.below ≡ q.below
  sure_callers c d p q s t e =
      let x = has_answerer laws just c p s in
      let y = has_answerer laws just d q t in
      let u = later p.place x.answering in
      let v = later q.place y.answering in
      let n = answer_time just x.answer y.answer u v (x.same.secret ∙ e ∙ sym y.same.secret) in
      let a = one_answer x.answer y.answer u v n in
      caller_once just c d p q (ap hello_of (sym x.same.reply ∙ ap (λ (z : Answered Term). z.reply) a ∙ y.same.reply))

  pub one_each : OneEach w
  one_each = record {
    answers = λ a b p q e. one_below p q (answer_time just a b p q e);
    callers = sure_callers;
    one_caller = λ a r c d p q x y. caller_once just c d p q (ap hello_of (sym x.reply ∙ y.reply));
    one_answer = λ c r a b p q x y. one_below p q (reply_time just a b p q (x.reply ∙ sym y.reply));
    caller_once = λ c d p q e. caller_once just c d p q e;
    called_once = λ f g p q e. called_once just f g p q e;
  }

  pub by_its_words : EndsByItsWords w
  by_its_words c d p q e = same_body just c d p q e

  pub unshared : Unshared w
  unshared c p s d q e = let a = sure_answer laws just c p s in shared_out just c p a.0 a.1 a.2 d q e

  pub secret_kept : SecretKept w
  secret_kept c p s g = let a = sure_answer laws just c p s in derived_out just c p a.0 a.1 a.2 laws g

  pub called_secret_kept : CalledSecretKept w
  called_secret_kept f p s g =
      let x = has_caller laws just f p s in
      let ending = later p.place x.ending in
      record { caller = x.ended; ending = ending; reply = x.reply; out = secret_kept x.ended ending (session.by_called f p s (sym x.reply)) (subst (λ t. Gets (heard w.log) t) (sym x.secret) g) }

  -- where nobody's private keys were taken, a secret that came out was given away
  given : untaken w.log ≡ true → (c : Finished Term) (p : Past w.log (caller_ended c)) → Out w.log c p → GivenAway w.log c p
  given n c p (session.given_away x) = x
  given n c p (session.taken_open x) = absurd (none_taken w.log n x.theft (later p.place x.taking))

  pub only_given_away : OnlyGivenAway w
  only_given_away = record { kept = λ n c p s g. given n c p (secret_kept c p s g); unshared = λ n c p s d q e. either n c p (unshared c p s d q e) }
    where
      either : untaken w.log ≡ true → (c : Finished Term) (p : Past w.log (caller_ended c)) → {X : Type 0} → X ⊎ Out w.log c p → X ⊎ GivenAway w.log c p
      either n c p (inl x) = inl x
      either n c p (inr x) = inr (given n c p x)

  -- who holds the secret is one of the two, unless it was given away
  pub nobody_else : NobodyElseHasIt w
  nobody_else n c p s none = record { underivable = λ g. none (only_given_away.kept n c p s g); holders = λ e r who h. go e r who (holder e who c.secret h) }
    where
      a : (a : Answered Term) × Past w.log (answered a) × (a.reply ≡ c.reply)
      a = sure_answer laws just c p s

      both : SameSession a.0 c
      both = joined just a.0 a.1 c p a.2

      of_answer : (b : Answered Term) → Past w.log (answered b) → b.secret ≡ c.secret → b.me ≡ (hello_of c.reply).called
      of_answer b r e = ap (λ (z : Answered Term). z.me) (one_answer b a.0 r a.1 (answer_time just b a.0 r a.1 (e ∙ sym both.secret))) ∙ both.called

      of_caller : (d : Finished Term) (r : Past w.log (caller_ended d)) → (p.below ≡ r.below) ⊎ GivenAway w.log c p → d.me ≡ (hello_of c.reply).caller
      of_caller d r (inl o) = ap (λ (z : Finished Term). z.me) (caller_same d c (one_place r p (ap length (sym o)))) ∙ both.caller ∙ ap (λ (z : Reply Term). (hello_of z).caller) a.2
      of_caller d r (inr x) = absurd (none x)

      go : (e : Event Term) → Past w.log e → (who : ℕ) → Holder e who c.secret → (who ≡ (hello_of c.reply).caller) ⊎ (who ≡ (hello_of c.reply).called)
      go e r who (fair.an_answerer b f g h) = inr (sym g ∙ of_answer b (past_is r f) h)
      go e r who (fair.a_caller d f g h) = inl (sym g ∙ of_caller d (past_is r f) (only_given_away.unshared n c p s d (past_is r f) h))
      go e r who (fair.a_called d f g h) =
          let q = past_is r f in
          let x = the_called_end just d q in
          inr (sym g ∙ sym x.me ∙ of_answer x.answer (later q.place x.answering) (x.secret ∙ h))

  pub choice_offered : ChoiceOffered w
  choice_offered c p =
      let x = the_caller_end just c p in
      record { call = x.call; calling = x.calling; caller = x.me; hello = x.hello; offered = ap (λ (h : Hello Term). holds h.offer c.reply.body.choice) x.hello ∙ x.offered }

  -- the tables are in the order of time
  rows_behind : {X : Type 0} {R : X → ℕ → Type 0} {high low : ℕ} {xs : List X} (c d : X) (rest : List X) → Rows R high low xs → At c rest xs → Memᴰ d rest → (t : ℕ) × (u : ℕ) × R c t × R d u × (t < u)
  rows_behind {R = R} {high = high} {low = low} c d rest rows a m = let s = at_split a in rows_pair c d s.0 rest (subst (λ l. Rows R high low l) s.1 rows) m

  in_order : (n : ℕ) (s : Side Term) → Sound preferences w.log n s → InOrder w.log s
  in_order n s sound = record { calls = calls; answers = answers; ended = ended }
    where
      calls : (c d : Call Term) (rest : List (Call Term)) → At c rest s.calls → Memᴰ d rest → (x y : Begun Term) (p : Past w.log (begun x)) (q : Past w.log (begun y)) → x.hello ≡ c.hello → y.hello ≡ d.hello → length p.below < length q.below
      calls c d rest a m x y p q e f =
          let r = rows_behind c d rest sound.calls a m in
          let g = call_time just x r.2.call p r.2.calling (e ∙ sym r.2.hello) ∙ r.2.time in
          let h = call_time just y r.3.call q r.3.calling (f ∙ sym r.3.hello) ∙ r.3.time in
          let k = r.4 in
          omega arith

      answers : (c d : Answer Term) (rest : List (Answer Term)) → At c rest s.answers → Memᴰ d rest → (x y : Answered Term) (p : Past w.log (answered x)) (q : Past w.log (answered y)) → x.reply ≡ c.reply → y.reply ≡ d.reply → length p.below < length q.below
      answers c d rest a m x y p q e f =
          let r = rows_behind c d rest sound.answers a m in
          let g = reply_time just x r.2.answer p r.2.answering (e ∙ sym r.2.reply) ∙ r.2.time in
          let h = reply_time just y r.3.answer q r.3.answering (f ∙ sym r.3.reply) ∙ r.3.time in
          let k = r.4 in
          omega arith

      ended : (c d : Session Term) (rest : List (Session Term)) → At c rest s.ended → Memᴰ d rest → EndedBefore w.log s.me c d
      ended c d rest a m =
          let r = rows_behind c d rest sound.ended a m in
          let g = r.2.time in
          let h = r.3.time in
          let k = r.4 in
          record {
            first = r.2.end;
            first_calling = r.2.calling;
            first_ending = r.2.ending;
            first_mine = r.2.who ∙ sym sound.seat.me;
            first_session = r.2.session;
            second = r.3.end;
            second_calling = r.3.calling;
            second_ending = r.3.ending;
            second_mine = r.3.who ∙ sym sound.seat.me;
            second_session = r.3.session;
            before = omega arith;
          }

  pub tables : TablesHoldTheNewest w
  tables = record {
    bounded = λ n s e. let x = good.sound n s e in record { calls = x.few_calls; answers = x.few_answers; ended = x.few_ended };
    in_order = λ n s e. in_order n s (good.sound n s e);
    calls = oldest_goes most_calls;
    answers = oldest_goes most_answers;
    ended = oldest_goes most_ended;
  }

-- a refused word: of any world
pub refusal_silent : (v : Variant) (w : World Term) → RefusalIsSilent (rules (primitives v)) w
unfolding play acted settled
refusal_silent v w a s t n e f =
    let u : World Term = play symbols (rules (primitives v)) fresh w (world.Deliver a t) in
    let g = λ (x : Side Term). settled (rules (primitives v)) x (bind (symbols.read t) (handle (rules (primitives v)) x (fresh (length w.log)))) in
    let same : u ≡ record { sides = put w.sides a (counted s n); log = w.log } = ap (λ o. acted w a o g) e ∙ ap (λ x. record { sides = put w.sides a (settled (rules (primitives v)) s x).side; log = (settled (rules (primitives v)) s x).entries ++ w.log }) f in
    record { log = ap (λ (x : World Term). x.log) same; heard_same = ap (λ (x : World Term). heard x.log) same; sides = ap (λ (x : World Term). x.sides) same }
