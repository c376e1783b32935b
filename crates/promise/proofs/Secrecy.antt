-- The secret of a session comes out only if one of its two ends gives it away, or the caller's private keys are taken while it is open. Assumes nothing.
use Rattle.std.proofs.Common.{◌≡◌, ℕ, zero, suc, ◌<◌, ◌≤◌, ◌⊎◌, length, sym, refl, ap, ◌∙◌, subst, inl, inr, arith}
use mathlib.Core.List.{Memᴰ}
use Rattle.symbolic.specs.Key.{Key, own, made}
use Rattle.symbolic.specs.Term.{Term, Fresh, Secret, One, Element, rise}
use Rattle.symbolic.specs.Derivable.{Gets}
use Rattle.symbolic.proofs.Public.{Ok, ok_given}
use Rattle.protocol.specs.Words.{Hello, Reply}
use Rattle.protocol.specs.Event.{Begun, Answered, Finished, Told, Event, begun, answered, caller_ended, called_ended, taken, told, heard}
use Rattle.protocol.specs.Symbols.{Variant}
use Rattle.promise.proofs.Variants.{Laws}
use Rattle.promise.specs.Run.{Log, At, Past}
use Rattle.promise.specs.Session as session
use Rattle.promise.specs.Session.{hello_of, Sure, GivenAway, TakenWhileOpen, Out}
use Rattle.promise.proofs.Events.{other_kind, caller_same}
use Rattle.promise.proofs.Logs.{later, at_order, at_shorter}
use Rattle.promise.proofs.Released as released
use Rattle.promise.proofs.Released.{Known, Given, CallerEnd, AnswerMade, OpenCall, SecretTold, sealing_key, half_of, Fair}
use Rattle.promise.proofs.Fair as fair
use Rattle.promise.proofs.Fair.{fair_below, the_call, the_answer, the_caller_end, the_called_end, the_taking, the_telling, Holder, holder, past_is, secret_source, same_box, derivable_public}
use Rattle.promise.proofs.Shapes.{key_kind, key_index, secret_key, fresh_time, half_key, half_keys, made_time, sealed_half}
use Rattle.promise.proofs.Partners.{one_place, one_call, one_answer, caller_once, has_answerer}

-- a half that is raised isn't the group's one
raised_not_one : (y x : Key) → rise y (half_of x) ≡ One → ⊥
unfolding rise
raised_not_one y x e = let z : ◌≡◌ {A = ℕ} 0 1 = cc in omega arith

-- what happened in one log happened in the other, at the same place
abbrev Part : Log → Log → Type 0
Part part log = (w : Event Term) (x : Past part w) → (y : Past log w) × (y.below ≡ x.below)

-- the value drawn at a time was public already in an earlier log
record Earlier (v : Variant) (log part : Log) (when : ℕ) : Type 0 where
  less : Log
  shorter : length less < length part
  fairly : Fair v less
  up : Part less log
  given : Given less when 1

-- a session: a caller that ended, and the answer with the same reply
module _ {v : Variant} {log : Log} (just : Fair v log) (c : Finished Term) (p : Past log (caller_ended c)) (a : Answered Term) (q : Past log (answered a)) (one : a.reply ≡ c.reply) where
  abbrev the_end : CallerEnd v c p.entry.words p.below
  the_end = the_caller_end just c p

  -- when the session was begun, and when it was answered
  abbrev began : ℕ
  began = length the_end.calling.below

  abbrev when : ℕ
  when = length q.below

  abbrev begun_call : Past log (begun the_end.call)
  begun_call = later p.place the_end.calling

  caller_half : (hello_of a.reply).half ≡ half_of (made began 1)
  caller_half = ap (λ (r : Reply Term). (hello_of r).half) one ∙ ap (λ (h : Hello Term). h.half) (sym the_end.hello) ∙ (the_call just the_end.call begun_call).half

  secret_is : c.secret ≡ Fresh when 1
  secret_is = same_box just c p a q (ap (λ (r : Reply Term). r.body.box) (sym one)) ∙ (the_answer just a q).secret

  -- an answer with this secret is this answer
  this_answer : (b : Answered Term) (r : Past log (answered b)) → b.secret ≡ Fresh when 1 → when ≡ length r.below
  this_answer b r e = fresh_time (length q.below) (length r.below) 1 1 (sym e ∙ (the_answer just b r).secret)

  -- a caller that opened this answer's box is this caller
  this_caller : (d : Finished Term) (r : Past log (caller_ended d)) → d.reply.body.box ≡ a.reply.body.box → p.below ≡ r.below
  this_caller d r e =
      let j = the_caller_end just d r in
      let i = the_answer just a q in
      let x = made (length j.calling.below) 1 in
      let h = (hello_of a.reply).half in
      let s = d.reply.body.seal in
      let y = made (length q.below) 2 in
      let half : half_of x ≡ h = sealed_half x y s h (half_of x) s h (half_of y) d.secret (Fresh (length q.below) 1) (sym j.box ∙ e ∙ i.box) in
      let time : length j.calling.below ≡ began = made_time (length j.calling.below) began 1 1 (half_key x (made began 1) (half ∙ caller_half)) in
      let call = one_call just j.call the_end.call (later r.place j.calling) begun_call time in
      caller_once just c d p r (sym the_end.hello ∙ ap (λ (b : Begun Term). b.hello) (sym call) ∙ j.hello)

  -- the key of the call is known only if it was taken while the call was open
  key_taken : {part : Log} → Fair v part → Part part log → Known part (made began 1) → TakenWhileOpen c p.below
  key_taken fairly up (released.everybody n e) = let h = key_kind 1 began 1 2 n 0 e in absurd (omega arith)
  key_taken fairly up (released.by_theft t r e) = let h = key_kind 1 began 1 0 t.who 0 e in absurd (omega arith)
  key_taken fairly up (released.by_drawing r e) = let h = key_index 1 began 1 1 (length r.below) 0 e in absurd (omega arith)
  key_taken {part} fairly up (released.by_taking t r m) = go ((the_taking fairly t r).each (Secret (made began 1)) m)
    where
      was : Past log (taken t)
      was = (up (taken t) r).0

      before : (o : OpenCall t.who (Secret (made began 1)) was.below) → At was.entry was.below p.below ⊎ ((length was.below ≡ length p.below) ⊎ At p.entry p.below was.below) → TakenWhileOpen c p.below
      before o order =
          let calling = later was.place o.calling in
          let b = the_call just o.call calling in
          let time = made_time (length o.calling.below) began 1 1 (secret_key (made (length o.calling.below) 1) (made began 1) (sym b.secret ∙ o.same)) in
          let call = one_call just o.call the_end.call calling begun_call time in
          let hello : o.call.hello ≡ hello_of c.reply = ap (λ (x : Begun Term). x.hello) call ∙ the_end.hello in
          let victim : t.who ≡ c.me = sym o.me ∙ ap (λ (x : Begun Term). x.me) call ∙ the_end.me in
          decide o hello victim order
        where
          decide : (o : OpenCall t.who (Secret (made began 1)) was.below) → o.call.hello ≡ hello_of c.reply → t.who ≡ c.me → At was.entry was.below p.below ⊎ ((length was.below ≡ length p.below) ⊎ At p.entry p.below was.below) → TakenWhileOpen c p.below
          decide o hello victim (inl x) = record { theft = t; taking = record { entry = was.entry; below = was.below; place = x; is = was.is }; victim = victim; call = o.call; calling = o.calling; hello = hello }
          decide o hello victim (inr (inl e)) = absurd (other_kind (taken t) (caller_ended c) (one_place was p e) refl)
          decide o hello victim (inr (inr x)) = absurd (o.unended c (record { entry = p.entry; below = p.below; place = x; is = p.is }) (sym hello))

      go : (Secret (made began 1) ≡ Secret (own t.who 0)) ⊎ OpenCall t.who (Secret (made began 1)) r.below → TakenWhileOpen c p.below
      go (inl e) = let h = key_kind 1 began 1 0 t.who 0 (secret_key (made began 1) (own t.who 0) e) in absurd (omega arith)
      go (inr o) = before (subst (λ l. OpenCall t.who (Secret (made began 1)) l) (sym (up (taken t) r).1) o) (at_order was.place p.place)

  -- a secret given away by its session's side was given away by one of the two ends, or was out before
  told_by_end : {part : Log} → Fair v part → Part part log → (k : Told Term) → Past part (told k) → k.secret ≡ Fresh when 1 → Out log c p ⊎ Earlier v log part when
  told_by_end {part} fairly up k r e = go j.session j.having j.place (holder j.session k.who k.secret j.holds)
    where
      j : SecretTold k r.entry.words r.below
      j = the_telling fairly k r

      telling : Past log (told k)
      telling = (up (told k) r).0

      lift : (w : Event Term) (x : Past r.below w) → (y : Past log w) × (y.below ≡ x.below)
      lift w x = up w (later r.place x)

      from_caller : (d : Finished Term) (x : Past r.below (caller_ended d)) → d.me ≡ k.who → d.secret ≡ k.secret → k.place ≡ length x.below → Ok (released.released v x.below) d.secret ⊎ ((b : Answered Term) × (y : Past x.below (answered b)) × (d.reply.body.box ≡ b.reply.body.box)) → Out log c p ⊎ Earlier v log part when
      from_caller d x f g n (inl o) =
          let h = at_shorter x.place in
          let i = at_shorter r.place in
          inr (record { less = x.below; shorter = omega arith; fairly = fair_below x.place (fair_below r.place fairly); up = λ w y. lift w (later x.place y); given = ok_given (subst (λ t. Ok (released.released v x.below) t) (g ∙ e) o) })
      from_caller d x f g n (inr b) =
          let y = lift (caller_ended d) x in
          let z = lift (answered b.0) (later x.place b.1) in
          let s = same_box just d y.0 b.0 z.0 b.2 in
          let t = this_answer b.0 z.0 (sym s ∙ g ∙ e) in
          let same = one_answer a b.0 q z.0 t in
          let place = this_caller d y.0 (b.2 ∙ ap (λ (v : Answered Term). v.reply.body.box) (sym same)) in
          let who = caller_same c d (one_place p y.0 (ap length place)) in
          inl (session.given_away (session.by_caller k telling (sym f ∙ ap (λ (v : Finished Term). v.me) (sym who)) (n ∙ ap length (sym y.1) ∙ ap length (sym place))))

      go : (s : Event Term) (x : Past r.below s) → k.place ≡ length x.below → Holder s k.who k.secret → Out log c p ⊎ Earlier v log part when
      go s x n (fair.an_answerer b f g h) =
          let y = lift (answered b) (past_is x f) in
          let t = this_answer b y.0 (h ∙ e) in
          let same = one_answer a b q y.0 t in
          inl (session.given_away (session.by_answerer k telling a q one (sym g ∙ ap (λ (v : Answered Term). v.me) (sym same)) (n ∙ ap length (sym y.1) ∙ sym t)))
      go s x n (fair.a_caller d f g h) = from_caller d (past_is x f) g h n (secret_source (fair_below r.place fairly) d (past_is x f))
      go s x n (fair.a_called d f g h) =
          let y = lift (called_ended d) (past_is x f) in
          let i = the_called_end just d y.0 in
          let z = later y.0.place i.answering in
          let t = this_answer i.answer z (i.secret ∙ h ∙ e) in
          let same = one_answer a i.answer q z t in
          inl (session.given_away (session.by_called k telling d y.0 (sym i.reply ∙ ap (λ (v : Answered Term). v.reply) (sym same) ∙ one) (sym g) (n ∙ ap length (sym y.1))))

  -- if the secret was public, it came out by one of the two ends or by the call's key, or was public before
  public_since : (part : Log) → Fair v part → Part part log → Given part when 1 → Out log c p ⊎ Earlier v log part when
  public_since part fairly up (released.nonce_begun b r e f) = absurd (omega arith)
  public_since part fairly up (released.nonce_answered b r e f) = absurd (omega arith)
  public_since part fairly up (released.by_drawing r e f) = absurd (omega arith)
  public_since part fairly up (released.by_telling k r e) = told_by_end fairly up k r e
  public_since part fairly up (released.by_one b r e f g) =
      let x = up (answered b) r in
      let same = one_answer a b q x.0 (e ∙ ap length (sym x.1)) in
      let half : (hello_of b.reply).half ≡ half_of (made began 1) = ap (λ (v : Answered Term). (hello_of v.reply).half) (sym same) ∙ caller_half in
      absurd (raised_not_one (made (length r.below) 2) (made began 1) (ap (rise (made (length r.below) 2)) (sym half) ∙ g))
  public_since part fairly up (released.by_sealing b r e f ks g h) =
      let x = up (answered b) r in
      let same = one_answer a b q x.0 (e ∙ ap length (sym x.1)) in
      let half : half_of (made began 1) ≡ Element ks = sym caller_half ∙ ap (λ (v : Answered Term). (hello_of v.reply).half) same ∙ g in
      inl (session.taken_open (key_taken fairly up (h (made began 1) (subst (λ l. Memᴰ (made began 1) l) (sym (half_keys (made began 1) ks half)) (Memᴰ.head refl)))))

  public_out : (n : ℕ) (part : Log) → length part ≤ n → Fair v part → Part part log → Given part when 1 → Out log c p
  public_out zero part m fairly up g = go (public_since part fairly up g)
    where
      go : Out log c p ⊎ Earlier v log part when → Out log c p
      go (inl o) = o
      go (inr x) = let h = x.shorter in absurd (omega arith)
  public_out (suc n) part m fairly up g = go (public_since part fairly up g) (public_out n)
    where
      go : Out log c p ⊎ Earlier v log part when → ((l : Log) → length l ≤ n → Fair v l → Part l log → Given l when 1 → Out log c p) → Out log c p
      go (inl o) rest = o
      go (inr x) rest = let h = x.shorter in rest x.less (omega arith) x.fairly x.up x.given

  -- a secret that can be derived came out so
  pub derived_out : Laws v → Gets (heard log) c.secret → Out log c p
  derived_out laws g = public_out (length log) log (omega arith) just (λ w x. (x, refl)) (ok_given (subst (λ t. Ok (released.released v log) t) secret_is (derivable_public laws just g)))

  -- and so did one that another caller's session shares
  pub shared_out : (d : Finished Term) (r : Past log (caller_ended d)) → d.secret ≡ c.secret → (p.below ≡ r.below) ⊎ Out log c p
  shared_out d r e = go (secret_source just d r)
    where
      go : Ok (released.released v r.below) d.secret ⊎ ((b : Answered Term) × (y : Past r.below (answered b)) × (d.reply.body.box ≡ b.reply.body.box)) → (p.below ≡ r.below) ⊎ Out log c p
      go (inl o) = inr (public_out (length r.below) r.below (omega arith) (fair_below r.place just) (λ w x. (later r.place x, refl)) (ok_given (subst (λ t. Ok (released.released v r.below) t) (e ∙ secret_is) o)))
      go (inr b) =
          let z = later r.place b.1 in
          let t = this_answer b.0 z (sym (same_box just d r b.0 z b.2) ∙ e ∙ secret_is) in
          let same = one_answer a b.0 q z t in
          inl (this_caller d r (b.2 ∙ ap (λ (v : Answered Term). v.reply.body.box) (sym same)))

-- a session that one of its ends ended surely was answered by the called side, with the same reply
pub sure_answer : {v : Variant} {log : Log} → Laws v → Fair v log → (c : Finished Term) (p : Past log (caller_ended c)) → Sure log c p → (a : Answered Term) × Past log (answered a) × (a.reply ≡ c.reply)
sure_answer laws just c p (session.by_caller s) = let x = has_answerer laws just c p s in (x.answer, later p.place x.answering, x.same.reply)
sure_answer laws just c p (session.by_called f q s e) = let x = the_called_end just f q in (x.answer, later q.place x.answering, x.reply ∙ e)
