-- Each step of an undisturbed session is taken. Assumes nothing.
use Rattle.std.proofs.Common.{◌≡◌, ℕ, ◌≤◌, Bool, true, false, not, eqb, List, [], ◌∷◌, ◌++◌, length, is_some, Some, sym, refl, ap, ◌∙◌}
use mathlib.Core.List.{Memᴰ}
use Rattle.std.proofs.lemmas.Bool.{eq-eqb}
use Rattle.words.specs.Numbers.{wrong_side, nothing_in_common, no_such_call, bad_signature, not_offered, seal_shut, common_one, no_such_session, other_reply}
use Rattle.words.specs.Registry.{kind_end, derive_lock}
use Rattle.words.specs.Choice.{holds, choose, proper}
use Rattle.symbolic.specs.Key.{Key, own, made, insert}
use Rattle.symbolic.specs.Term.{Term, Number, Secret, Public, Element, Sign, Mac, Close, Both, Tag, same, seen, rise}
use Rattle.symbolic.proofs.Terms.{is_same, same_is, rise_swap}
use Rattle.protocol.specs.Lists.{nth, put, seek}
use Rattle.protocol.specs.Got.{Yes, bind}
use Rattle.protocol.specs.Words.{Hello, Reply, Word, a_hello, a_reply, an_end}
use Rattle.protocol.specs.Algebra.{seal_key, unsealed, lock_key, unlocked}
use Rattle.protocol.specs.Side.{Call, Answer, Side}
use Rattle.protocol.specs.Event.{Begun, Answered, begun, answered}
use Rattle.protocol.specs.Step.{Reaction, call, begin_call, take_hello, give_answer, take_reply, has_hello, end_call, take_end, opens, end_answer}
use Rattle.protocol.specs.World as world
use Rattle.protocol.specs.World.{rules, World, handle, settled, ordered, acted, play}
use Rattle.protocol.specs.Symbols.{symbols, fresh, hello_term, reply_term, nothing, front_seen, rear_seen, Variant, primitives}
use Rattle.protocol.proofs.Steps.{guard_passed, need_met}
use Rattle.protocol.proofs.Reading.{written_hello, written_reply, written_end, signed_verifies, closed_opens}
use Rattle.protocol.proofs.Tables.{seek_found, seek_finds}
use Rattle.protocol.proofs.Rows.{rows_of}
use Rattle.promise.specs.Run.{Past}
use Rattle.promise.specs.Session.{hello_of}
use Rattle.promise.proofs.Variants.{Laws}
use Rattle.promise.proofs.Released.{sealing_key, half_of, lock_of, end_signature}
use Rattle.promise.proofs.Fair.{the_call, the_answer}
use Rattle.protocol.proofs.Apart.{hello_same}
use Rattle.promise.proofs.Partners.{call_time, one_call, answer_time, one_answer}
use Rattle.promise.proofs.Sound.{CallRow, AnswerRow, Seat, key_there}
use Rattle.promise.proofs.Calls.{half_is}
use Rattle.promise.proofs.Hellos.{common_is}
use Rattle.promise.proofs.Ends.{one_secret}
use Rattle.promise.proofs.Reached.{Good}

-- the world after a side did something
abbrev pub after : World Term → ℕ → Reaction Term → World Term
after w n r = record { sides = put w.sides n r.side; log = r.entries ++ w.log }

-- a word that is read and taken does what its handler says
pub delivered : (v : Variant) (w : World Term) (n : ℕ) (s : Side Term) (t : Term) (x : Word Term) (r : Reaction Term) → nth w.sides n ≡ Some s → symbols.read t ≡ Yes x → handle (rules (primitives v)) s (fresh (length w.log)) x ≡ Yes r → play symbols (rules (primitives v)) fresh w (world.Deliver n t) ≡ after w n r
unfolding play acted settled bind
delivered v w n s t x r e f g =
    ap (λ o. acted w n o (λ s. settled (rules (primitives v)) s (bind (symbols.read t) (handle (rules (primitives v)) s (fresh (length w.log)))))) e
    ∙ ap (λ y. after w n (settled (rules (primitives v)) s (bind y (handle (rules (primitives v)) s (fresh (length w.log)))))) f
    ∙ ap (λ y. after w n (settled (rules (primitives v)) s y)) g

pub called_out : (v : Variant) (w : World Term) (n b : ℕ) (s : Side Term) (r : Reaction Term) → nth w.sides n ≡ Some s → call (primitives v) s b (fresh (length w.log)) ≡ Yes r → play symbols (rules (primitives v)) fresh w (world.Call n b) ≡ after w n r
unfolding play acted ordered
called_out v w n b s r e g =
    ap (λ o. acted w n o (λ s. ordered s (call (primitives v) s b (fresh (length w.log))))) e
    ∙ ap (λ y. after w n (ordered s y)) g

-- a call to a side that is there is made
pub call_made : {v : Variant} {preferences : List (List ℕ)} {w : World Term} → Good v preferences w → (a b : ℕ) (s : Side Term) (p : List ℕ) → nth w.sides a ≡ Some s → nth preferences b ≡ Some p → play symbols (rules (primitives v)) fresh w (world.Call a b) ≡ after w a (begin_call (primitives v) s b (fresh (length w.log)) (Public (own b 0)))
unfolding call
call_made {v} {w = w} good a b s p e f = called_out v w a b s _ e (need_met wrong_side (nth s.keys b) _ (Public (own b 0)) (key_there (good.sound a s e).seat b p f))

not_same : (a b : Term) → (a ≡ b → ⊥) → not (same a b) ≡ true
not_same a b d = go (same a b) refl
  where
    go : (t : Bool) → same a b ≡ t → not t ≡ true
    go true e = absurd (d (same_is a b e))
    go false e = refl

-- the half of a key, raised by another, isn't the element that is refused
raised_apart : {v : Variant} → Laws v → (k x : Key) (e : Term) → e ≡ half_of x → not (same ((primitives v).common (Secret k) e) v.one) ≡ true
unfolding rise
raised_apart {v} laws k x e f = not_same ((primitives v).common (Secret k) e) v.one (λ g. laws.not_refused (insert k (x ∷ [])) (sym (common_is v k (half_of x)) ∙ ap (λ y. (primitives v).common (Secret k) y) (sym f) ∙ g))

-- a proper hello of a side that is there, with a cipher in common, is answered
pub hello_answered : {v : Variant} → Laws v → {preferences : List (List ℕ)} {w : World Term} → Good v preferences w → (b : ℕ) (t : Side Term) (h : Hello Term) (p : List ℕ) (c : ℕ) (x : Key) → nth w.sides b ≡ Some t → h.called ≡ b → nth preferences h.caller ≡ Some p → proper h.offer ≡ true → choose t.preferences h.offer ≡ Some c → h.half ≡ half_of x → play symbols (rules (primitives v)) fresh w (world.Deliver b (hello_term h)) ≡ after w b (give_answer (primitives v) t h (fresh (length w.log)) (Public (own h.caller 0)) c)
unfolding handle take_hello
hello_answered {v} laws {w = w} good b t h p c x e f g q k l =
    let seat = (good.sound b t e).seat in
    let d = fresh (length w.log) in
    delivered v w b t (hello_term h) (a_hello h) _ e (written_hello h q)
    (guard_passed wrong_side (eqb h.called t.me) _ (eq-eqb h.called t.me (f ∙ sym seat.me))
    ∙ need_met wrong_side (nth t.keys h.caller) _ (Public (own h.caller 0)) (key_there seat h.caller p g)
    ∙ need_met nothing_in_common (choose t.preferences h.offer) _ c k
    ∙ guard_passed common_one (not (same ((primitives v).common (d.key 2) h.half) v.one)) _ (raised_apart laws (made (length w.log) 2) x h.half l))

half_raised : (k : Key) → half_of k ≡ rise k (Element [])
unfolding rise insert
half_raised k = refl

-- both ways to the common element agree
same_common : (x y : Key) → rise x (half_of y) ≡ rise y (half_of x)
same_common x y = ap (rise x) (half_raised y) ∙ rise_swap x y (Element []) ∙ ap (rise y) (sym (half_raised x))

-- a reply to an open call, as the rules make it, is taken
pub reply_taken : {v : Variant} → Laws v → {preferences : List (List ℕ)} {w : World Term} → Good v preferences w → (a : ℕ) (s : Side Term) (r : Reply Term) (p : List ℕ) (row : Call Term) (b : Begun Term) (when : Past w.log (begun b)) (y : Key) (secret : Term) → nth w.sides a ≡ Some s → (hello_of r).caller ≡ a → nth preferences (hello_of r).called ≡ Some p → proper (hello_of r).offer ≡ true → Memᴰ row s.calls → row.hello ≡ hello_of r → b.hello ≡ hello_of r → r.signature ≡ Sign (own (hello_of r).called 0) (v.body r.body) → holds (hello_of r).offer r.body.choice ≡ true → r.body.seal ≡ half_of y → r.body.box ≡ Close (sealing_key y (hello_of r).half (hello_of r).half (half_of y)) 0 nothing secret → (c : Call Term) × (c.their ≡ Public (own (hello_of r).called 0)) × (play symbols (rules (primitives v)) fresh w (world.Deliver a (reply_term r)) ≡ after w a (end_call (primitives v) s r c secret))
unfolding handle take_reply
reply_taken {v} laws {preferences} {w} good a s r p row b when y secret e f g q m h i k l n o = (
  c,
  their_is,
  delivered v w a s (reply_term r) (a_reply r) _ e (written_reply r q)
      (guard_passed wrong_side (eqb (hello_of r).caller s.me) _ (eq-eqb (hello_of r).caller s.me (f ∙ sym seat.me))
      ∙ need_met wrong_side (nth s.keys (hello_of r).called) _ (Public (own (hello_of r).called 0)) (key_there seat (hello_of r).called p g)
      ∙ need_met no_such_call (seek (has_hello (primitives v) (hello_of r)) s.calls) _ c found.1
      ∙ guard_passed bad_signature ((primitives v).verifies c.their (v.body r.body) r.signature) _ (signed_verifies (own (hello_of r).called 0) c.their (v.body r.body) r.signature their_is k)
      ∙ guard_passed not_offered (holds c.hello.offer r.body.choice) _ (ap (λ (z : Hello Term). holds z.offer r.body.choice) hello_is ∙ l)
      ∙ need_met seal_shut (unsealed (primitives v) c.secret r.body.seal r.body.box) _ secret (closed_opens _ _ nothing secret r.body.box 0 o sealing_is)
      ∙ guard_passed common_one (not (same ((primitives v).common c.secret r.body.seal) v.one)) _ (ap (λ z. not (same ((primitives v).common z r.body.seal) v.one)) secret_is ∙ raised_apart laws x y r.body.seal n)),
)
  where
    seat : Seat preferences a s
    seat = (good.sound a s e).seat

    found : (z : Call Term) × (seek (has_hello (primitives v) (hello_of r)) s.calls ≡ Some z)
    found = seek_finds (has_hello (primitives v) (hello_of r)) s.calls row m (is_same (hello_term row.hello) (hello_term (hello_of r)) (ap hello_term h))

    c : Call Term
    c = found.0

    there : Memᴰ c s.calls × (has_hello (primitives v) (hello_of r) c ≡ true)
    there = seek_found (has_hello (primitives v) (hello_of r)) s.calls c found.1

    hello_is : c.hello ≡ hello_of r
    hello_is = hello_same c.hello (hello_of r) (same_is (hello_term c.hello) (hello_term (hello_of r)) there.1)

    mine : (t : ℕ) × CallRow w.log a c t × (0 ≤ t)
    mine = rows_of c there.0 (good.sound a s e).calls

    x : Key
    x = made (length when.below) 1

    one : mine.1.call ≡ b
    one = one_call good.fair mine.1.call b mine.1.calling when (call_time good.fair mine.1.call b mine.1.calling when (mine.1.hello ∙ hello_is ∙ sym i))

    secret_is : c.secret ≡ Secret x
    secret_is = sym mine.1.secret ∙ ap (λ (z : Begun Term). z.secret) one ∙ (the_call good.fair b when).secret

    their_is : c.their ≡ Public (own (hello_of r).called 0)
    their_is = sym mine.1.their ∙ ap (λ (z : Begun Term). z.their) one ∙ (the_call good.fair b when).their ∙ ap (λ (z : Hello Term). Public (own z.called 0)) i

    half_is_x : (hello_of r).half ≡ half_of x
    half_is_x = ap (λ (z : Hello Term). z.half) (sym i) ∙ (the_call good.fair b when).half

    sealing_is : seal_key (primitives v) ((primitives v).common c.secret r.body.seal) ((primitives v).half c.secret) r.body.seal ≡ sealing_key y (hello_of r).half (hello_of r).half (half_of y)
    sealing_is =
        ap (λ z. Mac ((primitives v).common z r.body.seal) (Both ((primitives v).half z) r.body.seal)) secret_is
        ∙ ap (λ z. Mac ((primitives v).common (Secret x) z) (Both ((primitives v).half (Secret x)) z)) n
        ∙ ap (λ z. Mac z (Both ((primitives v).half (Secret x)) (half_of y))) (common_is v x (half_of y) ∙ same_common x y)
        ∙ ap (λ z. Mac (rise y (half_of x)) (Both z (half_of y))) (half_is v x)
        ∙ ap (λ z. Mac (rise y z) (Both z (half_of y))) (sym half_is_x)

-- an end of an answered session, as the rules make it, is taken
pub end_taken : {v : Variant} {preferences : List (List ℕ)} {w : World Term} → Good v preferences w → (b : ℕ) (t : Side Term) (row : Answer Term) (a : Answered Term) (when : Past w.log (answered a)) → nth w.sides b ≡ Some t → Memᴰ row t.answers → a.secret ≡ row.secret → (x : Answer Term) × (x.their ≡ Public (own (hello_of a.reply).caller 0)) × (x.reply ≡ a.reply) × (x.secret ≡ a.secret) × (play symbols (rules (primitives v)) fresh w (world.Deliver b (Tag kind_end (lock_of v (hello_of a.reply).caller a.secret a.reply))) ≡ after w b (end_answer (primitives v) t (lock_of v (hello_of a.reply).caller a.secret a.reply) x))
unfolding handle take_end front_seen rear_seen seen
end_taken {v} {preferences} {w} good b t row a when e m f = (
  x,
  their_is,
  reply_is,
  secret_is,
  delivered v w b t (Tag kind_end lock) (an_end lock) _ e (written_end lock)
      (need_met no_such_session (seek (opens (primitives v) lock) t.answers) _ x found.1
      ∙ need_met no_such_session (unlocked (primitives v) x.secret lock) _ content (opened x secret_is)
      ∙ guard_passed bad_signature ((primitives v).verifies x.their (v.claim (reply_term a.reply)) (end_signature v caller a.reply)) _ (signed_verifies (own caller 0) x.their (v.claim (reply_term a.reply)) (end_signature v caller a.reply) their_is refl)
      ∙ guard_passed other_reply (same (reply_term a.reply) (reply_term x.reply)) _ (is_same (reply_term a.reply) (reply_term x.reply) (ap reply_term (sym reply_is)))),
)
  where
    caller : ℕ
    caller = (hello_of a.reply).caller

    content : Term
    content = Both (reply_term a.reply) (end_signature v caller a.reply)

    lock : Term
    lock = lock_of v caller a.secret a.reply

    opened : (y : Answer Term) → y.secret ≡ a.secret → unlocked (primitives v) y.secret lock ≡ Some content
    opened y g = closed_opens (lock_key (primitives v) y.secret) (lock_key (primitives v) a.secret) nothing content lock 0 refl (ap (λ z. Mac z (Number 1 derive_lock)) g)

    found : (z : Answer Term) × (seek (opens (primitives v) lock) t.answers ≡ Some z)
    found = seek_finds (opens (primitives v) lock) t.answers row m (ap is_some (opened row (sym f)))

    x : Answer Term
    x = found.0

    there : Memᴰ x t.answers × (opens (primitives v) lock x ≡ true)
    there = seek_found (opens (primitives v) lock) t.answers x found.1

    secret_is : x.secret ≡ a.secret
    secret_is = one_secret v lock x row there.1 (ap is_some (opened row (sym f))) ∙ sym f

    mine : (u : ℕ) × AnswerRow w.log b x u × (0 ≤ u)
    mine = rows_of x there.0 (good.sound b t e).answers

    one : mine.1.answer ≡ a
    one = one_answer mine.1.answer a mine.1.answering when (answer_time good.fair mine.1.answer a mine.1.answering when (mine.1.secret ∙ secret_is))

    reply_is : x.reply ≡ a.reply
    reply_is = sym mine.1.reply ∙ ap (λ (z : Answered Term). z.reply) one

    their_is : x.their ≡ Public (own caller 0)
    their_is = sym mine.1.their ∙ ap (λ (z : Answered Term). z.their) one ∙ (the_answer good.fair a when).their
