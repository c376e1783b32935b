-- Who ends a session surely has a partner, and one only. Assumes nothing.
use Rattle.std.proofs.Common.{◌≡◌, ℕ, true, ◌⊎◌, length, Some, sym, ap, ◌∙◌, subst, inl, inr, arith}
use Rattle.words.specs.Registry.{derive_lock}
use Rattle.words.specs.Choice.{choose}
use Rattle.symbolic.specs.Key.{own, made}
use Rattle.symbolic.specs.Term.{Term, Number, Fresh, Secret, Public, Sign, Mac, Both}
use Rattle.symbolic.proofs.Public.{Ok, ok_closed, ok_signer, ok_right}
use Rattle.protocol.specs.Words.{Hello, Body, Reply}
use Rattle.protocol.specs.Event.{Begun, Answered, Finished, Event, begun, answered, caller_ended, called_ended, Entry}
use Rattle.protocol.specs.Symbols.{reply_term, nothing, Variant}
use Rattle.promise.proofs.Variants.{Laws}
use Rattle.promise.specs.Run.{Log, At, Past, safe}
use Rattle.promise.specs.Session.{hello_of, SameSession, Best, Answerer, Caller}
use Rattle.promise.proofs.Events.{begun_same, answered_same}
use Rattle.promise.proofs.Logs.{later, at_unique, at_order, not_stolen, not_taken}
use Rattle.promise.proofs.Released as released
use Rattle.promise.proofs.Released.{Known, Signed, Closed, CallerEnd, CalledEnd, AnswerMade, OpenCall, lock_of, end_signature, sealing_key, half_of, Fair}
use Rattle.promise.proofs.Fair.{fair_below, the_call, the_answer, the_caller_end, the_called_end, the_theft, the_taking, reply_signature, same_box}
use Rattle.protocol.proofs.Apart.{reply_same}
use Rattle.promise.proofs.Shapes.{close_content, key_kind, secret_key, fresh_time, own_side, lock_seal, lock_reply, lock_side}

-- what stands at one place is one thing
pub one_place : {log : Log} {v w : Event Term} (p : Past log v) (q : Past log w) → length p.below ≡ length q.below → v ≡ w
one_place p q e = sym p.is ∙ ap (λ (x : Entry Term). x.what) (at_unique p.place q.place e).0 ∙ q.is

pub one_below : {log : Log} {v w : Event Term} (p : Past log v) (q : Past log w) → length p.below ≡ length q.below → p.below ≡ q.below
one_below p q e = (at_unique p.place q.place e).1

-- calls with one hello are one, and so are answers with one secret, or one reply
pub call_time : {v : Variant} {log : Log} → Fair v log → (b c : Begun Term) (p : Past log (begun b)) (q : Past log (begun c)) → b.hello ≡ c.hello → length p.below ≡ length q.below
call_time fair b c p q e = fresh_time (length p.below) (length q.below) 0 0 (sym (the_call fair b p).nonce ∙ ap (λ (h : Hello Term). h.nonce) e ∙ (the_call fair c q).nonce)

pub one_call : {v : Variant} {log : Log} → Fair v log → (b c : Begun Term) (p : Past log (begun b)) (q : Past log (begun c)) → length p.below ≡ length q.below → b ≡ c
one_call fair b c p q e = begun_same b c (one_place p q e)

pub one_answer : {log : Log} → (a b : Answered Term) (p : Past log (answered a)) (q : Past log (answered b)) → length p.below ≡ length q.below → a ≡ b
one_answer a b p q e = answered_same a b (one_place p q e)

pub answer_time : {v : Variant} {log : Log} → Fair v log → (a b : Answered Term) (p : Past log (answered a)) (q : Past log (answered b)) → a.secret ≡ b.secret → length p.below ≡ length q.below
answer_time fair a b p q e = fresh_time (length p.below) (length q.below) 1 1 (sym (the_answer fair a p).secret ∙ e ∙ (the_answer fair b q).secret)

pub reply_time : {v : Variant} {log : Log} → Fair v log → (a b : Answered Term) (p : Past log (answered a)) (q : Past log (answered b)) → a.reply ≡ b.reply → length p.below ≡ length q.below
reply_time fair a b p q e = fresh_time (length p.below) (length q.below) 0 0 (sym (the_answer fair a p).nonce ∙ ap (λ (r : Reply Term). r.body.nonce) e ∙ (the_answer fair b q).nonce)

-- a caller ends a session once, and so does a called side
pub caller_once : {v : Variant} {log : Log} → Fair v log → (c d : Finished Term) (p : Past log (caller_ended c)) (q : Past log (caller_ended d)) → hello_of c.reply ≡ hello_of d.reply → p.below ≡ q.below
caller_once fair c d p q e = go (at_order p.place q.place)
  where
    go : At p.entry p.below q.below ⊎ ((length p.below ≡ length q.below) ⊎ At q.entry q.below p.below) → p.below ≡ q.below
    go (inl a) = absurd ((the_caller_end fair d q).once c (record { entry = p.entry; below = p.below; place = a; is = p.is }) e)
    go (inr (inl f)) = one_below p q f
    go (inr (inr a)) = absurd ((the_caller_end fair c p).once d (record { entry = q.entry; below = q.below; place = a; is = q.is }) (sym e))

pub called_once : {v : Variant} {log : Log} → Fair v log → (c d : Finished Term) (p : Past log (called_ended c)) (q : Past log (called_ended d)) → c.reply ≡ d.reply → p.below ≡ q.below
called_once fair c d p q e = go (at_order p.place q.place)
  where
    go : At p.entry p.below q.below ⊎ ((length p.below ≡ length q.below) ⊎ At q.entry q.below p.below) → p.below ≡ q.below
    go (inl a) = absurd ((the_called_end fair d q).once c (record { entry = p.entry; below = p.below; place = a; is = p.is }) e)
    go (inr (inl f)) = one_below p q f
    go (inr (inr a)) = absurd ((the_called_end fair c p).once d (record { entry = q.entry; below = q.below; place = a; is = q.is }) (sym e))

-- a safe identity key isn't known
pub safe_unknown : {v : Variant} {log : Log} → Fair v log → (n : ℕ) → safe (Public (own n 0)) log ≡ true → Known log (own n 0) → ⊥
safe_unknown fair n s (released.everybody m e) = let h = key_kind 0 n 0 2 m 0 e in omega arith
safe_unknown {log} fair n s (released.by_theft t p e) = not_stolen (Public (own n 0)) log s t ((the_theft fair t p).key ∙ ap Public (sym e)) p
safe_unknown {log} fair n s (released.by_taking t p m) = go ((the_taking fair t p).each (Secret (own n 0)) m)
  where
    go : (Secret (own n 0) ≡ Secret (own t.who 0)) ⊎ OpenCall t.who (Secret (own n 0)) p.below → ⊥
    go (inl e) = not_taken (Public (own n 0)) log s t ((the_taking fair t p).key ∙ ap Public (sym (secret_key (own n 0) (own t.who 0) e))) p
    go (inr o) = let b = the_call (fair_below p.place fair) o.call o.calling in let h = key_kind 0 n 0 1 (length o.calling.below) 1 (secret_key (own n 0) (made (length o.calling.below) 1) (sym o.same ∙ b.secret)) in omega arith
safe_unknown fair n s (released.by_drawing p e) = let h = key_kind 0 n 0 1 (length p.below) 0 e in omega arith

-- a reply signed with a safe key was signed by that side, in answer
signed_reply : {v : Variant} {log : Log} → Laws v → Fair v log → (n : ℕ) (b : Body Term) → safe (Public (own n 0)) log ≡ true → Ok (released.released v log) (Sign (own n 0) (v.body b)) → (a : Answered Term) × Past log (answered a) × (a.me ≡ n) × (a.reply.body ≡ b)
signed_reply {v} {log} laws fair n b s o = go (ok_signer o)
  where
    by_side : (u : Term) → Signed v log (own n 0) (v.body b) u → (a : Answered Term) × Past log (answered a) × (a.me ≡ n) × (a.reply.body ≡ b)
    by_side u (released.a_reply a p e f) = (a, p, own_side a.me n (sym e), laws.bodies a.reply.body b (sym f))
    by_side u (released.an_end c p e f g) = absurd (laws.apart b c.reply f)

    go : Known log (own n 0) ⊎ ((u : Term) × Signed v log (own n 0) (v.body b) u) → (a : Answered Term) × Past log (answered a) × (a.me ≡ n) × (a.reply.body ≡ b)
    go (inl k) = absurd (safe_unknown fair n s k)
    go (inr x) = by_side x.0 x.1

-- an end signed with a safe key was signed by that side, ending its call
signed_end : {v : Variant} {log : Log} → Laws v → Fair v log → (n : ℕ) (r : Reply Term) → safe (Public (own n 0)) log ≡ true → Ok (released.released v log) (Sign (own n 0) (v.claim (reply_term r))) → (c : Finished Term) × Past log (caller_ended c) × (c.me ≡ n) × (c.reply ≡ r)
signed_end {v} {log} laws fair n r s o = go (ok_signer o)
  where
    by_side : (u : Term) → Signed v log (own n 0) (v.claim (reply_term r)) u → (c : Finished Term) × Past log (caller_ended c) × (c.me ≡ n) × (c.reply ≡ r)
    by_side u (released.a_reply a p e f) = absurd (laws.apart a.reply.body r (sym f))
    by_side u (released.an_end c p e f g) = (c, p, own_side c.me n (sym e), reply_same c.reply r (laws.claims (reply_term c.reply) (reply_term r) (sym f)))

    go : Known log (own n 0) ⊎ ((u : Term) × Signed v log (own n 0) (v.claim (reply_term r)) u) → (c : Finished Term) × Past log (caller_ended c) × (c.me ≡ n) × (c.reply ≡ r)
    go (inl k) = absurd (safe_unknown fair n s k)
    go (inr x) = by_side x.0 x.1

-- a public lock with a safe signature in it was made by that side
locked_end : {v : Variant} {log : Log} → Laws v → Fair v log → (n : ℕ) (t : Term) (r : Reply Term) → safe (Public (own n 0)) log ≡ true → Ok (released.released v log) (lock_of v n t r) → (c : Finished Term) × Past log (caller_ended c) × (c.me ≡ n) × (c.reply ≡ r)
locked_end {v} {log} laws fair n t r s o = go (ok_closed o)
  where
    by_side : Closed v log (Mac t (Number 1 derive_lock)) 0 nothing (Both (reply_term r) (end_signature v n r)) → (c : Finished Term) × Past log (caller_ended c) × (c.me ≡ n) × (c.reply ≡ r)
    by_side (released.a_seal a p e) = let j = the_answer fair a p in let h = (hello_of a.reply).half in let y = made (length p.below) 2 in absurd (lock_seal v n t r y h h (half_of y) (Fresh (length p.below) 1) (e ∙ j.box))
    by_side (released.a_lock c p e) = (c, p, sym (lock_side v n c.me t c.secret r c.reply e), sym (lock_reply v n c.me t c.secret r c.reply e))

    go : (Ok (released.released v log) (Mac t (Number 1 derive_lock)) × Ok (released.released v log) (Both (reply_term r) (end_signature v n r))) ⊎ Closed v log (Mac t (Number 1 derive_lock)) 0 nothing (Both (reply_term r) (end_signature v n r)) → (c : Finished Term) × Past log (caller_ended c) × (c.me ≡ n) × (c.reply ≡ r)
    go (inl x) = signed_end laws fair n r s (ok_right x.1)
    go (inr x) = by_side x

-- an answer and a caller's end with one reply are one session
pub joined : {v : Variant} {log : Log} → Fair v log → (a : Answered Term) (q : Past log (answered a)) (c : Finished Term) (p : Past log (caller_ended c)) → a.reply ≡ c.reply → SameSession a c
joined fair a q c p e =
    let i = the_answer fair a q in
    let j = the_caller_end fair c p in
    let b = the_call fair j.call (later p.place j.calling) in
    record {
      called = sym i.me ∙ ap (λ (r : Reply Term). (hello_of r).called) e;
      caller = sym j.me ∙ sym b.caller ∙ ap (λ (h : Hello Term). h.caller) j.hello ∙ ap (λ (r : Reply Term). (hello_of r).caller) (sym e);
      reply = e;
      secret = sym (same_box fair c p a q (ap (λ (r : Reply Term). r.body.box) (sym e)));
    }

-- the choice of an answer is the best of what the caller really offered
pub chosen_best : {v : Variant} {log : Log} → Fair v log → (a : Answered Term) (q : Past log (answered a)) (c : Finished Term) (p : Past log (caller_ended c)) → a.reply ≡ c.reply → Best c a p.below
chosen_best fair a q c p e =
    let i = the_answer fair a q in
    let j = the_caller_end fair c p in
    record {
      call = j.call;
      calling = j.calling;
      caller = j.me;
      hello = j.hello;
      first = ap (λ (h : Hello Term). choose a.preferences h.offer) (j.hello ∙ ap hello_of (sym e)) ∙ i.best ∙ ap (λ (r : Reply Term). Some r.body.choice) e;
    }

-- a caller that ends while the called side's key is safe has a partner
pub has_answerer : {v : Variant} {log : Log} → Laws v → Fair v log → (c : Finished Term) (p : Past log (caller_ended c)) → safe c.their p.below ≡ true → Answerer c p.below
has_answerer {v} {log} laws fair c p s =
    let j = the_caller_end fair c p in
    let lower = fair_below p.place fair in
    let n = (hello_of c.reply).called in
    let x = signed_reply laws lower n c.reply.body (subst (λ k. safe k p.below ≡ true) j.their s) (subst (λ t. Ok (released.released v p.below) t) j.signature (reply_signature c.reply j.public)) in
    let a = x.0 in
    let q = later p.place x.1 in
    let sign : a.reply.signature ≡ c.reply.signature = (the_answer fair a q).signature ∙ ap (λ m. Sign (own m 0) (v.body a.reply.body)) x.2 ∙ ap (λ (b : Body Term). Sign (own n 0) (v.body b)) x.3 ∙ sym j.signature in
    let e : a.reply ≡ c.reply = λ i. record { body = x.3 i; signature = sign i } in
    record { answer = a; answering = x.1; same = joined fair a q c p e; best = chosen_best fair a q c p e }

-- a called side that ends while the caller's key is safe has a partner
pub has_caller : {v : Variant} {log : Log} → Laws v → Fair v log → (f : Finished Term) (p : Past log (called_ended f)) → safe f.their p.below ≡ true → Caller f p.below
has_caller {v} {log} laws fair f p s =
    let j = the_called_end fair f p in
    let lower = fair_below p.place fair in
    let n = (hello_of f.reply).caller in
    let x = locked_end laws lower n f.secret f.reply (subst (λ k. safe k p.below ≡ true) j.their s) j.public in
    let c = x.0 in
    let e : j.answer.reply ≡ c.reply = j.reply ∙ sym x.3 in
    let both = joined lower j.answer j.answering c x.1 e in
    record {
      answer = j.answer;
      answering = j.answering;
      own = j.me;
      ended = c;
      ending = x.1;
      reply = x.3;
      secret = sym both.secret ∙ j.secret;
      same = both;
      best = chosen_best lower j.answer j.answering c x.1 e;
    }

-- what a caller ends with is a function of its hello and of the reply's body
pub same_body : {v : Variant} {log : Log} → Fair v log → (c d : Finished Term) (p : Past log (caller_ended c)) (q : Past log (caller_ended d)) → c.reply.body ≡ d.reply.body → c.secret ≡ d.secret
same_body fair c d p q e =
    let i = the_caller_end fair c p in
    let j = the_caller_end fair d q in
    let x = made (length i.calling.below) 1 in
    let y = made (length j.calling.below) 1 in
    close_content (sealing_key x c.reply.body.seal (half_of x) c.reply.body.seal) (sealing_key y d.reply.body.seal (half_of y) d.reply.body.seal) nothing nothing c.secret d.secret 0 0 (sym i.box ∙ ap (λ (b : Body Term). b.box) e ∙ j.box)
