-- In a fair log everything that was heard is public, by the families of what sides have released. Assumes nothing.
use Rattle.std.proofs.Common.{◌≡◌, ℕ, ◌⊎◌, List, [], ◌∷◌, length, Some, None, sym, refl, ap, ◌∙◌, subst, inl, inr, arith}
use mathlib.Core.List.Memᴰ
use mathlib.Core.List.{Memᴰ}
use Rattle.words.specs.Registry.{derive_lock}
use Rattle.symbolic.specs.Key.{Key, own, made, insert}
use Rattle.symbolic.specs.Term.{Term, Number, Fresh, Secret, One, Element, Mac, Both, rise}
use Rattle.symbolic.specs.Derivable.{Gets}
use Rattle.symbolic.proofs.Public as public
use Rattle.symbolic.proofs.Public.{Ok, Few, but, Lawful, stays, ok_left, ok_right, ok_untag, ok_mac_key, raised_by_unknown, derives}
use Rattle.protocol.specs.Words.{Reply}
use Rattle.protocol.specs.Event.{Begun, Answered, Finished, Theft, Told, Held, held, Event, begun, answered, caller_ended, called_ended, stolen, taken, told, drew, spoke, Entry, heard}
use Rattle.protocol.specs.Symbols.{body_term, reply_term, nothing, Variant}
use Rattle.promise.proofs.Variants.{Laws}
use Rattle.promise.specs.Run.{Log, At, here, Past}
use Rattle.promise.specs.Session.{hello_of}
use Rattle.promise.proofs.Logs.{later, at_before, newest_at}
use Rattle.promise.proofs.Shapes.{key_kind, key_index, secret_key, close_key, close_content, mac_content, pair_number}
use Rattle.promise.proofs.Released as released
use Rattle.promise.proofs.Released.{Known, Given, Signed, Closed, released_grows, end_signature, lock_of, sealing_key, half_of, CallMade, AnswerMade, CallerEnd, CalledEnd, TheftDone, OpenCall, KeysTaken, SecretTold, Justified, Fair}

-- a part of a fair log is fair
pub fair_below : {v : Variant} {log whole : Log} {e : Entry Term} → At e log whole → Fair v whole → Fair v log
fair_below a fair = record { each = λ e below b. fair.each e below (at_before b a) }

module _ {v : Variant} {log : Log} (fair : Fair v log) where
  pub the_call : (b : Begun Term) (p : Past log (begun b)) → CallMade b p.entry.words p.below
  unfolding Justified
  the_call b p = subst (λ w. Justified v w p.entry.words p.below) p.is (fair.each p.entry p.below p.place)

  pub the_answer : (a : Answered Term) (p : Past log (answered a)) → AnswerMade v a p.entry.words p.below
  unfolding Justified
  the_answer a p = subst (λ w. Justified v w p.entry.words p.below) p.is (fair.each p.entry p.below p.place)

  pub the_caller_end : (c : Finished Term) (p : Past log (caller_ended c)) → CallerEnd v c p.entry.words p.below
  unfolding Justified
  the_caller_end c p = subst (λ w. Justified v w p.entry.words p.below) p.is (fair.each p.entry p.below p.place)

  pub the_called_end : (f : Finished Term) (p : Past log (called_ended f)) → CalledEnd v f p.entry.words p.below
  unfolding Justified
  the_called_end f p = subst (λ w. Justified v w p.entry.words p.below) p.is (fair.each p.entry p.below p.place)

  pub the_theft : (t : Theft Term) (p : Past log (stolen t)) → TheftDone t p.entry.words
  unfolding Justified
  the_theft t p = subst (λ w. Justified v w p.entry.words p.below) p.is (fair.each p.entry p.below p.place)

  pub the_taking : (t : Theft Term) (p : Past log (taken t)) → KeysTaken t p.entry.words p.below
  unfolding Justified
  the_taking t p = subst (λ w. Justified v w p.entry.words p.below) p.is (fair.each p.entry p.below p.place)

  pub the_telling : (t : Told Term) (p : Past log (told t)) → SecretTold t p.entry.words p.below
  unfolding Justified
  the_telling t p = subst (λ w. Justified v w p.entry.words p.below) p.is (fair.each p.entry p.below p.place)

  pub the_drawing : (p : Past log drew) → p.entry.words ≡ Fresh (length p.below) 0 ∷ Secret (made (length p.below) 0) ∷ []
  unfolding Justified
  the_drawing p = subst (λ w. Justified v w p.entry.words p.below) p.is (fair.each p.entry p.below p.place)

  pub said_nothing : (n : ℕ) → Past log (spoke n) → ⊥
  unfolding Justified
  said_nothing n p = subst (λ w. Justified v w p.entry.words p.below) p.is (fair.each p.entry p.below p.place)

-- nobody learns the key of a seal: it is wiped when the reply is sent
pub seal_key_unknown : {v : Variant} {log : Log} → Fair v log → (t : ℕ) → Known log (made t 2) → ⊥
seal_key_unknown fair t (released.everybody n e) = let h = key_kind 1 t 2 2 n 0 e in omega arith
seal_key_unknown fair t (released.by_theft v p e) = let h = key_kind 1 t 2 0 v.who 0 e in omega arith
seal_key_unknown fair t (released.by_taking v p m) = go ((the_taking fair v p).each (Secret (made t 2)) m)
  where
    go : (Secret (made t 2) ≡ Secret (own v.who 0)) ⊎ OpenCall v.who (Secret (made t 2)) p.below → ⊥
    go (inl e) = let h = key_kind 1 t 2 0 v.who 0 (secret_key (made t 2) (own v.who 0) e) in omega arith
    go (inr o) = let b = the_call (fair_below p.place fair) o.call o.calling in let h = key_index 1 t 2 1 (length o.calling.below) 1 (secret_key (made t 2) (made (length o.calling.below) 1) (sym o.same ∙ b.secret)) in omega arith
seal_key_unknown fair t (released.by_drawing p e) = let h = key_index 1 t 2 1 (length p.below) 0 e in omega arith

-- who came to hold a secret by an event: a side that answered, a caller that ended or a called side that ended
pub data Holder (s : Event Term) (who : ℕ) (secret : Term) : Type 0 where
  an_answerer : (a : Answered Term) → s ≡ answered a → a.me ≡ who → a.secret ≡ secret → Holder s who secret
  a_caller : (c : Finished Term) → s ≡ caller_ended c → c.me ≡ who → c.secret ≡ secret → Holder s who secret
  a_called : (f : Finished Term) → s ≡ called_ended f → f.me ≡ who → f.secret ≡ secret → Holder s who secret

pub holder : (s : Event Term) (who : ℕ) (secret : Term) → held s ≡ Some (record { who = who; secret = secret }) → Holder s who secret
unfolding held
holder s who secret e = go s e
  where
    some_is : (x y : Held Term) → Some x ≡ Some y → x ≡ y
    some_is x y e = cc

    not_some : (y : Held Term) → None ≡ Some y → ⊥
    not_some y e = let z : ◌≡◌ {A = ℕ} 0 1 = cc in omega arith

    go : (w : Event Term) → held w ≡ Some (record { who = who; secret = secret }) → Holder w who secret
    go (begun b) e = absurd (not_some _ e)
    go (answered a) e = let f = some_is (record { who = a.me; secret = a.secret }) (record { who = who; secret = secret }) e in an_answerer a refl (ap (λ (z : Held Term). z.who) f) (ap (λ (z : Held Term). z.secret) f)
    go (caller_ended c) e = let f = some_is (record { who = c.me; secret = c.secret }) (record { who = who; secret = secret }) e in a_caller c refl (ap (λ (z : Held Term). z.who) f) (ap (λ (z : Held Term). z.secret) f)
    go (called_ended c) e = let f = some_is (record { who = c.me; secret = c.secret }) (record { who = who; secret = secret }) e in a_called c refl (ap (λ (z : Held Term). z.who) f) (ap (λ (z : Held Term). z.secret) f)
    go (stolen t) e = absurd (not_some _ e)
    go (taken t) e = absurd (not_some _ e)
    go (told t) e = absurd (not_some _ e)
    go drew e = absurd (not_some _ e)
    go (spoke n) e = absurd (not_some _ e)

-- the same thing under its other name
abbrev pub past_is : {log : Log} {v w : Event Term} → Past log v → v ≡ w → Past log w
past_is p e = record { entry = p.entry; below = p.below; place = p.place; is = p.is ∙ e }

-- What was closed is public if its key is: a session secret, since then the hello's half was made of known keys;
-- and what an end holds, since then the secret is public that it is locked with.
opened : {v : Variant} {log : Log} → Laws v → Fair v log → {k h m : Term} {n : ℕ} → Closed v log k n h m → Ok (released.released v log) k → Ok (released.released v log) m
opened {v} {log} laws fair {k} {h} {m} {n} (released.a_seal a p e) o =
    let j = the_answer fair a p in
    let t = length p.below in
    let half = (hello_of a.reply).half in
    let shape = e ∙ j.box in
    let c : Ok (released.released v log) (rise (made t 2) half) = ok_mac_key (subst (λ x. Ok (released.released v log) x) (close_key k (sealing_key (made t 2) half half (half_of (made t 2))) h nothing m (Fresh t 1) n 0 shape) o) in
    let g = known (raised_by_unknown (made t 2) (seal_key_unknown fair t) half c) in
    subst (λ x. Ok (released.released v log) x) (sym (close_content k (sealing_key (made t 2) half half (half_of (made t 2))) h nothing m (Fresh t 1) n 0 shape)) (public.fresh g)
  where
    known : (rise (made (length p.below) 2) (hello_of a.reply).half ≡ One) ⊎ ((ks : List Key) × ((hello_of a.reply).half ≡ Element ks) × ((x : Key) → Memᴰ x ks → Known log x)) → Given log (length p.below) 1
    known (inl e) = released.by_one a p refl refl e
    known (inr r) = released.by_sealing a p refl refl r.0 r.1 r.2
opened {v} {log} laws fair {k} {h} {m} {n} (released.a_lock f p e) o =
    let j = the_caller_end fair f p in
    let w = stays (released_grows v p.place) j.public in
    let s : Ok (released.released v log) f.secret = ok_mac_key (subst (λ x. Ok (released.released v log) x) (close_key k (Mac f.secret (Number 1 derive_lock)) h nothing m (Both (reply_term f.reply) (end_signature v f.me f.reply)) n 0 e) o) in
    subst (λ x. Ok (released.released v log) x) (sym (close_content k (Mac f.secret (Number 1 derive_lock)) h nothing m (Both (reply_term f.reply) (end_signature v f.me f.reply)) n 0 e)) (public.both w (public.signed f.secret (released.an_end f p refl refl refl) s (laws.claim_public log (reply_term f.reply) w)))

pub lawful : {v : Variant} {log : Log} → Laws v → Fair v log → Lawful (released.released v log)
lawful laws fair = record { plain_known = λ n. released.everybody n refl; opens = opened laws fair }

-- the parts of a public reply
pub reply_box : {v : Variant} {log : Log} (r : Reply Term) → Ok (released.released v log) (reply_term r) → Ok (released.released v log) r.body.box
reply_box r o = ok_right (ok_right (ok_right (ok_right (ok_untag (ok_left o)))))

pub reply_signature : {v : Variant} {log : Log} (r : Reply Term) → Ok (released.released v log) (reply_term r) → Ok (released.released v log) r.signature
reply_signature r o = ok_right o

-- a session that a caller ended has its secret from a box that somebody made who had the secret, or from the box of an answer
pub secret_source : {v : Variant} {log : Log} → Fair v log → (c : Finished Term) (p : Past log (caller_ended c)) → Ok (released.released v p.below) c.secret ⊎ ((a : Answered Term) × (q : Past p.below (answered a)) × (c.reply.body.box ≡ a.reply.body.box))
secret_source {v} {log} fair c p = go (public.ok_closed (subst (λ x. Ok (released.released v p.below) x) j.box (reply_box c.reply j.public)))
  where
    j : CallerEnd v c p.entry.words p.below
    j = the_caller_end fair c p

    x : Key
    x = made (length j.calling.below) 1

    k : Term
    k = sealing_key x c.reply.body.seal (half_of x) c.reply.body.seal

    made_by_side : Closed v p.below k 0 nothing c.secret → Ok (released.released v p.below) c.secret ⊎ ((a : Answered Term) × (q : Past p.below (answered a)) × (c.reply.body.box ≡ a.reply.body.box))
    made_by_side (released.a_seal a q e) = inr (a, q, j.box ∙ e)
    made_by_side (released.a_lock f q e) = absurd (pair_number (half_of x) c.reply.body.seal 1 derive_lock (mac_content (rise x c.reply.body.seal) f.secret (Both (half_of x) c.reply.body.seal) (Number 1 derive_lock) (close_key k (Mac f.secret (Number 1 derive_lock)) nothing nothing c.secret (Both (reply_term f.reply) (end_signature v f.me f.reply)) 0 0 e)))

    go : (Ok (released.released v p.below) k × Ok (released.released v p.below) c.secret) ⊎ Closed v p.below k 0 nothing c.secret → Ok (released.released v p.below) c.secret ⊎ ((a : Answered Term) × (q : Past p.below (answered a)) × (c.reply.body.box ≡ a.reply.body.box))
    go (inl o) = inl o.1
    go (inr y) = made_by_side y

-- the secret in the box of an answer, opened by a caller, is the answer's
pub same_box : {v : Variant} {log : Log} → Fair v log → (c : Finished Term) (p : Past log (caller_ended c)) (a : Answered Term) (q : Past log (answered a)) → c.reply.body.box ≡ a.reply.body.box → c.secret ≡ a.secret
same_box fair c p a q e =
    let j = the_caller_end fair c p in
    let i = the_answer fair a q in
    let t = length q.below in
    let x = made (length j.calling.below) 1 in
    let h = (hello_of a.reply).half in
    close_content (sealing_key x c.reply.body.seal (half_of x) c.reply.body.seal) (sealing_key (made t 2) h h (half_of (made t 2))) nothing nothing c.secret (Fresh t 1) 0 0 (sym j.box ∙ e ∙ i.box) ∙ sym i.secret

one_word : {t w : Term} {ws : List Term} → ws ≡ w ∷ [] → Memᴰ t ws → t ≡ w
one_word {t} {w} {ws} e m = go (Memᴰ.cases_cons (subst (λ l. Memᴰ t l) e m))
  where
    go : (t ≡ w) ⊎ Memᴰ t [] → t ≡ w
    go (inl f) = f
    go (inr n) = elim n [ ]

two_words : {t v w : Term} {ws : List Term} → ws ≡ v ∷ w ∷ [] → Memᴰ t ws → (t ≡ v) ⊎ (t ≡ w)
two_words {t} {v} {w} {ws} e m = go (Memᴰ.cases_cons (subst (λ l. Memᴰ t l) e m))
  where
    go : (t ≡ v) ⊎ Memᴰ t (w ∷ []) → (t ≡ v) ⊎ (t ≡ w)
    go (inl f) = inl f
    go (inr n) = inr (one_word refl n)

-- the half of any key may be public
half_public : {v : Variant} {log : Log} (k : Key) → Ok (released.released v log) (half_of k)
unfolding insert
half_public k = public.element (but k [] refl (λ x m. elim m [ ]))

module _ {v : Variant} {log : Log} (laws : Laws v) (fair : Fair v log) where
  ok_by : {t w : Term} → t ≡ w → Ok (released.released v log) w → Ok (released.released v log) t
  ok_by e o = subst (λ x. Ok (released.released v log) x) (sym e) o

  call_public : (b : Begun Term) (p : Past log (begun b)) (t : Term) → Memᴰ t p.entry.words → Ok (released.released v log) t
  call_public b p t m =
      let j = the_call fair b p in
      ok_by (one_word j.sent m) (public.tag (public.both public.number (public.both public.number (public.both public.listed (public.both (ok_by j.nonce (public.fresh (released.nonce_begun b p refl refl))) (ok_by j.half (half_public (made (length p.below) 1))))))))

  answer_public : (a : Answered Term) (p : Past log (answered a)) (t : Term) → Memᴰ t p.entry.words → Ok (released.released v log) t
  answer_public a p t m =
      let j = the_answer fair a p in
      let box : Ok (released.released v log) a.reply.body.box = ok_by j.box (public.closed (released.a_seal a p (sym j.box)) public.number) in
      let body : Ok (released.released v log) (body_term a.reply.body) = public.tag (public.both (stays (released_grows v p.place) j.public) (public.both public.number (public.both (ok_by j.nonce (public.fresh (released.nonce_answered a p refl refl))) (public.both (ok_by j.seal (half_public (made (length p.below) 2))) box)))) in
      ok_by (one_word j.sent m) (public.both body (ok_by j.signature (public.signed nothing (released.a_reply a p refl refl) public.number (laws.body_public log a.reply.body body))))

  end_public : (c : Finished Term) (p : Past log (caller_ended c)) (t : Term) → Memᴰ t p.entry.words → Ok (released.released v log) t
  end_public c p t m = let j = the_caller_end fair c p in ok_by (one_word j.sent m) (public.tag (public.closed (released.a_lock c p refl) public.number))

  theft_public : (robbed : Theft Term) (p : Past log (stolen robbed)) (t : Term) → Memᴰ t p.entry.words → Ok (released.released v log) t
  theft_public robbed p t m = let j = the_theft fair robbed p in ok_by (one_word j.sent m) (public.secret (released.by_theft robbed p refl))

  taking_public : (robbed : Theft Term) (p : Past log (taken robbed)) (t : Term) → Memᴰ t p.entry.words → Ok (released.released v log) t
  taking_public robbed p t m = go ((the_taking fair robbed p).each t m)
    where
      known : (k : Key) → t ≡ Secret k → Ok (released.released v log) t
      known k e = ok_by e (public.secret (released.by_taking robbed p (subst (λ x. Memᴰ x p.entry.words) e m)))

      go : (t ≡ Secret (own robbed.who 0)) ⊎ OpenCall robbed.who t p.below → Ok (released.released v log) t
      go (inl e) = known (own robbed.who 0) e
      go (inr o) = let b = the_call (fair_below p.place fair) o.call o.calling in known (made (length o.calling.below) 1) (sym o.same ∙ b.secret)

  drawn_public : (p : Past log drew) (t : Term) → Memᴰ t p.entry.words → Ok (released.released v log) t
  drawn_public p t m = go (two_words (the_drawing fair p) m)
    where
      go : (t ≡ Fresh (length p.below) 0) ⊎ (t ≡ Secret (made (length p.below) 0)) → Ok (released.released v log) t
      go (inl e) = ok_by e (public.fresh (released.by_drawing p refl refl))
      go (inr e) = ok_by e (public.secret (released.by_drawing p refl))

  telling_public : (k : Told Term) (p : Past log (told k)) (t : Term) → Memᴰ t p.entry.words → Ok (released.released v log) t
  telling_public k p t m = ok_by (one_word j.sent m) (go j.session j.having (holder j.session k.who k.secret j.holds))
    where
      j : SecretTold k p.entry.words p.below
      j = the_telling fair k p

      lower : Fair v p.below
      lower = fair_below p.place fair

      told_fresh : (n : ℕ) → k.secret ≡ Fresh n 1 → Ok (released.released v log) k.secret
      told_fresh n e = ok_by e (public.fresh (released.by_telling k p e))

      opened_it : (c : Finished Term) (q : Past p.below (caller_ended c)) → c.secret ≡ k.secret → Ok (released.released v q.below) c.secret ⊎ ((a : Answered Term) × (r : Past q.below (answered a)) × (c.reply.body.box ≡ a.reply.body.box)) → Ok (released.released v log) k.secret
      opened_it c q e (inl o) = subst (λ x. Ok (released.released v log) x) e (stays (released_grows v p.place) (stays (released_grows v q.place) o))
      opened_it c q e (inr r) = told_fresh (length r.1.below) (sym e ∙ same_box lower c q r.0 (later q.place r.1) r.2 ∙ (the_answer lower r.0 (later q.place r.1)).secret)

      go : (s : Event Term) → Past p.below s → Holder s k.who k.secret → Ok (released.released v log) k.secret
      go s q (an_answerer a e f g) = let r = past_is q e in told_fresh (length r.below) (sym g ∙ (the_answer lower a r).secret)
      go s q (a_caller c e f g) = let r = past_is q e in opened_it c r g (secret_source lower c r)
      go s q (a_called c e f g) = let r = past_is q e in let i = the_called_end lower c r in told_fresh (length i.answering.below) (sym g ∙ sym i.secret ∙ (the_answer lower i.answer (later r.place i.answering)).secret)

-- what was sent with the newest entry is public
sent_public : {v : Variant} → Laws v → (e : Entry Term) (log : Log) → Fair v (e ∷ log) → (t : Term) → Memᴰ t e.words → Ok (released.released v (e ∷ log)) t
sent_public {v} laws e log fair t m = go e.what refl
  where
    at : (w : Event Term) → e.what ≡ w → Past (e ∷ log) w
    at w f = record { entry = e; below = log; place = here refl refl; is = f }

    go : (w : Event Term) → e.what ≡ w → Ok (released.released v (e ∷ log)) t
    go (begun b) f = call_public laws fair b (at (begun b) f) t m
    go (answered a) f = answer_public laws fair a (at (answered a) f) t m
    go (caller_ended c) f = end_public laws fair c (at (caller_ended c) f) t m
    go (called_ended c) f = elim (subst (λ l. Memᴰ t l) (the_called_end fair c (at (called_ended c) f)).sent m) [ ]
    go (stolen v) f = theft_public laws fair v (at (stolen v) f) t m
    go (taken v) f = taking_public laws fair v (at (taken v) f) t m
    go (told k) f = telling_public laws fair k (at (told k) f) t m
    go drew f = drawn_public laws fair (at drew f) t m
    go (spoke n) f = absurd (said_nothing fair n (at (spoke n) f))

-- in a fair log all that was heard is public
pub heard_public : {v : Variant} → Laws v → (log : Log) → Fair v log → (t : Term) → Memᴰ t (heard log) → Ok (released.released v log) t
unfolding heard
heard_public laws [] fair t m = elim m [ ]
heard_public {v} laws (e ∷ log) fair t m = go (Memᴰ.append_cases e.words m) (heard_public laws log (fair_below (newest_at e log) fair) t)
  where
    go : Memᴰ t e.words ⊎ Memᴰ t (heard log) → (Memᴰ t (heard log) → Ok (released.released v log) t) → Ok (released.released v (e ∷ log)) t
    go (inl n) rest = sent_public laws e log fair t n
    go (inr n) rest = stays (released_grows v (newest_at e log)) (rest n)

-- and so is all that can be derived from it
pub derivable_public : {v : Variant} {log : Log} → Laws v → Fair v log → {t : Term} → Gets (heard log) t → Ok (released.released v log) t
derivable_public {v} {log} laws fair g = derives (lawful laws fair) (heard_public laws log fair) g
