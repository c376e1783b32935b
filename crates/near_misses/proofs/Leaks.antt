-- Without a rule, the secret of a session that was ended surely can be derived, and neither end gave it away. Assumes nothing.
use Rattle.std.proofs.Common.{◌≡◌, true, List, [], ◌∷◌, refl}
use Rattle.symbolic.specs.Key.{own, made}
use Rattle.symbolic.specs.Term.{Term, Fresh, Secret}
use Rattle.symbolic.specs.Derivable.{Gets, number, both, tag, raise, mac, close}
use Rattle.protocol.specs.Words.{Reply, an_end}
use Rattle.protocol.specs.Algebra.{locked}
use Rattle.protocol.specs.Step.{end_content}
use Rattle.protocol.specs.Event.{Finished, caller_ended}
use Rattle.protocol.specs.Symbols.{symbols, hello_term, reply_term, word_term}
use Rattle.promise.specs.Run.{Log, Past, never, untaken}
use Rattle.promise.specs.Session as session
use Rattle.promise.specs.Session.{Out}
use Rattle.promise.specs.Promise.{identity}
use Rattle.promise.proofs.Logs.{none_taken}
use Rattle.cases.specs.Table.{end, opposite, first_hello, first_reply, first_end}
use Rattle.cases.proofs.Heard.{playing, stands_at, first, second, third, fourth, hello_half, reply_signature, reply_nonce, reply_seal, reply_box, own_half, opened}
use Rattle.cases.proofs.Keeps.{tells, untold}
use Rattle.near_misses.specs.Weak.{resaid, reused, keeps_key, unsigned_seal, one_key, before_the_seal}
use Rattle.near_misses.specs.Scripts.{keeps_key_script, unsigned_seal_script, resealed_reply, one_key_script, one_key_reply, reply_signing, with_own_seal}
use Rattle.near_misses.specs.Attacks.{world_after, KeepingKeysBreaks, UnsignedSealBreaks, OneKeyBreaks}

computing : Unit {0}
unfolding playing resaid reused
computing = tt

-- neither end told, and no private keys were taken before the end: so it didn't come out
not_out : {log : Log} {c : Finished Term} {p : Past log (caller_ended c)} → Out log c p → never tells log ≡ true → untaken p.below ≡ true → ⊥
not_out {log} {c} {p} (session.given_away x) n u = untold log n c p x
not_out {log} {c} {p} (session.taken_open x) n u = none_taken p.below u x.theft x.taking

pub keeping_keys_breaks : KeepingKeysBreaks
unfolding computing
keeping_keys_breaks = record {
  proper = refl;
  allowed = (tt, (first, (first, (first, (tt, tt)))));
  sees = refl;
  broken = λ P.
      let log = (world_after keeps_key opposite keeps_key_script).log in
      let c : Finished Term = record { me = 0; their = identity 1; reply = first_reply; secret = Fresh 1 1 } in
      let p = stands_at log 2 (record { what = caller_ended c; words = first_end ∷ [] }) refl in
      not_out (P c p (session.by_caller refl) (opened (made 0 1) first_hello.half first_reply.body.seal (Fresh 1 1) second (own_half second) (reply_seal first_reply fourth) (reply_box first_reply fourth))) refl refl;
}

-- another seal put into a reply that was heard
resealed : {ts : List Term} (r : Reply Term) → Gets ts (hello_term r.body.hello) → Gets ts (reply_term r) → Gets ts (Fresh 2 0) → Gets ts (Secret (made 2 0)) → Gets ts (reply_term (with_own_seal 2 r))
unfolding computing
resealed r h g value key =
    let half = hello_half r.body.hello h in
    both (tag (both h (both number (both (reply_nonce r g) (both (own_half key) (close (mac (raise key half) (both half (own_half key))) number value)))))) (reply_signature r g)

pub unsigned_seal_breaks : UnsignedSealBreaks
unfolding computing
unsigned_seal_breaks = record {
  proper = refl;
  allowed = (tt, (first, (tt, (resealed (reply_signing before_the_seal 1 first_hello 2 1) fourth third first second, tt))));
  sees = refl;
  broken = λ P.
      let log = (world_after unsigned_seal opposite unsigned_seal_script).log in
      let c : Finished Term = record { me = 0; their = identity 1; reply = resealed_reply; secret = Fresh 2 0 } in
      let p = stands_at log 0 (record { what = caller_ended c; words = word_term (an_end (locked symbols (Fresh 2 0) (end_content symbols (Secret (own 0 0)) resealed_reply))) ∷ [] }) refl in
      not_out (P c p (session.by_caller refl) second) refl refl;
}

pub one_key_breaks : OneKeyBreaks
unfolding computing
one_key_breaks = record {
  proper = refl;
  allowed = (tt, (tt, (second, (first, (tt, tt)))));
  sees = refl;
  broken = λ P.
      let log = (world_after one_key opposite one_key_script).log in
      let c : Finished Term = record { me = 0; their = identity 1; reply = one_key_reply; secret = Fresh 2 1 } in
      let p = stands_at log 1 (record { what = caller_ended c; words = end 0 one_key_reply 2 ∷ [] }) refl in
      not_out (P c p (session.by_caller refl) (opened (made 0 1) first_hello.half one_key_reply.body.seal (Fresh 2 1) second (own_half second) (reply_seal one_key_reply fourth) (reply_box one_key_reply fourth))) refl refl;
}
