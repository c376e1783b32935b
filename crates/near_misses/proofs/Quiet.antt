-- A side that answers faults tells what it did, and one that never ends keeps little. Assumes nothing.
use Rattle.std.proofs.Common.{◌≡◌, ℕ, Bool, true, not, ◌||◌, eqb, List, [], ◌∷◌, ◌++◌, length, Some, None, Option, sym, refl, ap, ◌∙◌, subst, arith}
use Rattle.std.proofs.lemmas.Bool.{and_from, and_parts}
use Rattle.words.specs.Choice.{choose}
use Rattle.words.specs.Numbers.{wrong_side, nothing_in_common, common_one}
use Rattle.symbolic.specs.Term.{Term, Number, One, same}
use Rattle.symbolic.specs.Derivable.{raw, number, listed, one, both, tag}
use Rattle.protocol.specs.Got.{Got, No, Yes, bind}
use Rattle.protocol.specs.Side.{Side}
use Rattle.protocol.specs.Event.{Finished, Held, Event, caller_ended, called_ended, spoke, Entry, held}
use Rattle.protocol.specs.Step.{Reaction, begin_call, call, give_answer, take_hello}
use Rattle.protocol.specs.World as world
use Rattle.protocol.specs.World.{World, Command, handle, settled, ordered, acted, entry_at, told_by, revealed, play}
use Rattle.protocol.specs.Words.{Word, a_hello, a_reply, an_end}
use Rattle.protocol.specs.Lists.{nth}
use Rattle.protocol.specs.Symbols.{symbols, fresh, hello_term, new_keys, new_side, start}
use Rattle.protocol.proofs.Steps.{yes_same, no_yes, by_bind, by_guard, by_need}
use Rattle.promise.specs.Run.{Log, Past, never, Reach, begin, more}
use Rattle.promise.specs.Promise.{undisturbed}
use Rattle.promise.proofs.Events.{kind}
use Rattle.promise.proofs.Logs.{never_was}
use Rattle.cases.specs.Table.{opposite}
use Rattle.cases.proofs.Heard.{playing}
use Rattle.near_misses.specs.Weak.{never_ends}
use Rattle.near_misses.specs.Scripts.{prying_hello, prefers_one}
use Rattle.near_misses.specs.Attacks.{AnsweredFaultsTell, NeverEndingIsNotEnough}

numbers_apart : Number 1 8 ∷ [] ≡ Number 1 3 ∷ [] → ⊥
numbers_apart e = let n : ◌≡◌ {A = ℕ} 8 3 = cc in omega arith

longer : (e : Entry Term) → e ∷ [] ≡ [] → ⊥
longer e f = let n = ap length f in omega arith

pub answered_faults_tell : AnsweredFaultsTell
unfolding playing
answered_faults_tell = record {
  derivable = tag (both number (both number (both listed (both raw one))));
  alike_before = refl;
  alike_by_the_rules = refl;
  told_apart = numbers_apart;
  not_silent = λ P. longer (record { what = spoke 8; words = Number 1 8 ∷ [] }) (P 1 (new_side (new_keys 0 prefers_one) 1 (1 ∷ [])) (hello_term prying_hello) 8 refl refl).log;
}

-- whether an event ends a session
abbrev ends : Event Term → Bool
ends e = eqb (kind e) 2 || eqb (kind e) 3

never_both : (p : Event Term → Bool) (xs ys : Log) → never p xs ≡ true → never p ys ≡ true → never p (xs ++ ys) ≡ true
unfolding never
never_both p [] ys a b = b
never_both p (x ∷ xs) ys a b = let q = and_parts (not (p x.what)) (never p xs) a in and_from (not (p x.what)) (never p (xs ++ ys)) q.0 (never_both p xs ys q.1 b)

-- what a side does that never ends anything
acted_endless : (w : World Term) (n : ℕ) (o : Option (Side Term)) (f : Side Term → Reaction Term) → never ends w.log ≡ true → ((s : Side Term) → never ends (f s).entries ≡ true) → never ends (acted w n o f).log ≡ true
unfolding acted
acted_endless w n None f e g = e
acted_endless w n (Some s) f e g = never_both ends (f s).entries w.log (g s) e

ordered_endless : (s : Side Term) (g : Got (Reaction Term)) → ((r : Reaction Term) → g ≡ Yes r → never ends r.entries ≡ true) → never ends (ordered s g).entries ≡ true
unfolding ordered never
ordered_endless s (No n) f = refl
ordered_endless s (Yes r) f = f r refl

settled_endless : (s : Side Term) (g : Got (Reaction Term)) → ((r : Reaction Term) → g ≡ Yes r → never ends r.entries ≡ true) → never ends (settled never_ends s g).entries ≡ true
unfolding settled never
settled_endless s (No n) f = refl
settled_endless s (Yes r) f = f r refl

call_endless : (s : Side Term) (peer t : ℕ) (r : Reaction Term) → call symbols s peer (fresh t) ≡ Yes r → never ends r.entries ≡ true
unfolding call never
call_endless s peer t r e =
    let x = by_need wrong_side (nth s.keys peer) _ r e in
    ap (λ (y : Reaction Term). never ends y.entries) (sym (yes_same (begin_call symbols s peer (fresh t) x.0) r x.2))

handle_endless : (s : Side Term) (t : ℕ) (w : Word Term) (r : Reaction Term) → handle never_ends s (fresh t) w ≡ Yes r → never ends r.entries ≡ true
unfolding handle take_hello never
handle_endless s t (a_hello h) r e =
    let a = by_guard wrong_side (eqb h.called s.me) _ r e in
    let b = by_need wrong_side (nth s.keys h.caller) _ r a.1 in
    let c = by_need nothing_in_common (choose s.preferences h.offer) _ r b.2 in
    let d = by_guard common_one (not (same (symbols.common ((fresh t).key 2) h.half) One)) _ r c.2 in
    ap (λ (y : Reaction Term). never ends y.entries) (sym (yes_same (give_answer symbols s h (fresh t) b.0 c.0) r d.1))
handle_endless s t (a_reply x) r e = absurd (no_yes 4 r e)
handle_endless s t (an_end x) r e = absurd (no_yes 9 r e)

told_endless : (n : ℕ) (k : Option (Held Term)) → never ends (told_by n k) ≡ true
unfolding told_by never
told_endless n None = refl
told_endless n (Some k) = refl

revealed_endless : (n : ℕ) (o : Option (Entry Term)) → never ends (revealed n o) ≡ true
unfolding revealed never
revealed_endless n None = refl
revealed_endless n (Some e) = told_endless n (held e.what)

play_endless : (w : World Term) (c : Command Term) → never ends w.log ≡ true → never ends (play symbols never_ends fresh w c).log ≡ true
unfolding play never
play_endless w (world.Call a b) e = acted_endless w a (nth w.sides a) _ e (λ s. ordered_endless s (call symbols s b (fresh (length w.log))) (λ r f. call_endless s b (length w.log) r f))
play_endless w (world.Deliver a t) e = acted_endless w a (nth w.sides a) _ e (λ s. settled_endless s (bind (symbols.read t) (handle never_ends s (fresh (length w.log)))) (λ r f. let b = by_bind (symbols.read t) (handle never_ends s (fresh (length w.log))) r f in handle_endless s (length w.log) b.0 r b.2))
play_endless w (world.Steal a) e = acted_endless w a (nth w.sides a) _ e (λ s. refl)
play_endless w (world.Take a) e = acted_endless w a (nth w.sides a) _ e (λ s. refl)
play_endless w (world.Reveal n) e = never_both ends (revealed n (entry_at w.log n)) w.log (revealed_endless n (entry_at w.log n)) e
play_endless w world.Draw e = e

reach_endless : {preferences : List (List ℕ)} {w : World Term} → Reach never_ends preferences w → never ends w.log ≡ true
unfolding never
reach_endless (begin a e) = subst (λ (w : World Term). never ends w.log ≡ true) e refl
reach_endless (more {v = v} r c x e) = subst (λ (w : World Term). never ends w.log ≡ true) e (play_endless v c (reach_endless r))

no_caller : {preferences : List (List ℕ)} {w : World Term} → Reach never_ends preferences w → (c : Finished Term) → Past w.log (caller_ended c) → ⊥
no_caller {w = w} r c p = never_was ends w.log (reach_endless r) (caller_ended c) refl p

no_called : {preferences : List (List ℕ)} {w : World Term} → Reach never_ends preferences w → (c : Finished Term) → Past w.log (called_ended c) → ⊥
no_called {w = w} r c p = never_was ends w.log (reach_endless r) (called_ended c) refl p

-- a call and an answer are two things, and not four
two_things : length (undisturbed never_ends (start opposite) 0 1).log ≡ 2
unfolding playing
two_things = refl

pub never_ending_is_not_enough : NeverEndingIsNotEnough
unfolding playing
never_ending_is_not_enough = record {
  keeps_callers = λ ps w r c p s. absurd (no_caller r c p);
  keeps_called = λ ps w r f p s. absurd (no_called r f p);
  keeps_secrets = λ ps w r c p s g. absurd (no_caller r c p);
  never_done = λ P. let x = P 0 1 2 (new_side (new_keys 0 opposite) 0 (1 ∷ 2 ∷ [])) (new_side (new_keys 0 opposite) 1 (2 ∷ 1 ∷ [])) refl refl refl in let n = sym two_things ∙ ap length x.log in omega arith;
}
