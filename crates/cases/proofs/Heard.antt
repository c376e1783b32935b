-- Worlds that are computed: all that they are computed with, what stands where, and what was heard. Assumes nothing.
use Rattle.std.proofs.Common.{◌≡◌, ℕ, zero, suc, List, [], ◌∷◌, drop, Some, sym, refl}
use mathlib.Core.List.Memᴰ
use Rattle.words.specs.Registry.{kind_hello, mark_reply}
use Rattle.words.specs.Choice.{holds, distinct, choose}
use Rattle.symbolic.specs.Key.{Key, insert, precedes}
use Rattle.symbolic.specs.Term.{Term, Number, Listed, Secret, Element, Both, Mac, Close, same, rise, seen}
use Rattle.symbolic.specs.Derivable.{Gets, by_ear, generator, both, left, right, untag, raise, mac, unclose}
use Rattle.protocol.specs.Lists.{nth, put, seek, without, newest}
use Rattle.protocol.specs.Got.{bind, guard, need}
use Rattle.protocol.specs.Words.{Hello, Reply}
use Rattle.protocol.specs.Event.{Entry, heard}
use Rattle.protocol.specs.Step.{call, take_hello, take_reply, take_end}
use Rattle.protocol.specs.World.{handle, settled, ordered, acted, play, plays}
use Rattle.protocol.specs.Symbols.{hello_term, body_term, reply_term, nothing, as_tagged, as_pair, as_number, as_list, read_hello, read_body, read_seen, key_seen, public_seen, by_key, verified, unclose_seen, front_seen, rear_seen, new_keys, new_sides}
use Rattle.protocol.proofs.Steps.{none_some, some_same}
use Rattle.promise.specs.Run.{Log, At, here, there, Past, all_proper, Allowed, robs, takes, never}
use Rattle.promise.specs.Promise.{AllAllowed, last_heard}
use Rattle.cases.specs.Sight.{sight, sights}

-- all that a world is computed with
unfoldable pub playing : Unit {0}
unfolding insert precedes same rise seen holds distinct choose nth put seek without newest bind guard need call take_hello take_reply take_end handle settled ordered acted play plays as_tagged as_pair as_number as_list read_hello read_body read_seen key_seen public_seen by_key verified unclose_seen front_seen rear_seen new_keys new_sides all_proper robs takes never sight sights heard AllAllowed Allowed last_heard
playing = tt

pub place_of : (log : Log) (k : ℕ) (e : Entry Term) → nth log k ≡ Some e → At e (drop (suc k) log) log
unfolding nth
place_of [] k e f = absurd (none_some e f)
place_of (x ∷ log) zero e f = here (sym (some_same x e f)) refl
place_of (x ∷ log) (suc k) e f = there (place_of log k e f)

-- what stands at place k from the newest
abbrev pub stands_at : (log : Log) (k : ℕ) (e : Entry Term) → nth log k ≡ Some e → Past log e.what
stands_at log k e f = record { entry = e; below = drop (suc k) log; place = place_of log k e f; is = refl }

-- what was heard, by how many words were heard since
pub first : {t : Term} {ts : List Term} → Gets (t ∷ ts) t
first = by_ear (Memᴰ.head refl)

pub second : {s t : Term} {ts : List Term} → Gets (s ∷ t ∷ ts) t
second = by_ear (Memᴰ.tail (Memᴰ.head refl))

pub third : {r s t : Term} {ts : List Term} → Gets (r ∷ s ∷ t ∷ ts) t
third = by_ear (Memᴰ.tail (Memᴰ.tail (Memᴰ.head refl)))

pub fourth : {q r s t : Term} {ts : List Term} → Gets (q ∷ r ∷ s ∷ t ∷ ts) t
fourth = by_ear (Memᴰ.tail (Memᴰ.tail (Memᴰ.tail (Memᴰ.head refl))))

-- the parts of a hello
pub hello_nonce : {ts : List Term} (h : Hello Term) → Gets ts (hello_term h) → Gets ts h.nonce
hello_nonce h g = left h.half (right (Listed h.offer) (right (Number 2 h.called) (right (Number 2 h.caller) (untag kind_hello g))))

pub hello_half : {ts : List Term} (h : Hello Term) → Gets ts (hello_term h) → Gets ts h.half
hello_half h g = right h.nonce (right (Listed h.offer) (right (Number 2 h.called) (right (Number 2 h.caller) (untag kind_hello g))))

-- the parts of a reply
module _ {ts : List Term} (r : Reply Term) (g : Gets ts (reply_term r)) where
  pub reply_signature : Gets ts r.signature
  reply_signature = right (body_term r.body) g

  behind_choice : Gets ts (Both r.body.nonce (Both r.body.seal r.body.box))
  behind_choice = right (Number 1 r.body.choice) (right (hello_term r.body.hello) (untag mark_reply (left r.signature g)))

  pub reply_nonce : Gets ts r.body.nonce
  reply_nonce = left (Both r.body.seal r.body.box) behind_choice

  pub reply_seal : Gets ts r.body.seal
  reply_seal = left r.body.box (right r.body.nonce behind_choice)

  pub reply_box : Gets ts r.body.box
  reply_box = right r.body.seal (right r.body.nonce behind_choice)

-- the half of a key at hand
pub own_half : {ts : List Term} {k : Key} → Gets ts (Secret k) → Gets ts (Element (k ∷ []))
unfolding insert rise
own_half g = raise g generator

-- what is in a box that was sealed for the half of a key at hand
pub opened : {ts : List Term} (k : Key) (half seal content : Term) → Gets ts (Secret k) → Gets ts half → Gets ts seal → Gets ts (Close (Mac (rise k seal) (Both half seal)) 0 nothing content) → Gets ts content
opened k half seal content key h s box = unclose (Mac (rise k seal) (Both half seal)) nothing 0 box (mac (raise key s) (both h s))
