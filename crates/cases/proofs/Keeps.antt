-- In a row the secret of a session that its caller ended surely stays underivable, by the promise. Assumes nothing.
use Rattle.std.proofs.Common.{◌≡◌, ℕ, suc, Bool, true, eqb, ◌⊎◌, List, [], ◌∷◌, drop, Some, refl, inl, inr}
use mathlib.Core.List.Memᴰ
use mathlib.Core.List.{Memᴰ}
use Rattle.symbolic.specs.Term.{Term}
use Rattle.symbolic.specs.Derivable.{Gets}
use Rattle.protocol.specs.Lists.{nth}
use Rattle.protocol.specs.Event.{Finished, Event, caller_ended, told, heard}
use Rattle.protocol.specs.World.{rules}
use Rattle.protocol.specs.Symbols.{symbols, start}
use Rattle.promise.specs.Run.{Log, Past, all_proper, never, safe, untaken}
use Rattle.promise.specs.Session as session
use Rattle.promise.specs.Session.{GivenAway}
use Rattle.promise.specs.Promise.{AllAllowed}
use Rattle.promise.proofs.Events.{kind}
use Rattle.promise.proofs.Logs.{never_was}
use Rattle.promise.proofs.Promised.{every_run}
use Rattle.cases.specs.Table.{Row, played}
use Rattle.cases.proofs.Heard.{stands_at}

-- whether a secret is given away by an event
abbrev pub tells : Event Term → Bool
tells e = eqb (kind e) 6

pub only_one : {t u : Term} → Memᴰ t (u ∷ []) → t ≡ u
only_one {t} {u} m = go (Memᴰ.cases_cons m)
  where
    go : (t ≡ u) ⊎ Memᴰ t [] → t ≡ u
    go (inl e) = e
    go (inr n) = elim n [ ]

-- nobody gave the secret away
pub untold : (log : Log) → never tells log ≡ true → (c : Finished Term) (p : Past log (caller_ended c)) → GivenAway log c p → ⊥
untold log n c p (session.by_caller t q e f) = never_was tells log n (told t) refl q
untold log n c p (session.by_answerer t q a r e f g) = never_was tells log n (told t) refl q
untold log n c p (session.by_called t q a r e f g) = never_was tells log n (told t) refl q

-- the caller's end stands at place k from the newest
pub kept_by : (r : Row) → all_proper r.preferences ≡ true → AllAllowed (rules symbols) (start r.preferences) r.script → (k : ℕ) (c : Finished Term) (words : List Term) → nth (played r).log k ≡ Some (record { what = caller_ended c; words = words }) → safe c.their (drop (suc k) (played r).log) ≡ true → untaken (played r).log ≡ true → never tells (played r).log ≡ true → Gets (heard (played r).log) c.secret → ⊥
kept_by r a x k c words e s u n g =
    let p = stands_at (played r).log k (record { what = caller_ended c; words = words }) e in
    ((every_run r.preferences a r.script x).nobody_else u c p (session.by_caller s) (untold (played r).log n c p)).underivable g
