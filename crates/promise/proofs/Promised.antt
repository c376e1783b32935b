-- Every world that the network can reach keeps the promise. Assumes nothing.
use Rattle.std.proofs.Common.{ℕ, List, [], ◌∷◌, refl}
use Rattle.symbolic.specs.Term.{Term}
use Rattle.protocol.specs.World.{rules, World, Command, play, plays}
use Rattle.protocol.specs.Symbols.{symbols, fresh, start, Variant, standard, primitives}
use Rattle.promise.specs.Run.{Reach, begin, more}
use Rattle.promise.specs.Promise.{Promise, Always, AllAllowed, EveryRunKeepsThePromise}
use Rattle.promise.proofs.Variants.{Laws, standard_laws}
use Rattle.promise.proofs.Reached.{Good, reached_good}
use Rattle.promise.proofs.Kept as kept
use Rattle.promise.proofs.Undisturbed.{undisturbed_ends}

pub good_promise : {v : Variant} → Laws v → {preferences : List (List ℕ)} {w : World Term} → Good v preferences w → Promise (rules (primitives v)) w
good_promise {v} laws {w = w} good = record {
  right_keys = kept.right_keys laws good;
  caller_partner = kept.caller_partner laws good;
  called_partner = kept.called_partner laws good;
  one_each = kept.one_each laws good;
  by_its_words = kept.by_its_words laws good;
  unshared = kept.unshared laws good;
  secret_kept = kept.secret_kept laws good;
  called_secret_kept = kept.called_secret_kept laws good;
  only_given_away = kept.only_given_away laws good;
  nobody_else = kept.nobody_else laws good;
  choice_offered = kept.choice_offered laws good;
  refusal_silent = kept.refusal_silent v w;
  undisturbed_ends = undisturbed_ends laws good;
  tables = kept.tables laws good;
}

-- in every variant that keeps the laws
pub promised_in : (v : Variant) → Laws v → (preferences : List (List ℕ)) (w : World Term) → Reach (rules (primitives v)) preferences w → Promise (rules (primitives v)) w
promised_in v laws preferences w r = good_promise laws (reached_good laws r)

pub promised : Always (Promise (rules symbols))
promised preferences w r = promised_in standard standard_laws preferences w r

plays_reach : {preferences : List (List ℕ)} (commands : List (Command Term)) (w : World Term) → Reach (rules symbols) preferences w → AllAllowed (rules symbols) w commands → Reach (rules symbols) preferences (plays symbols (rules symbols) fresh w commands)
unfolding plays AllAllowed
plays_reach [] w r x = r
plays_reach (c ∷ cs) w r x = plays_reach cs (play symbols (rules symbols) fresh w c) (more r c x.0 refl) x.1

pub every_run : EveryRunKeepsThePromise
every_run preferences a commands x = promised preferences (plays symbols (rules symbols) fresh (start preferences) commands) (plays_reach commands (start preferences) (begin a refl) x)
