use Rattle.std.proofs.Common.{refl, lit≤}
use Rattle.words.proofs.Listing.{one_distinct}
use Rattle.words.proofs.preferences.Preferences.only.Goals as goal

pub invariant_of-result : goal.invariant_of-result
invariant_of-result c = record { whole = refl; few = lit≤ tt; sound = one_distinct c.args.cipher.number }
