use Rattle.std.proofs.Common.{refl}
use Rattle.ciphers.specs.ChaCha20.{quarter_round, quarter_at, double_round, double_rounds}
use Rattle.ciphers.proofs.examples.examples_hold.Goals as goal

pub returns : goal.returns
unfolding quarter_round quarter_at double_round double_rounds
returns c = record { quarter = refl; on_state = refl; rounds = refl; block = refl }
