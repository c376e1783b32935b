use Rattle.std.proofs.Common.{ap, ◌∙◌}
use Rattle.sha256.specs.Sha256.{sha256, state_bytes}
use Rattle.hashes.proofs.hasher.Hasher.finish.Goals as goal

pub returns : goal.returns
unfolding sha256
returns c m held = c.output.ensures ∙ ap state_bytes (c.last_state.ensures m held)
