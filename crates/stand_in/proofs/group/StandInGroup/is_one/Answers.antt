use mathlib.Core.Path.{sym, ◌∙◌}
use Rattle.fixed_bytes.specs.Zeros.{zeros}
use Rattle.stand_in.proofs.group.StandInGroup.is_one.Goals as goal

pub returns : goal.returns
unfolding zeros
returns c = ((λ t. sym c.bytes.ensures ∙ c.same_bytes.ensures.0 t), λ e. c.same_bytes.ensures.1 (c.bytes.ensures ∙ e))
