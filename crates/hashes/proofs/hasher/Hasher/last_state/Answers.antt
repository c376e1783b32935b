use Rattle.std.proofs.Common.{sym, ◌∙◌}
use Rattle.std.proofs.lemmas.Bool.{ltb-true, ltb-false}
use Rattle.hashes.proofs.Ending.{ends_in_one, ends_in_two}
use Rattle.hashes.proofs.hasher.Hasher.last_state.Goals as goal

pub returns-then-length_fits : goal.returns-then-length_fits
returns-then-length_fits c m held =
    ends_in_one c.args.self m c.ended-block.result c.with_length.result c.compress.result
    (ltb-true _ _ (sym c.length_fits.ensures ∙ c.if-length_fits.true))
    c.ended-block.ensures c.with_length.ensures c.compress.ensures held

pub returns-else-length_fits : goal.returns-else-length_fits
returns-else-length_fits c m held =
    ends_in_two c.args.self m c.ended-block.result c.with_length-else-length_fits.result
    c.compress-state.result c.compress-else-length_fits.result
    (ltb-false _ _ (sym c.length_fits.ensures ∙ c.if-length_fits.false))
    c.ended-block.ensures c.with_length-else-length_fits.ensures c.compress-state.ensures c.compress-else-length_fits.ensures held
