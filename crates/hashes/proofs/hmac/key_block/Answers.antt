use Rattle.std.proofs.Common.{sym, ap, ◌∙◌}
use Rattle.std.proofs.lemmas.Bool.{ltb-true, ltb-false}
use Rattle.hashes.specs.Hmac.{filled_up}
use Rattle.hashes.proofs.Keys.{long_key, short_key}
use Rattle.hashes.proofs.hmac.key_block.Goals as goal

pub returns-then-is_long : goal.returns-then-is_long
returns-then-is_long c =
    c.filled_up.ensures ∙ ap filled_up c.digest.ensures
    ∙ long_key c.args.key.now (ltb-true _ _ (sym c.is_long.ensures ∙ c.if-is_long.true))

pub returns-else-is_long : goal.returns-else-is_long
returns-else-is_long c =
    c.filled_up-else-is_long.ensures
    ∙ short_key c.args.key.now (ltb-false _ _ (sym c.is_long.ensures ∙ c.if-is_long.false))
