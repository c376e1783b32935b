use Rattle.std.proofs.Common.{length, ap, ◌∙◌, rules, tests}
use Rattle.std.specs.Option.{unwrap_or}
use Rattle.std.proofs.lemmas.Iterator.{YieldsList-from_slice}
use Rattle.std.proofs.lemmas.Iterator.Search.{position_from_yields_List}
use Rattle.script.proofs.Cutting.{split}
use Rattle.script.proofs.text.cut.Goals as goal

pub returns : goal.returns
returns g c stop h =
    let text = c.args.text.now in
    let found = position_from_yields_List stop _ _ c.position-stopped.result c.position-stopped.ensures.ran (YieldsList-from_slice text (cc)) (λ x b q k. let each = h.each x.now b in search (rules, tests)) in
    split stop _ _ _ _ (c.cut_place.ensures ∙ ap (λ o. unwrap_or o (length text)) found) c.split_at.ensures.front c.split_at.ensures.back
