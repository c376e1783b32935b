use mathlib.Core.Path.{ap, ◌∙◌}
use Rattle.fixed_bytes.specs.Numbers.{value}
use Rattle.fixed_bytes.proofs.Numbers.{value_of_eight}
use Rattle.stand_in.specs.Products.{last_eight}
use Rattle.stand_in.proofs.number.number_of.Goals as goal

pub returns : goal.returns
returns c =
    let last = last_eight c.args.bytes.now c.in-Some.last.now c.told-bytes c.in-Some.ensures.cases.1 in
    c.from_be_bytes.ensures ∙ value_of_eight c.in-Some.last.now last.0 ∙ ap value last.1
