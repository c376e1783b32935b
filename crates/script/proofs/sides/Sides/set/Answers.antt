use Rattle.std.proofs.Common.{rules}
use Rattle.std.proofs.lemmas.List.{map-set}
use Rattle.script.proofs.sides.Sides.set.Goals as goal

pub returns : goal.returns
returns c = search (rules, map-set)
