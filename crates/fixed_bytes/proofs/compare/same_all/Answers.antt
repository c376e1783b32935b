use Rattle.std.proofs.Common.{◌≡◌, length, sym, ap, ◌∙◌}
use mathlib.Core.Logic.{inl, inr}
use Rattle.std.proofs.lemmas.List.{nil_from_length}
use Rattle.fixed_bytes.proofs.Comparing.{difference, same_decides}
use Rattle.fixed_bytes.proofs.compare.same_all.Goals as goal

pub returns : goal.returns
returns c =
    let rest = c.loop-x.x-iterator in
    let none : length rest.a.rest.now ≡ 0 = elim c.in-None.ensures.steps [ inl p ↦ p.1.0 | inr p ↦ c.loop-x.invariant.1 ∙ p.1.0 ] in
    let all = sym (ap (λ xs. difference c.loop-x.difference xs rest.b.rest.now) (nil_from_length rest.a.rest.now none)) ∙ c.loop-x.invariant.0 in
    rw all (same_decides c.args.a.now c.args.b.now c.requires)
