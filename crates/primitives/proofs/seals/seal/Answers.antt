use Rattle.std.proofs.Common.{Err, sym, ap, ◌∙◌, subst, arith}
use Rattle.std.proofs.lemmas.Result.{err_from_is_err_and}
use Rattle.primitives.specs.Seals.{Sealing}
use Rattle.primitives.proofs.Sealings.{whole_same, half_room, not_one, sealing_key_is, sealing_done}
use Rattle.primitives.proofs.seals.seal.Goals as goal

pub returns-clause-sealed : goal.returns-clause-sealed
returns-clause-sealed g c =
    let model = g.G.Group.model in
    let key = sealing_key_is model c.taken_from.result.bytes c.args.drawn.now c.args.theirs.now.0.bytes c.common-common.result.0.bytes c.public_half-own.result.0.bytes c.seal_key-closing.result.key.bytes c.taken_from.ensures.value c.common-common.ensures c.public_half-own.ensures c.seal_key-closing.ensures in
    let drawn = c.taken_from.ensures.value in
    let closed = c.in_ok-close_behind.ensures in (
      not_one c.common-common.result.0.bytes (model.raise c.args.drawn.now c.args.theirs.now.0.bytes) model.one (c.common-common.ensures ∙ ap (λ z. model.raise z c.args.theirs.now.0.bytes) drawn) c.if-is_one.ensures,
      closed.1.0,
      sealing_done model c.args.drawn.now c.args.theirs.now.0.bytes c.args.bytes.now c.close_behind.new.word c.seal_key-closing.result.key.bytes c.copy_from_slice.new.self key (c.copy_from_slice.ensures.after ∙ c.bytes.ensures ∙ c.public_half-own.ensures ∙ ap (λ z. model.raise z model.base) drawn) closed,
    )

pub returns-in_err-close_behind-clause-sealed : goal.returns-in_err-close_behind-clause-sealed
returns-in_err-close_behind-clause-sealed g c =
    let model = g.G.Group.model in
    let drawn = c.taken_from.ensures.value in
    let closed = c.in_err-close_behind.ensures in
    let err = err_from_is_err_and c.from_residual.result c.from_residual.ensures.1 in
    subst (Sealing model c.args.drawn.now c.args.theirs.now.0.bytes c.args.bytes.now c.close_behind.new.word) (sym (err.1 ∙ ap Err err.2)) (
      not_one c.common-common.result.0.bytes (model.raise c.args.drawn.now c.args.theirs.now.0.bytes) model.one (c.common-common.ensures ∙ ap (λ z. model.raise z c.args.theirs.now.0.bytes) drawn) c.if-is_one.ensures,
      closed.1.0,
      whole_same c.close_behind.new.word c.args.bytes.now closed.0 closed.1.1,
    )

pub slice_bounds-copy_from_slice-end : goal.slice_bounds-copy_from_slice-end
slice_bounds-copy_from_slice-end g c = let room = half_room c.args.bytes.now c.in_ok-close_behind.ensures.1.0 in omega arith
