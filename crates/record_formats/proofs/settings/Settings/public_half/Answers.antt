use Rattle.std.proofs.Common.{Some, [], sym, refl, ap, ◌∙◌}
use Rattle.std.proofs.lemmas.Option.{slice_get_within, get_or_from_slice_get}
use Rattle.record_formats.proofs.Keys.{half_there}
use Rattle.record_formats.proofs.settings.Settings.public_half.Goals as goal

pub returns : goal.returns
returns c =
    let pieces = c.as_chunks.result.0.now in
    let found = sym c.in_ok-half.ensures in
    ap Some c.from.ensures ∙ half_there c.args.self.now.halves.now pieces c.args.side c.args.side c.in_ok-half.half c.as_chunks.ensures.front refl (slice_get_within pieces c.args.side c.in_ok-half.half found) (sym (get_or_from_slice_get pieces c.args.side c.in_ok-half.half [] found))
