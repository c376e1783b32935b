use Rattle.std.proofs.Common.{◌≡◌, Err, sym, refl, ap, ◌∙◌, subst}
use Rattle.std.proofs.lemmas.Result.{err_from_is_err_and}
use Rattle.primitives.specs.Seals.{front_half, Unsealing}
use Rattle.primitives.specs.declared.seals.NotOpened.TheVariants.{Shut}
use Rattle.primitives.proofs.Sealings.{no_half, opening_key_is, opening_refused}
use Rattle.primitives.proofs.seals.open_seal.Goals as goal

-- a string that is shorter than a half has nothing to open
pub returns-in_err-front : goal.returns-in_err-front
returns-in_err-front g c =
    let short = rw c.in_err-front.ensures.ok_part at c.split_first_chunk.ensures.cases in
    let err = err_from_is_err_and c.from_residual.result c.from_residual.ensures.1 in
    let shut = rw c.in_err-front.ensures.ok_part at c.in_err-front.ensures.value in
    let which : c.from_residual.result ≡ Err Shut = cc in
    subst (Unsealing g.G.Group.model c.args.key.now.0.bytes c.args.bytes.now c.args.bytes.now) (sym which) (no_half g.G.Group.model c.args.key.now.0.bytes c.args.bytes.now short, refl)

pub returns-in_err-open_behind : goal.returns-in_err-open_behind
returns-in_err-open_behind g c =
    let model = g.G.Group.model in
    let split = rw c.in_ok-front.ensures.ok_part at c.split_first_chunk.ensures.cases in
    let own : c.from.result.bytes ≡ front_half c.args.bytes.now = c.from.ensures ∙ split.0 in
    let key = opening_key_is model c.args.key.now.0.bytes c.from.result.bytes (front_half c.args.bytes.now) c.common-agreed.result.0.bytes c.public_half.result.0.bytes c.seal_key-closing.result.key.bytes own c.common-agreed.ensures c.public_half.ensures c.seal_key-closing.ensures in
    let err = err_from_is_err_and c.from_residual-in_err-open_behind.result c.from_residual-in_err-open_behind.ensures.1 in
    subst (Unsealing model c.args.key.now.0.bytes c.args.bytes.now c.open_behind.new.word) (sym (err.1 ∙ ap Err err.2))
    (opening_refused model c.args.key.now.0.bytes c.args.bytes.now c.open_behind.new.word c.seal_key-closing.result.key.bytes key c.in_err-open_behind.ensures)
