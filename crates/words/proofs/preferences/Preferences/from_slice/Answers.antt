use Rattle.std.proofs.Common.{length, Err, sym, ap, ◌∙◌, arith}
use lib.ListN.{length-map}
use Rattle.std.proofs.lemmas.Result.{err_from_is_err_and}
use Rattle.std.proofs.lemmas.Bool.{leb-true}
use Rattle.words.specs.Ciphers.{numbers}
use Rattle.words.specs.Listed.{made}
use Rattle.words.proofs.Listing.{told, stops}
use Rattle.words.proofs.preferences.Preferences.from_slice.Goals as goal

pub returns-in_err-add : goal.returns-in_err-add
returns-in_err-add c =
    let few = leb-true (length c.args.ciphers.now) 16 (sym c.if-not-can_hold.ensures) in
    let bad = stops _ (numbers c.args.ciphers.now) _ _ _ _ c.loop-cipher-test.true c.loop-cipher.invariant (omega (arith, length-map c.args.ciphers.now (λ x. x.number))) c.in_err-add.ensures.0 in
    let p = err_from_is_err_and c.from_residual-in_err-add.result c.from_residual-in_err-add.ensures.1 in
    let is = ap made p.1 ∙ (ap Err p.2 ∙ sym bad) in
    record { value = is; exact = told (numbers c.args.ciphers.now) c.from_residual-in_err-add.result is }
