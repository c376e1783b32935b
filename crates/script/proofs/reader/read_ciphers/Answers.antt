use Rattle.std.proofs.Common.{Ok, Err, sym, ap, ◌∙◌}
use Rattle.std.proofs.lemmas.Result.{err_from_is_err_and}
use Rattle.words.specs.Listed.{listed}
use Rattle.script.specs.declared.expected.Expected.TheVariants.{NumberOfCipher}
use Rattle.script.specs.Lines.{seen, needs}
use Rattle.script.specs.Text.{decimal}
use Rattle.script.proofs.Wishing.{done, no_number, refused, added}
use Rattle.script.proofs.reader.read_ciphers.Goals as goal

pub returns-in_err-read_cipher-2 : goal.returns-in_err-read_cipher-2
returns-in_err-read_cipher-2 c =
    let at = c.in-Some.ensures.steps in
    let none = c.in_err-read_cipher-2.ensures ∙ ap (λ w. needs (decimal w) NumberOfCipher Ok) at.found_is in
    let p = err_from_is_err_and c.from_residual-in_err-read_cipher-2.result c.from_residual-in_err-read_cipher-2.ensures.1 in
    ap (seen listed) p.1 ∙ (ap Err p.2 ∙ (sym (no_number _ _ _ _ (sym at.none_where_empty) none) ∙ c.loop-found.invariant))

pub loop-found-preserved : goal.loop-found-preserved
loop-found-preserved c =
    let at = c.in-Some.ensures.steps in
    let number = c.in_ok-read_cipher-2.ensures ∙ ap (λ w. needs (decimal w) NumberOfCipher Ok) at.found_is in
    added _ _ _ _ _ (sym at.none_where_empty) number c.in_ok-add_cipher.ensures at.rest_is ∙ c.loop-found.invariant

pub returns-in_err-add_cipher : goal.returns-in_err-add_cipher
returns-in_err-add_cipher c =
    let at = c.in-Some.ensures.steps in
    let number = c.in_ok-read_cipher-2.ensures ∙ ap (λ w. needs (decimal w) NumberOfCipher Ok) at.found_is in
    let p = err_from_is_err_and c.from_residual-in_err-add_cipher.result c.from_residual-in_err-add_cipher.ensures.1 in
    ap (seen listed) p.1 ∙ (ap Err p.2 ∙ (sym (refused _ _ _ _ (sym at.none_where_empty) number c.in_err-add_cipher.ensures.0) ∙ c.loop-found.invariant))

pub returns : goal.returns
returns c = sym (done _ _ _ (sym c.in-None.ensures.steps.none_where_empty)) ∙ c.loop-found.invariant
