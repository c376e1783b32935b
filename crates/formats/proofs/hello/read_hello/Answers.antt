use Rattle.std.proofs.Common.{Err, sym, ap, ◌∙◌}
use Rattle.std.proofs.lemmas.Result.{err_from_is_err_and}
use Rattle.std.proofs.lemmas.Bool.{eqb-true, eqb-false}
use Rattle.formats.specs.Reading.{with}
use Rattle.formats.specs.Views.{as_hello}
use Rattle.formats.proofs.Hellos.{refused_hello, long_hello, whole_hello}
use Rattle.formats.proofs.hello.read_hello.Goals as goal

pub returns-in_err-hello : goal.returns-in_err-hello
returns-in_err-hello c =
    let p = err_from_is_err_and c.from_residual.result c.from_residual.ensures.1 in
    ap (with as_hello) p.1 ∙ (ap Err p.2 ∙ sym (refused_hello c.args.bytes.now _ c.in_err-hello.ensures))

pub returns-then-not-is_whole : goal.returns-then-not-is_whole
returns-then-not-is_whole c = sym (long_hello c.args.bytes.now _ c.in_ok-hello.ensures (λ e. eqb-false _ _ (sym c.if-not-is_whole.ensures) (e ∙ sym c.len.ensures)))

pub returns : goal.returns
returns c = sym (whole_hello c.args.bytes.now _ c.in_ok-hello.ensures (eqb-true _ _ (sym c.if-not-is_whole.ensures) ∙ c.len.ensures))
