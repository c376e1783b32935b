use Rattle.std.proofs.Common.{Err, ap, ◌∙◌, arith}
use Rattle.std.proofs.lemmas.Result.{err_from_is_err_and}
use Rattle.formats.specs.Reading.{with}
use Rattle.formats.specs.Views.{as_hello, seen}
use Rattle.formats.proofs.Replies.{faulty_part, hello_fits}
use Rattle.formats.proofs.reply.hello_in.Goals as goal

pub returns-in_err-hello : goal.returns-in_err-hello
returns-in_err-hello c =
    let p = err_from_is_err_and c.from_residual-in_err-hello.result c.from_residual-in_err-hello.ensures.1 in
    ap (with seen) p.1 ∙ (ap Err p.2 ∙ faulty_part c.args.reply.now c.in_ok-behind.behind.now c.in_ok-behind.ensures _ c.in_err-hello.ensures)

pub returns-in_default : goal.returns-in_default
returns-in_default c =
    let fits = hello_fits c.args.reply.now c.in_ok-behind.behind.now c.in_ok-behind.ensures (as_hello c.in_ok-hello.hello) c.in_ok-hello.ensures in
    absurd (omega (arith, fits, c.len.ensures, c.in_default.ensures.cases))
