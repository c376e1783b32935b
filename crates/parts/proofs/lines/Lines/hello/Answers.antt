use Rattle.std.proofs.Common.{◌≡◌, codes}
use Rattle.formats.specs.Views.{as_hello}
use Rattle.parts.specs.Lines.{bytes_on}
use Rattle.parts.specs.Parts.{hello_on}
use Rattle.parts.proofs.lines.Lines.hello.Goals as goal

pub returns : goal.returns
returns c =
    let whole : bytes_on c.in_ok-bytes.field-0 c.args.indent.now (codes "caller's ephemeral public key") c.bytes-3.result.now ≡ hello_on c.args.self c.args.indent.now (as_hello c.args.hello.now) =
    cc (c.in_ok-number.ensures, c.in_ok-number-2.ensures, c.in_ok-ciphers.ensures, c.in_ok-bytes.ensures) in
    rw (← whole) c.bytes-4.ensures
