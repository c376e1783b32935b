-- The digits that are left give the number.
use Rattle.std.proofs.Common.{◌≡◌, drop}
use Rattle.script.specs.Text.{with_digits}
use Rattle.script.proofs.text.decimal.Given as goal

abbrev pub invariant-loop-digit : goal.invariant-loop-digit
invariant-loop-digit l = with_digits l.number (drop l.digit-index l.digits) ≡ with_digits 0 l.digits
