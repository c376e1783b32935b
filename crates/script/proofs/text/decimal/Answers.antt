use Rattle.std.proofs.Common.{sym, ◌∙◌}
use Rattle.std.proofs.lemmas.Bool.{cond-false}
use Rattle.script.proofs.Digits.{goes_on, stops, ends}
use Rattle.script.proofs.text.decimal.Goals as goal

pub loop-digit-preserved : goal.loop-digit-preserved
loop-digit-preserved c = sym (goes_on _ _ _ _ c.loop-digit-test.true c.in_ok-number.ensures) ∙ c.loop-digit.invariant

pub returns-in_err-number : goal.returns-in_err-number
returns-in_err-number c = c.from_residual.ensures ∙ sym (cond-false _ _ _ (sym c.if-is_empty.ensures) ∙ sym c.loop-digit.invariant ∙ stops _ _ _ c.loop-digit-test.true c.in_err-number.ensures)

pub returns : goal.returns
returns c = sym (cond-false _ _ _ (sym c.if-is_empty.ensures) ∙ sym c.loop-digit.invariant ∙ ends _ _ _ c.loop-digit-test.false)
