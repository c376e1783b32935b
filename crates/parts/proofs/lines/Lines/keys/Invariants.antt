-- What is left gives the whole text.
use Rattle.std.proofs.Common.{◌≡◌, ◌/◌, drop, length}
use Rattle.parts.specs.Parts.{keys_on}
use Rattle.parts.proofs.Texts.{each_key_on}
use Rattle.parts.proofs.lines.Lines.keys.Given as goal

abbrev pub invariant-loop-half : goal.invariant-loop-half
invariant-loop-half l = each_key_on l.lines (drop l.half-index l.half-items) ≡ keys_on l.initial.lines (length l.halves / 32) l.halves
