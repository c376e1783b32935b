-- What is left gives the whole text.
use Rattle.std.proofs.Common.{◌≡◌, drop}
use Rattle.words.specs.Ciphers.{numbers}
use Rattle.parts.specs.Lines.{numbers_on}
use Rattle.parts.proofs.lines.Lines.ciphers.Given as goal

abbrev pub invariant-loop-cipher : goal.invariant-loop-cipher
invariant-loop-cipher l = numbers_on l.lines l.indent l.name (numbers (drop l.cipher-index l.ciphers)) ≡ numbers_on l.initial.lines l.indent l.name (numbers l.ciphers)
