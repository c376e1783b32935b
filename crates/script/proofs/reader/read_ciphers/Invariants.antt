-- What is left of the line gives the answer.
use Rattle.std.proofs.Common.{◌≡◌, ◌-◌, length}
use Rattle.words.specs.Choice.{most_ciphers}
use Rattle.words.specs.Listed.{listed}
use Rattle.script.specs.Lines.{ciphers, more_ciphers}
use Rattle.script.proofs.reader.read_ciphers.Given as goal

abbrev pub invariant-loop-found : goal.invariant-loop-found
invariant-loop-found l =
    more_ciphers (most_ciphers - length (listed l.preferences)) (listed l.preferences) l.found-iterator ≡ ciphers l.fn.words
