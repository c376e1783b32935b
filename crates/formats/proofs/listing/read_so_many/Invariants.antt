-- What is left of the bytes gives the answer.
use Rattle.std.proofs.Common.{◌≡◌, ◌-◌, [], length}
use Rattle.words.specs.Listed.{listed}
use Rattle.formats.specs.Reading.{more_ciphers}
use Rattle.formats.proofs.listing.read_so_many.Given as goal

abbrev pub invariant-loop-i : goal.invariant-loop-i
invariant-loop-i l = (length (listed l.list) ≡ l.i) × (more_ciphers l.twice (l.count - l.i) (listed l.list) l.rest ≡ more_ciphers l.twice l.count [] l.bytes)
