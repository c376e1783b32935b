use Rattle.word_laws.proofs.Apart.{locked_ends_are_apart}
use Rattle.word_laws.proofs.locked_ends_are_apart.Goals as goal

pub returns : goal.returns
returns c = locked_ends_are_apart
