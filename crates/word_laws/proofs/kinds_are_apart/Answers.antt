use Rattle.word_laws.proofs.Apart.{kinds_are_apart}
use Rattle.word_laws.proofs.kinds_are_apart.Goals as goal

pub returns : goal.returns
returns c = kinds_are_apart
