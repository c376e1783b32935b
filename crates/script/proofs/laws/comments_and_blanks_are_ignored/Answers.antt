use Rattle.script.proofs.Form.{ignored}
use Rattle.script.proofs.laws.comments_and_blanks_are_ignored.Goals as goal

pub returns : goal.returns
returns c = ignored
