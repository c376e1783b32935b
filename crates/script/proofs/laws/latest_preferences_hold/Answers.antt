use Rattle.script.proofs.Form.{latest_hold}
use Rattle.script.proofs.laws.latest_preferences_hold.Goals as goal

pub returns : goal.returns
returns c = latest_hold
