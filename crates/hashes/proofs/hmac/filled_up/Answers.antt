use Rattle.hashes.proofs.Keys.{filled_is}
use Rattle.hashes.proofs.hmac.filled_up.Goals as goal

pub returns : goal.returns
returns c = filled_is c.args.key.now c.written.result c.written.ensures
