use Rattle.std.proofs.Common.{◌∙◌}
use Rattle.words.proofs.Listing.{contained}
use Rattle.words.proofs.preferences.methods.is_among.Goals as goal

pub returns : goal.returns
returns c = c.contains.ensures.value ∙ contained c.args.ciphers.now c.args.cipher
