use Rattle.std.proofs.Common.{◌<◌, length, sym, ◌∙◌, arith, length-set}
use Rattle.words.proofs.Listing.{has_room, grown_array}
use Rattle.words.proofs.preferences.Preferences.add.Goals as goal

pub invariant_of-self : goal.invariant_of-self
invariant_of-self c =
    let p = c.args.self.now in
    let can = sym c.in_ok-admits.ensures in
    let room : p.count < length p.ciphers = has_room p.ciphers p.count c.args.cipher p.whole p.few can in
    record { whole = length-set _ _ _ ∙ p.whole; few = omega (arith, p.whole); sound = grown_array _ _ _ room p.sound can }
