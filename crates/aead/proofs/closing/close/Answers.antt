use Rattle.std.proofs.Common.{◌≡◌, ◌-◌, ◌≤◌, length, true, refl, ◌∙◌, rules, arith}
use Rattle.aead.specs.Closing.{nonce_of}
use Rattle.aead.proofs.Closed.{fits_is, closing_done}
use Rattle.aead.proofs.closing.close.Goals as goal

pub returns : goal.returns
returns g c =
    let room : 16 ≤ length c.args.bytes.now = grind (arith, rules) in
    let end : c.in_ok-end.end ≡ length c.args.bytes.now - 16 = grind (arith, rules) in
    let turned = c.in_ok-turn_content.ensures in
    (fits_is c.args.bytes.now c.in_ok-end.end room end true turned.0, closing_done c.args.bytes.now c.in_ok-end.end room end (g.K.CipherKey.secret c.args.key.now) c.args.n (nonce_of c.args.n) refl c.turn_content.new.bytes turned.1 c.args.head.now c.copy_from_slice.new.self (c.copy_from_slice.ensures.after ∙ c.tag-tag.ensures))
