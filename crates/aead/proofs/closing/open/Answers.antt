use Rattle.std.proofs.Common.{◌≡◌, ◌-◌, length, is_ok, refl, rules, arith}
use Rattle.aead.proofs.Closings.{opened}
use Rattle.aead.proofs.closing.open.Goals as goal

pub returns : goal.returns
returns g c =
    let end : c.in_ok-end.end ≡ length c.args.bytes.now - 16 = grind (arith, rules) in
    opened (g.K.CipherKey.secret c.args.key.now) c.args.n c.args.head.now c.args.bytes.now c.turn_content.new.bytes c.in_ok-end.end (is_ok c.turn_content.result) (c.if-not-opens.ensures.0 refl) end c.turn_content.ensures
