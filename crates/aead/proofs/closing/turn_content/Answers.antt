use Rattle.std.proofs.Common.{subst}
use Rattle.ciphers.specs.ChaCha20.{Turned}
use Rattle.aead.proofs.closing.turn_content.Goals as goal

pub returns : goal.returns
returns g c =
    let turned = c.in_ok-turn.ensures in
    let under = subst (λ k. Turned k 1 c.nonce_of.result c.args.bytes.now c.turn.new.bytes) c.secret.ensures turned.1 in
    (turned.0, subst (λ o. Turned (g.K.CipherKey.secret c.args.key.now) 1 o c.args.bytes.now c.turn.new.bytes) c.nonce_of.ensures under)
