use Rattle.std.proofs.Common.{is_ok}
use Rattle.aead.specs.Closing.{Closing}
use Rattle.aead.proofs.Closings.{behind}
use Rattle.aead.proofs.closing.close_behind.Goals as goal

pub returns : goal.returns
returns g c = behind (λ before after. Closing (g.K.CipherKey.secret c.args.key.now) c.args.n c.args.head.now before after (is_ok c.close.result)) c.args.start c.args.word.now c.close.new.bytes c.if-start-word.false c.close.ensures
