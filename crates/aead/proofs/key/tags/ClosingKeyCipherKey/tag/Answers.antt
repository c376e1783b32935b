use mathlib.Core.Logic.{∥∥₁_elim}
use base.Stored.{coded_list, coded_ℕ}
use denote.Struct.Props.{≡_prop}
use Rattle.aead.proofs.key.tags.ClosingKeyCipherKey.tag.Goals as goal

pub returns : goal.returns
returns c =
    let key = c.args.self.now.key.bytes in
    ∥∥₁_elim c.args.self.now.kept (≡_prop (coded_list coded_ℕ) _ _) (λ keyed. c.tag_by.ensures key (c.start.ensures key keyed))
