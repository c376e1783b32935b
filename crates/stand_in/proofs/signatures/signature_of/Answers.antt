use mathlib.Core.List.{◌++◌}
use mathlib.Core.Path.{ap, ◌∙◌}
use Rattle.fixed_bytes.specs.Zeros.{zeros}
use Rattle.hashes.specs.Hmac.{hmac_sha256}
use Rattle.stand_in.proofs.signatures.signature_of.Goals as goal

pub returns : goal.returns
unfolding zeros
returns c = c.from.ensures ∙ ap (λ l. l ++ zeros 32) (c.copy_from_slice.ensures.after ∙ c.hmac.ensures ∙ ap (λ k. hmac_sha256 k c.args.message.now) c.bytes.ensures)
