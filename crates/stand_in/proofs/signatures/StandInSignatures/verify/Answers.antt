use Rattle.std.proofs.Common.{ap, ◌∙◌}
use Rattle.std.specs.Str.{bytes_eq}
use Rattle.std.proofs.lemmas.Slice.Eq.{bytes_eq-Decides}
use Rattle.fixed_bytes.specs.Same.{same}
use Rattle.fixed_bytes.proofs.Sameness.{decided}
use Rattle.stand_in.proofs.signatures.StandInSignatures.verify.Goals as goal

pub returns : goal.returns
returns c =
    let made = c.signature_of.result.0.bytes in
    let given = c.args.signature.now.0.bytes in
    c.eq.ensures ∙ decided (bytes_eq made given) made given (bytes_eq-Decides made given) ∙ ap (λ s. same s given) c.signature_of.ensures
