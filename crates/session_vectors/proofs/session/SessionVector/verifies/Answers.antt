use Rattle.std.proofs.Common.{ap, ◌∙◌}
use Rattle.primitives.specs.Group.{half}
use Rattle.stand_in.specs.StandIn.{stand_in_group}
use Rattle.session_vectors.specs.Session.{signed_part}
use Rattle.session_vectors.proofs.Sessions.{verified}
use Rattle.session_vectors.proofs.session.SessionVector.verifies.Goals as goal

pub returns : goal.returns
returns c =
    verified c.verify.result c.args.self.now.called_key c.public_half-half.result.0.bytes c.signed_part.result.now (signed_part c.args.self.now.reply.now) c.signature.result.0.bytes
    (c.public_half-half.ensures ∙ ap (half stand_in_group) c.from.ensures) c.signed_part.ensures c.signature.ensures c.verify.ensures
