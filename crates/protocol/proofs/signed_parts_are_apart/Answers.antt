use Rattle.protocol.proofs.signed_parts_are_apart.Goals as goal
use Rattle.protocol.proofs.Apart.{body_same, claims_same, marks_apart}

pub returns : goal.returns
returns c = record { replies = body_same; ends = claims_same; marks = marks_apart }
