use Rattle.std.proofs.Common.{◌≡◌, ◌-◌, ◌∷◌, ◌++◌, take, replicate, ap, ◌∙◌, arith}
use Rattle.std.proofs.lemmas.List.{length-take-le}
use Rattle.hashes.proofs.Ending.{ended_is}
use Rattle.hashes.proofs.hasher.ended.Goals as goal

pub returns : goal.returns
returns c =
    let filled = c.args.filled in
    let block = c.args.block.now in
    let same : filled - 0 ≡ filled = omega arith in
    ended_is (take (filled - 0) block) c.written-out.result filled
    (length-take-le (filled - 0) block (omega arith) ∙ same) c.requires c.written-out.ensures
    ∙ ap (λ n. take n block ++ (128 ∷ replicate (63 - filled) 0)) same
