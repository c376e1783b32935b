use Rattle.std.proofs.Common.{◌+◌, drop, sym, ap, ◌∙◌}
use Rattle.parts.proofs.Texts.{each_key_on, key_next}
use Rattle.parts.proofs.lines.Lines.keys.Goals as goal

pub loop-half-preserved : goal.loop-half-preserved
loop-half-preserved c =
    let keys = c.as_chunks.result.0.now in
    ap (λ t. each_key_on t (drop (c.loop-half.half-index + 1) keys)) c.in_ok-lines.ensures
    ∙ (sym (key_next c.loop-half.lines keys c.loop-half.half-index _ c.loop-half-test.true) ∙ c.loop-half.invariant)
