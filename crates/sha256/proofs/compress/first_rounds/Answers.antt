use Rattle.std.proofs.Common.{rules, ◌≡◌, sym, refl, ◌∙◌}
use Rattle.std.proofs.lemmas.Slice.Zip.{either_empty_from_Zip}
use Rattle.std.specs.Simd.{first_chunks}
use Rattle.sha256.specs.Sha256.{constants}
use Rattle.sha256.proofs.Rounds.{rounds_by, first_eights, none_left}
use Rattle.sha256.proofs.compress.first_rounds.Goals as goal

pub loop-constants-init : goal.loop-constants-init
unfolding constants
loop-constants-init c =
    let ks : c.into_iter-constants-iterator.result.a.rest.now ≡ first_chunks 8 8 constants = search rules in
    let ws : c.into_iter-constants-iterator.result.b.rest.now ≡ first_chunks 8 2 c.args.w.now = search rules in
    rw (ks, ws) (first_eights c.args.s c.args.w.now c.told-w)

pub loop-constants-preserved : goal.loop-constants-preserved
unfolding rounds_by
loop-constants-preserved c = search rules

pub returns : goal.returns
returns c = sym (none_left c.loop-constants.s _ _ (either_empty_from_Zip c.loop-constants.constants-iterator c.next.new.self _ refl c.in-None.ensures.steps)) ∙ c.loop-constants.invariant
