use Rattle.std.proofs.Common.{◌≡◌, ◌/◌, ◌*◌, ◌+◌, ◌%◌, [], Some, None, drop, length, sym, ap, ap₂, ◌∙◌, arith, vec_items}
use Rattle.parts.proofs.Hexes.{each_pair, in_pairs, odd, pair_next, pairs_done}
use Rattle.parts.proofs.unhex.unhex.Goals as goal

pub returns-then-not-is_empty : goal.returns-then-not-is_empty
returns-then-not-is_empty c =
    let left : length c.args.digits.now % 2 ≡ 1 = grind arith in
    sym (odd [] c.args.digits.now left)

pub loop-pair-init : goal.loop-pair-init
loop-pair-init c =
    let even : length c.args.digits.now ≡ 2 * (length c.args.digits.now / 2) = grind arith in
    ap₂ each_pair c.new-bytes.ensures.items c.as_chunks.ensures.front ∙ sym (in_pairs (length c.args.digits.now / 2) [] c.args.digits.now even)

pub returns-in_default : goal.returns-in_default
returns-in_default c =
    let pairs = c.as_chunks.result.0.now in
    sym (pair_next (vec_items c.loop-pair.bytes) pairs c.loop-pair.pair-index [] None c.loop-pair-test.true (sym c.in_default.is ∙ c.byte_of.ensures)) ∙ c.loop-pair.invariant

pub loop-pair-preserved : goal.loop-pair-preserved
loop-pair-preserved c =
    let pairs = c.as_chunks.result.0.now in
    ap (λ bs. each_pair bs (drop (c.loop-pair.pair-index + 1) pairs)) c.in_ok-push.ensures.items
    ∙ (sym (pair_next (vec_items c.loop-pair.bytes) pairs c.loop-pair.pair-index [] (Some c.in-Some.byte) c.loop-pair-test.true (sym c.in-Some.is ∙ c.byte_of.ensures)) ∙ c.loop-pair.invariant)

pub returns : goal.returns
returns c = sym (pairs_done (vec_items c.loop-pair.bytes) c.as_chunks.result.0.now c.loop-pair.pair-index c.loop-pair-test.false) ∙ c.loop-pair.invariant
