use Rattle.std.proofs.Common.{◌<◌, ◌++◌, map, length, bit_xor, ◌∙◌, ap₂, arith}
use Rattle.std.proofs.lemmas.List.{take_all, drop_all, append-nil, get_or_default}
use Rattle.std.proofs.lemmas.List.Edits.{map_over_more}
use Rattle.hashes.specs.Hmac.{masked}
use Rattle.hashes.proofs.hmac.pad_with.Goals as goal

pub loop-byte-preserved : goal.loop-byte-preserved
loop-byte-preserved c =
    let within : c.loop-byte.byte-index < length c.loop-byte.byte-items = omega arith in
    map_over_more (λ b. bit_xor b c.args.pad) c.args.block.now c.loop-byte.byte-items c.loop-byte.byte-index _ (omega arith) c.loop-byte.invariant (get_or_default c.loop-byte.byte-items c.loop-byte.byte-index 0 _ within)

pub returns : goal.returns
unfolding masked
returns c =
    c.loop-byte.invariant
    ∙ ap₂ (λ xs ys. map (λ b. bit_xor b c.args.pad) xs ++ ys) (take_all c.loop-byte.byte-index c.args.block.now (omega arith)) (drop_all c.loop-byte.byte-index c.args.block.now (omega arith))
    ∙ append-nil _
