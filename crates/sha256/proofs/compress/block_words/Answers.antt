use Rattle.std.proofs.Common.{◌<◌, ◌/◌, [], ◌∷◌, ◌++◌, length, sym, refl, ap, ◌∙◌, arith, length-set}
use Rattle.std.proofs.lemmas.List.{take_more_set}
use Rattle.sha256.specs.Words.{words}
use Rattle.sha256.proofs.Rounds.{words_more, chunk_word}
use Rattle.sha256.proofs.compress.block_words.Goals as goal

pub loop-t-init : goal.loop-t-init
unfolding words
loop-t-init c = (refl, refl)

pub loop-t-preserved : goal.loop-t-preserved
loop-t-preserved c =
    let h : c.loop-t.t < length c.loop-t.w = omega arith in
    let word = chunk_word c.args.block.now c.as_chunks.result.0.now (length c.args.block.now / 4) c.loop-t.t c.from_be_bytes.result (omega arith) c.as_chunks.ensures.front c.from_be_bytes.ensures in (
      length-set _ _ _ ∙ c.loop-t.invariant.0,
      take_more_set c.loop-t.w c.loop-t.t c.from_be_bytes.result h
          ∙ ap (λ ws. ws ++ c.from_be_bytes.result ∷ []) c.loop-t.invariant.1
          ∙ ap (λ v. words c.loop-t.t c.args.block.now ++ v ∷ []) word
          ∙ sym (words_more c.loop-t.t c.args.block.now),
    )
