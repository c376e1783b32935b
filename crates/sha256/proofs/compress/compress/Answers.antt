use Rattle.std.proofs.Common.{take, drop, refl}
use Rattle.sha256.specs.Sha256.{constants}
use Rattle.sha256.proofs.Rounds.{by_quarters}
use Rattle.sha256.proofs.compress.compress.Goals as goal

pub returns : goal.returns
unfolding constants
returns c =
    by_quarters c.args.state c.args.block.now (take 16 constants) (take 16 (drop 16 constants)) (take 16 (drop 32 constants)) (take 16 (drop 48 constants)) refl refl refl refl refl
    c.block_words-w.result c.more_rounds.result.1 c.more_rounds-2.result.1
    c.first_rounds-s.result c.more_rounds.result.0 c.more_rounds-2.result.0 c.more_rounds-3.result.0 c.add.result
    c.block_words-w.ensures c.first_rounds-s.ensures
    c.more_rounds.ensures.state c.more_rounds.ensures.words
    c.more_rounds-2.ensures.state c.more_rounds-2.ensures.words
    c.more_rounds-3.ensures.state
    c.add.ensures
