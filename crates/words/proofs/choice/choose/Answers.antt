use Rattle.words.proofs.Choosing.{answered}
use Rattle.words.proofs.choice.choose.Goals as goal

pub returns : goal.returns
returns c =
    let a = answered _ _ _ _ _ c.as_slice.ensures c.as_slice-2.ensures c.first_common.ensures in
    record { value = a.0; best = a.1 }
