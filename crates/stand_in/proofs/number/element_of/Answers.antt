use Rattle.std.proofs.Common.{◌≡◌, ◌++◌, append-nil, ap, ◌∙◌, rules}
use Rattle.fixed_bytes.specs.Numbers.{big_endian}
use Rattle.fixed_bytes.specs.Zeros.{zeros}
use Rattle.stand_in.proofs.number.element_of.Goals as goal

pub returns : goal.returns
unfolding zeros
returns c =
    let written : c.to_be_bytes.result ≡ big_endian 8 c.args.number = search rules in
    ap (λ l. zeros 24 ++ l) (append-nil c.copy_from_slice.new.self ∙ c.copy_from_slice.ensures.after ∙ written)
