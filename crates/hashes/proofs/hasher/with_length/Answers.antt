use Rattle.std.proofs.Common.{◌≡◌, ◌*◌, ◌%◌, ◌^◌, rules}
use Rattle.sha256.specs.Sha256.{number_bytes}
use Rattle.hashes.proofs.Ending.{lengthened}
use Rattle.hashes.proofs.hasher.with_length.Goals as goal

pub returns : goal.returns
unfolding number_bytes
returns c =
    let bytes : c.to_be_bytes.result ≡ number_bytes ((c.args.total * 8) % 2 ^ 64) = search rules in
    lengthened c.args.block.now c.to_be_bytes.result c.written.result c.args.total c.told-block bytes c.written.ensures
