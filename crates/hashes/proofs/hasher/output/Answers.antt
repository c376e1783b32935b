use Rattle.std.proofs.Common.{refl, ◌∙◌}
use Rattle.sha256.specs.Sha256.{state_bytes}
use Rattle.hashes.proofs.hasher.output.Goals as goal

pub returns : goal.returns
unfolding state_bytes
returns c =
    c.copy_from_slice.ensures.after ∙ c.as_flattened.ensures.value
    ∙ rw (c.to_be_bytes.ensures, c.to_be_bytes-2.ensures, c.to_be_bytes-3.ensures, c.to_be_bytes-4.ensures, c.to_be_bytes-5.ensures, c.to_be_bytes-6.ensures, c.to_be_bytes-7.ensures, c.to_be_bytes-8.ensures) refl
