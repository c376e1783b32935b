use Rattle.std.proofs.Common.{refl}
use Rattle.hashes.specs.Hmac.{key_block, masked, hmac_sha256}
use Rattle.sha256.specs.Sha256.{constants, initial, next_word, slid, schedule, sums, round, rounds, added, compressed, blocks, number_bytes, padding, state_bytes, digested, sha256}
use Rattle.sha256.specs.Words.{words}
use Rattle.hashes.proofs.examples.examples_hold.Goals as goal

pub returns : goal.returns
unfolding key_block masked hmac_sha256 constants initial next_word slid schedule sums round rounds added compressed blocks number_bytes padding state_bytes digested sha256 words
returns c = record { empty = refl; abc = refl; two_blocks = refl; keyed = refl }
