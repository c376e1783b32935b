use Rattle.std.proofs.Common.{◌∙◌, arith}
use Rattle.words.specs.Listed.{listed}
use Rattle.words.specs.declared.fault.Fault.TheVariants.{TooManyCiphers, CipherTwice}
use Rattle.formats.proofs.Ciphers.{listing_fits}
use Rattle.formats.proofs.Hellos.{nonce_cut, half_cut, front_found}
use Rattle.formats.proofs.hello.read_hello_front.Goals as goal

pub returns-in_default : goal.returns-in_default
returns-in_default c =
    let fits = listing_fits TooManyCiphers CipherTwice c.in_ok-caller.rest.now (listed c.in_ok-offer.offer) c.len.result c.in_ok-offer.ensures c.len.ensures in
    absurd (omega (arith, fits, c.in_default.ensures.cases))

pub returns-in_default-split_first_chunk : goal.returns-in_default-split_first_chunk
returns-in_default-split_first_chunk c =
    nonce_cut c.args.bytes.now c.in_ok-caller.rest.now _ _ (listed c.in_ok-offer.offer) c.len.result c.in_ok-caller.ensures c.in_ok-offer.ensures c.len.ensures
    c.in-Some.rest.now c.in-Some.ensures.cases.2 c.in_default-split_first_chunk.ensures.cases

pub returns-in_default-split_first_chunk-2 : goal.returns-in_default-split_first_chunk-2
returns-in_default-split_first_chunk-2 c =
    let next = c.in-Some-split_first_chunk.ensures.cases in
    half_cut c.args.bytes.now c.in_ok-caller.rest.now _ _ (listed c.in_ok-offer.offer) c.len.result c.in_ok-caller.ensures c.in_ok-offer.ensures c.len.ensures
    c.in-Some.rest.now c.in-Some-split_first_chunk.rest.now c.in-Some.ensures.cases.2 next.1 next.2 c.in_default-split_first_chunk-2.ensures.cases

pub returns : goal.returns
returns c =
    let next = c.in-Some-split_first_chunk.ensures.cases in
    let last = c.in-Some-split_first_chunk-2.ensures.cases in
    front_found c.args.bytes.now c.in_ok-caller.rest.now _ _ (listed c.in_ok-offer.offer) c.len.result c.in_ok-caller.ensures c.in_ok-offer.ensures c.len.ensures
    c.in-Some.rest.now c.in-Some-split_first_chunk.rest.now _ _ c.in-Some.ensures.cases.2 next.1 next.2 (omega (arith, last.2)) (c.from.ensures ∙ next.0) (c.from-2.ensures ∙ last.0)
