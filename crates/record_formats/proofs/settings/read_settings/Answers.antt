use Rattle.std.proofs.Common.{Err, ap, ◌∙◌, arith}
use Rattle.std.proofs.lemmas.Result.{err_from_is_err_and}
use Rattle.words.specs.Listed.{listed}
use Rattle.formats.specs.Reading.{with}
use Rattle.record_formats.specs.Views.{as_settings}
use Rattle.words.specs.declared.fault.Fault.TheVariants.{SettingsTooManyCiphers, SettingsCipherTwice}
use Rattle.formats.proofs.Ciphers.{listing_fits}
use Rattle.record_formats.proofs.Keys.{keys_faulty, keys_found}
use Rattle.record_formats.proofs.settings.read_settings.Goals as goal

pub returns-in_default : goal.returns-in_default
returns-in_default c =
    let fits = listing_fits SettingsTooManyCiphers SettingsCipherTwice c.in_ok-own.rest.now (listed c.in_ok-list.list) c.len.result c.in_ok-list.ensures c.len.ensures in
    absurd (omega (arith, fits, c.in_default.ensures.cases))

pub returns-in_err-halves : goal.returns-in_err-halves
returns-in_err-halves c =
    let p = err_from_is_err_and c.from_residual-in_err-halves.result c.from_residual-in_err-halves.ensures.1 in
    let split = c.in-Some.ensures.cases in
    ap (with as_settings) p.1 ∙ (ap Err p.2 ∙ keys_faulty c.args.bytes.now c.in_ok-own.rest.now c.in_ok-own.own (listed c.in_ok-list.list) c.len.result c.in_ok-own.ensures c.in_ok-list.ensures c.len.ensures c.in-Some.listed.now c.in-Some.rest.now split.1 split.2 _ c.in_err-halves.ensures)

pub returns : goal.returns
returns c =
    let split = c.in-Some.ensures.cases in
    keys_found c.args.bytes.now c.in_ok-own.rest.now c.in_ok-own.own (listed c.in_ok-list.list) c.len.result c.in_ok-own.ensures c.in_ok-list.ensures c.len.ensures c.in-Some.listed.now c.in-Some.rest.now split.1 split.2 c.in_ok-halves.halves.now c.in_ok-halves.key.now c.in_ok-halves.ensures
