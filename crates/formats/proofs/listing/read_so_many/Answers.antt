use Rattle.std.proofs.Common.{◌≡◌, ◌+◌, ◌-◌, ◌<◌, [], ◌∷◌, ◌++◌, length, sym, ap, ◌∙◌, arith}
use Rattle.std.proofs.lemmas.List.{length_push}
use Rattle.std.proofs.lemmas.Bool.{not-true, not-false}
use Rattle.words.specs.Choice.{holds, most_ciphers}
use Rattle.words.specs.Listed.{listed}
use Rattle.formats.specs.Reading.{alone, more_ciphers}
use Rattle.formats.proofs.Ciphers.{ended, first_once, none_there, cut_short, there_twice, there_once, added_new}
use Rattle.formats.proofs.listing.read_so_many.Goals as goal

pub returns-in_default : goal.returns-in_default
returns-in_default c = sym (ap alone (none_there c.args.twice c.args.count c.requires.some c.args.bytes.now c.in_default.ensures.cases))

pub loop-i-init : goal.loop-i-init
loop-i-init c =
    let only = c.only-list.ensures ∙ ap (λ n. n ∷ []) c.new.ensures in
    (ap length only, ap (λ cs. more_ciphers c.args.twice (c.args.count - 1) cs c.in-Some.rest.now) only ∙ sym (first_once c.args.twice c.args.count c.requires.some _ _ _ c.in-Some.ensures.cases.0))

pub returns-in_default-split_first : goal.returns-in_default-split_first
returns-in_default-split_first c =
    ap alone (sym (cut_short c.args.twice c.args.count c.loop-i.i c.loop-i-test.true (listed c.loop-i.list) c.loop-i.rest.now c.in_default-split_first.ensures.cases) ∙ c.loop-i.invariant.1)

pub returns-then-not-is_new : goal.returns-then-not-is_new
returns-then-not-is_new c =
    let is = not-false _ (sym c.if-not-is_new.ensures) in
    ap alone (sym (there_twice c.args.twice c.args.count c.loop-i.i c.loop-i-test.true _ _ _ _ c.in-Some-split_first.ensures.cases.0 is) ∙ c.loop-i.invariant.1)

pub loop-i-preserved : goal.loop-i-preserved
loop-i-preserved c =
    let room : length (listed c.loop-i.list) < most_ciphers = omega (arith, c.loop-i.invariant.0, c.requires.few) in
    let new = not-true _ (sym c.if-not-is_new.ensures) in
    let number = c.new-in-loop-i.ensures in
    let same = added_new c.loop-i.list c.add.new.self _ c.add.result room (ap (holds (listed c.loop-i.list)) number ∙ new) c.add.ensures ∙ ap (λ n. listed c.loop-i.list ++ n ∷ []) number in (
      ap length same ∙ (length_push (listed c.loop-i.list) c.in-Some-split_first.number.now ∙ ap (λ n. n + 1) c.loop-i.invariant.0),
      ap (λ cs. more_ciphers c.args.twice (c.args.count - (c.loop-i.i + 1)) cs c.in-Some-split_first.after.now) same ∙ (sym (there_once c.args.twice c.args.count c.loop-i.i c.loop-i-test.true _ _ _ _ c.in-Some-split_first.ensures.cases.0 new) ∙ c.loop-i.invariant.1),
    )

pub returns : goal.returns
returns c =
    let none : c.args.count - c.loop-i.i ≡ 0 = omega (arith, c.loop-i-test.false) in
    ap alone (sym (ended c.args.twice (listed c.loop-i.list) c.loop-i.rest.now) ∙ (ap (λ n. more_ciphers c.args.twice n (listed c.loop-i.list) c.loop-i.rest.now) (sym none) ∙ c.loop-i.invariant.1))
