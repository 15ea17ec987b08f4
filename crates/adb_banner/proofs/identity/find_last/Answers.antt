use Rattle.std.proofs.Common.{◌≡◌, ◌∙◌, None, sym, ap, rules, tests, length}
use Rattle.std.proofs.lemmas.Iterator.Splits.{YieldsList-from_slice_split}
use Rattle.std.proofs.lemmas.Iterator.Consumers.{YieldsList-end}
use Rattle.std.specs.List.{slice_split}
use Rattle.adb_banner.specs.Banner.{is_semicolon, part_value, last_value}
use Rattle.adb_banner.proofs.Values.{last_value-nil, last_value-yielded, length-last_value, All-slice_split}
use Rattle.adb_banner.proofs.identity.find_last.Goals as goal

pub loop-part-init : goal.loop-part-init
loop-part-init c = sym (last_value-nil c.args.key.now)

pub loop-part-preserved-in-Some-value_of : goal.loop-part-preserved-in-Some-value_of
loop-part-preserved-in-Some-value_of c =
    let push = last_value-yielded c.args.key.now c.loop-part.yielded c.in-Some.part in
    rw (push, ← c.in-Some-value_of.ensures) (search rules)

pub loop-part-preserved : goal.loop-part-preserved
loop-part-preserved c =
    let push = last_value-yielded c.args.key.now c.loop-part.yielded c.in-Some.part in
    let none : c.value_of.result ≡ None = search rules in
    let is : None ≡ part_value c.args.key.now c.in-Some.part.now = rw none at c.value_of.ensures in
    rw (push, ← is) c.loop-part.invariant

pub returns-clause-last : goal.returns-clause-last
returns-clause-last c =
    let all = YieldsList-from_slice_split _ is_semicolon c.args.banner.now (cc) (cc) (cc) (λ x b q k. search (rules, tests)) in
    c.loop-part.invariant
    ∙ ap (last_value c.args.key.now)
    (YieldsList-end all c.loop-part.yielded _ c.loop-part.yielded_by _ _ c.in-None.is c.next.ensures.steps).0

pub returns-clause-short : goal.returns-clause-short
returns-clause-short c =
    let banner = c.args.banner.now in
    let short = All-slice_split is_semicolon banner in
    rw (returns-clause-last c) (length-last_value c.args.key.now (length banner) (slice_split is_semicolon banner) short)
