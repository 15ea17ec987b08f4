use Rattle.std.proofs.Common.{sym, ap, ◌∙◌}
use Rattle.std.specs.Map.{set_value}
use Rattle.std.specs.Ordering.{nat_cmp}
use Rattle.std.specs.BTreeMap.{is_at}
use Rattle.std.proofs.Common.{◌/◌}
use Rattle.adb_hub_tables.proofs.MarkedRows.{lighter}
use Rattle.adb_hub_tables.proofs.words.unmark.Goals as goal

pub returns-in-Some-clause-falls : goal.returns-in-Some-clause-falls
returns-in-Some-clause-falls c =
    let before = c.args.marks.now.entries in
    lighter c.args.which c.args.number before c.in-Some.block.now _ (sym c.in-Some.ensures.value)
    ((c.get_mut.follows.holds c.unmark.new.self).0 ∙ ap (set_value (is_at (nat_cmp (c.args.number / 64))) before) c.unmark.ensures)
