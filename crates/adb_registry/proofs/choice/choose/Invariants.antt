use Rattle.std.proofs.Common.{◌≡◌, ◌++◌, filter}
use Rattle.std.specs.Option.{option_copied, option_to_list}
use Rattle.std.specs.Map.{values_of}
use Rattle.adb_registry.specs.Choice.{is_meant}
use Rattle.adb_registry.proofs.choice.choose.Given as goal

-- the row that was found, and those that are left and meant
abbrev pub invariant-loop-row : goal.invariant-loop-row
invariant-loop-row l =
    option_to_list (option_copied l.meant) ++ filter (is_meant l.by) l.row-iterator ≡ filter (is_meant l.by) (values_of l.rows.entries)
