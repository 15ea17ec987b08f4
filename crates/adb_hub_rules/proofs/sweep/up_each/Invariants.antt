use Rattle.adb_hub_tables.specs.declared.tables.Tables.{Tables}
use Rattle.adb_hub_tables.specs.Tables.{state_of}
use Rattle.adb_hub_tables.specs.Places.{IsCounted}
use Rattle.adb_hub_tables.specs.Endings.{Log, Reports}
use Rattle.adb_hub_rules.specs.Sweep.{up_each}
use Rattle.adb_hub_rules.proofs.EachUp.{Swept}
use Rattle.adb_hub_rules.proofs.sweep.up_each.Given as goal

-- what went up, what is still to go, and that what this will tell follows in the log
abbrev pub invariant-loop-id : goal.invariant-loop-id
invariant-loop-id l =
    Swept l.ids.keys l.id-iterator l.fn.tables l.tables × IsCounted l.tables
    × ((log : Log) (t : Tables) → Reports (up_each l.id-iterator (state_of l.tables)).told l.ends l.tables log t
    → Reports (up_each l.ids.keys (state_of l.fn.tables)).told l.fn.ends l.fn.tables log t)
