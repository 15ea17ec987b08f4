use Rattle.std.proofs.Common.{ℕ, ◌≡◌}
use Rattle.adb_history.specs.Streams.{all_end}
use Rattle.adb_hub_tables.specs.declared.tables.Tables.{Tables}
use Rattle.adb_hub_tables.specs.Tables.{state_of}
use Rattle.adb_hub_tables.specs.Places.{streams_on, IsProvided, Uses}
use Rattle.adb_hub_tables.specs.Endings.{Log, Reports}
use Rattle.adb_hub_rules.proofs.ends.end_all.Given as goal

-- what is still to end is what was, and what it will tell follows in the log
abbrev pub invariant-loop-id : goal.invariant-loop-id
invariant-loop-id l =
    ((all_end l.link l.ending (state_of l.tables)).state ≡ (all_end l.link l.ending (state_of l.initial.tables)).state)
    × IsProvided l.tables
    × ((t c : ℕ) → Uses t 0 c 0 l.initial.tables l.tables)
    × ((log : Log) (t : Tables) → Reports (all_end l.link l.ending (state_of l.tables)).told l.ends l.tables log t
    → Reports (all_end l.link l.ending (state_of l.initial.tables)).told l.initial.ends l.initial.tables log t)

abbrev pub decreases-loop-id : goal.decreases-loop-id
decreases-loop-id l = streams_on l.link l.tables.streams.streams
