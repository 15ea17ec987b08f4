use Rattle.std.proofs.Common.{◌≡◌, length, All}
use Rattle.adb_history.specs.Packets.{treat_all}
use Rattle.adb_hub_tables.specs.declared.tables.Tables.{Tables}
use Rattle.adb_hub_tables.specs.Tables.{state_of}
use Rattle.adb_hub_tables.specs.Endings.{Log, Reports}
use Rattle.adb_hub_rules.specs.Came.{IsCame, packets_of, slices_in}
use Rattle.adb_hub_tables.specs.Places.{IsProvided, TakesAll}
use Rattle.adb_hub_rules.proofs.treating.treat_all.Given as goal

-- what the packets that are left make is what all make, there is room for them, and what they will tell follows in the log
abbrev pub invariant-loop-came : goal.invariant-loop-came
invariant-loop-came l =
    ((treat_all l.link (packets_of l.packets.items) (state_of l.tables)).state
    ≡ (treat_all l.link (packets_of l.initial.packets.items) (state_of l.initial.tables)).state)
    × All IsCame l.packets.items
    × IsProvided l.tables
    × TakesAll l.link (length l.initial.packets.items) (length l.packets.items)
    (slices_in (packets_of l.initial.packets.items) l.initial.tables.streams.streams)
    (slices_in (packets_of l.packets.items) l.tables.streams.streams) l.initial.tables l.tables
    × ((log : Log) (t : Tables) → Reports (treat_all l.link (packets_of l.packets.items) (state_of l.tables)).told l.ends l.tables log t
    → Reports (treat_all l.link (packets_of l.initial.packets.items) (state_of l.initial.tables)).told l.initial.ends
    l.initial.tables log t)

abbrev pub decreases-loop-came : goal.decreases-loop-came
decreases-loop-came l = length l.packets.items
