-- Which streams a call of a hub ends.
use Rattle.std.specs.Prelude.{◌≡◌, ◌++◌, Bool, true, false}
use Rattle.adb_capture.specs.declared.entry.Entry.{Entry}
use Rattle.adb_capture.specs.declared.entry.Entry.TheVariants.{Read, End, Recv, Detach}
use Rattle.adb_history.specs.Machine.{History}
use Rattle.adb_hub_tables.specs.Endings.{Log, endings_at}

-- A log has, after what it had, the streams that end at an entry of a history, in the order of the rule.
abbrev pub Reports : Entry → History → Log → Log → Type 0
Reports e older before after = after.list ≡ before.list ++ endings_at e older

-- whether a stream may end at such an entry
abbrev pub may_end : Entry → Bool
may_end (Read c bytes) = true
may_end (End c cause) = true
may_end (Recv t bytes) = true
may_end (Detach t cause) = true
may_end _ = false
