-- What a log of endings has after a call of a hub.
use Rattle.std.proofs.Common.{◌≡◌, ◌≤◌, ◌++◌, length, ◌∙◌, ap, arith}
use Rattle.adb_outside.specs.Tables.{at}
use Rattle.adb_capture.specs.declared.entry.Entry.{Entry}
use Rattle.adb_history.specs.Rows.{State}
use Rattle.adb_history.specs.Machine.{History, step}
use Rattle.adb_history.specs.Kept.{kept, IsLawful}
use Rattle.adb_hub_tables.specs.declared.tables.Tables.{Tables}
use Rattle.adb_hub_tables.specs.Tables.{state_of}
use Rattle.adb_hub_tables.specs.Endings.{Log, Tells, Watches, endings_of}
use Rattle.adb_hub_tables.proofs.Reporting.{live_listed, logged_list}
use Rattle.adb_hub_tables.proofs.Staying.{stays}
use Rattle.adb_hub.specs.Sound.{IsSound}
use Rattle.adb_hub.specs.Endings.{Reports}
use Rattle.adb_hub.proofs.Standing.{stands_for}

-- a log with a place for each stream watches them
watches_all : (t : Tables) (log : Log) → length t.streams.streams ≤ log.spare → Watches (state_of t).streams log t
watches_all t log places = record {
  owned = λ l. stays (at l t.streams.streams);
  places = λ n. omega (arith, live_listed n t.streams.streams, places);
}

-- in a log that had places, what was recorded is what the history tells
pub reported : (e : Entry) (old : Tables) (before reserved after : Log) → IsSound old → reserved.list ≡ before.list
    → length old.streams.streams ≤ reserved.spare → Tells e reserved old after → (h : History) → IsLawful (kept (state_of old)) h
    → Reports e h before after
reported e old before reserved after sound same places tells h lawful =
    let is = stands_for old h sound lawful in
    ap (λ (log : Log). log.list) (tells.is (state_of old).streams (watches_all old reserved places))
    ∙ (logged_list (state_of old).streams (step (state_of old) e).told reserved
    ∙ (ap (λ list. list ++ endings_of (state_of old).streams (step (state_of old) e).told) same
    ∙ ap (λ (s : State). before.list ++ endings_of s.streams (step s e).told) is))
