-- Which streams end, and why, as a caller is told.
use Rattle.std.specs.Prelude.{ℕ, ◌+◌, ◌-◌, ◌≡◌, ◌≤◌, ◌==◌, Bool, true, false, if◌then◌else◌, List, [], ◌∷◌, ◌++◌, Option, Some, None, zero}
use Rattle.std.specs.Prelude.{suc}
use Rattle.adb_outside.specs.Tables.{Rows, at}
use Rattle.adb_capture.specs.declared.entry.Entry.{Entry}
use Rattle.adb_stream.specs.declared.row.Stream.{Stream}
use Rattle.adb_history.specs.declared.ending.Ending.{Ending}
use Rattle.adb_history.specs.Events.{Event, due_to_client, due_to_link, ended}
use Rattle.adb_history.specs.Machine.{History, state, step, told_at}
use Rattle.adb_hub_tables.specs.declared.endings.Ended.{Ended}
use Rattle.adb_hub_tables.specs.declared.tables.Tables.{Tables}
use Rattle.adb_hub_tables.specs.Tables.{state_of}
use Rattle.adb_hub_tables.specs.Places.{StaysOwned}

-- ---- what a history tells
-- the end of a stream, with the client and the link of its row
abbrev pub ended_of : ℕ → Ending → Stream → Ended
ended_of l ending stream = record { stream = l; client = stream.client; link = stream.link; ending = ending }

abbrev pub ended_at : ℕ → Ending → Option Stream → List Ended
ended_at l ending None = []
ended_at l ending (Some stream) = ended_of l ending stream ∷ []

-- the streams that end by what a rule tells, each with the client and the link of its row among these
abbrev pub endings_of : Rows (Option Stream) → List Event → List Ended
endings_of rows [] = []
endings_of rows (due_to_client client bytes ∷ events) = endings_of rows events
endings_of rows (due_to_link link packet check ∷ events) = endings_of rows events
endings_of rows (ended l ending ∷ events) = ended_at l ending (rows l) ++ endings_of rows events

-- the streams that end at an entry of a history, in the order of the rule
abbrev pub endings_at : Entry → History → List Ended
endings_at e older = endings_of (state older).streams (told_at e older)

-- ---- what a log records
-- A log: the streams that ended, and how many places are spare.
pub record Log : Type 0 where
  pub list : List Ended
  pub spare : ℕ

abbrev pub HasSpare : (spare len capacity : ℕ) → Type 0
HasSpare spare len capacity = spare + len ≤ capacity

-- the log with one more ending, in a spare place
abbrev pub add : Ended → Log → Log
add x log = record { list = log.list ++ x ∷ []; spare = log.spare - 1 }

abbrev pub add_if_place : Ended → Log → Log
add_if_place x log = if log.spare == 0 then log else add x log

-- an orphan's end was recorded when its client failed
abbrev pub add_unless : Bool → Ended → Log → Log
add_unless true x log = log
add_unless false x log = add_if_place x log

abbrev pub add_at : ℕ → Ending → Option Stream → Log → Log
add_at l ending None log = log
add_at l ending (Some stream) log = add (ended_of l ending stream) log

-- the log with the endings that a rule tells
abbrev pub logged : Rows (Option Stream) → List Event → Log → Log
logged rows [] log = log
logged rows (due_to_client client bytes ∷ events) log = logged rows events log
logged rows (due_to_link link packet check ∷ events) log = logged rows events log
logged rows (ended l ending ∷ events) log = logged rows events (add_at l ending (rows l) log)

-- ---- places
abbrev pub one_if : Option Stream → ℕ
one_if None = 0
one_if (Some stream) = 1

-- how many of the streams 0 to n - 1 live
abbrev pub live : ℕ → Rows (Option Stream) → ℕ
live zero rows = 0
live (suc n) rows = live n rows + one_if (rows n)

-- A log has a place for each stream that lives.
abbrev pub HasPlaceEach : Log → Tables → Type 0
HasPlaceEach log t = (n : ℕ) → live n (λ l. at l t.streams.streams) ≤ log.spare

-- A log has a place for each stream that lives, and those were among these rows with the same owners.
pub record Watches (rows : Rows (Option Stream)) (log : Log) (t : Tables) : Type 0 where
  pub owned : (l : ℕ) → StaysOwned (rows l) (at l t.streams.streams)
  pub places : HasPlaceEach log t

-- A log records what a rule tells, where it has the places.
pub record Records (told : List Event) (before : Log) (old : Tables) (after : Log) : Type 0 where
  pub is : (rows : Rows (Option Stream)) → Watches rows before old → after ≡ logged rows told before

-- It does, and has a place for each stream that lives then.
pub record Reports (told : List Event) (before : Log) (old : Tables) (after : Log) (new : Tables) : Type 0 where
  pub log : Records told before old after
  pub places : HasPlaceEach before old → HasPlaceEach after new
  pub owned : (l : ℕ) → StaysOwned (at l old.streams.streams) (at l new.streams.streams)

-- A log records which streams end at an entry, where it has the places.
abbrev pub Tells : Entry → Log → Tables → Log → Type 0
Tells e before old after = Records (step (state_of old) e).told before old after
