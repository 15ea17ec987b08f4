-- What a model device owes for what its host sent, but for the payloads that it writes.
use Rattle.std.specs.Prelude.{ℕ, ◌+◌, ◌≡◌, ◌≤◌, Bool, true, false, cond, All, List, [], ◌∷◌, ◌++◌}
use Rattle.std.specs.List.{sum_by}
use Rattle.std.specs.Map.{values_of}
use Rattle.adb_wire.specs.declared.command.Command.{Command}
use Rattle.adb_wire.specs.declared.command.Command.TheVariants.{Open, Okay, Wrte}
use Rattle.adb_wire.specs.declared.packets.Packet.{Packet}
use Rattle.adb_history.specs.Births.{is_wrte}
use Rattle.adb_device_streams.specs.Stream.{Row}
use Rattle.adb_daemon.specs.Serving.{Sent, Serving}
use Rattle.adb_daemon.specs.Device.{Setting, device_behind}
use Rattle.adb_laws_steps.specs.Tolls.{toll, IsWorthwhile}

-- an OPEN is answered by an OKAY, and its stream may be closed; a WRTE is answered by an OKAY
abbrev pub answer_toll : Command → ℕ
answer_toll Open = 52
answer_toll Wrte = 28
answer_toll _ = 0

abbrev pub answer_tolls : List Packet → ℕ
answer_tolls [] = 0
answer_tolls (p ∷ packets) = answer_toll p.command + answer_tolls packets

-- the tolls of what became due
abbrev pub sent_tolls : List Sent → ℕ
sent_tolls [] = 0
sent_tolls (one ∷ more) = toll one.packet.command one.packet.payload + sent_tolls more

-- A packet of the device is worth its answer, and a write goes to an id of which this holds.
pub record IsFine (P : ℕ → Type 0) (one : Sent) : Type 0 where
  pub worth : IsWorthwhile one.packet
  pub host : is_wrte one.packet.command ≡ true → P one.packet.arg1

-- a packet by which the host asks for a stream, or goes on with one
abbrev pub asks : Command → Bool
asks Open = true
asks Okay = true
asks Wrte = true
asks _ = false

-- a packet that asks comes from an id that is watched
abbrev pub AsksFor : (ℕ → Bool) → Packet → Type 0
AsksFor q p = asks p.command ≡ true → q p.arg0 ≡ true

-- the rows of ids that are watched have their CLSEs still to come
abbrev pub row_toll : (ℕ → Bool) → Row → ℕ
row_toll q row = cond (q row.host) 24 0

abbrev pub row_tolls : (ℕ → Bool) → List (ℕ × Row) → ℕ
row_tolls q rows = sum_by (row_toll q) (values_of rows)

-- Behind what a device owed, more becomes due: its tolls are at most the answers to its host and the CLSEs of
-- rows that lived, of ids that are watched; no packet of it opens a stream, no write is without bytes, and each
-- write goes to an id that is watched.
pub record AnswersAlone (q : ℕ → Bool) (more : List Packet) (before behind : Serving) : Type 0 where
  pub made : List Sent
  pub is : behind.made ≡ before.made ++ made
  pub tolls : sent_tolls made ≤ answer_tolls more + row_tolls q before.rows
  pub fine : All (IsFine (λ l. q l ≡ true)) made

-- So where all that ask are watched.
abbrev pub DeviceAnswersAlone : Setting → Type 0
DeviceAnswersAlone setting = (q : ℕ → Bool) (front more : List Packet) → All (AsksFor q) more
    → AnswersAlone q more (device_behind setting front).serving (device_behind setting (front ++ more)).serving
