-- What an OPEN of the host makes of a model device.
use Rattle.std.specs.Prelude.{ℕ, ◌+◌, ◌≡◌, ◌≢◌, ◌≤◌, ◌⊎◌, ◌||◌, Bool, true, false, All, List, ◌∷◌, ◌++◌, Some, None}
use Rattle.adb_outside.specs.Tables.{at}
use Rattle.adb_wire.specs.declared.command.Command.{Command}
use Rattle.adb_wire.specs.declared.command.Command.TheVariants as commands
use Rattle.adb_wire.specs.declared.packets.Packet.{Packet}
use Rattle.adb_files.specs.Entries.{Entry}
use Rattle.adb_history.specs.Births.{is_okay, is_wrte, is_clse}
use Rattle.adb_history.specs.Fifo.{okays_in}
use Rattle.adb_device_streams.specs.Asked.{Kind}
use Rattle.adb_device_streams.specs.Stream.{Row}
use Rattle.adb_device_streams.specs.declared.link.Link.{Link}
use Rattle.adb_daemon.specs.Serving.{Serving, Ended, Sent, is_taken, kind_for}
use Rattle.adb_daemon.specs.Device.{Setting, device_behind}
use Rattle.adb_daemon.specs.Streams.{over_at}
use Rattle.adb_laws_model_device.specs.Owed.{packets_of_sent}

-- a row was opened for this id of the host, this service and these files
abbrev pub IsFor : ℕ → Kind → List Entry → Row → Type 0
IsFor host kind first row = (row.host ≡ host) × (row.kind ≡ kind) × (row.first ≡ first)

-- what is sent of a stream: an OKAY, a WRTE or a CLSE
abbrev pub is_of_stream : Command → Bool
is_of_stream command = is_okay command || (is_wrte command || is_clse command)

-- A packet of a stream that comes from this id goes to that one.
abbrev pub GoesTo : (own host : ℕ) → Sent → Type 0
GoesTo own host one = is_of_stream one.packet.command ≡ true → one.packet.arg0 ≡ own → one.packet.arg1 ≡ host

-- The row of an id of the device lives, and is for that host's id, service and files.
pub record LivesFor (own host : ℕ) (kind : Kind) (first : List Entry) (rows : List (ℕ × Row)) : Type 0 where
  pub row : Row
  pub is : at own rows ≡ Some row
  pub opened : IsFor host kind first row

-- There is no row of the id, and the newest of it that has ended was for these.
pub record EndedFor (own host : ℕ) (kind : Kind) (first : List Entry) (rows : List (ℕ × Row)) (ended : List Ended) : Type 0 where
  pub gone : at own rows ≡ None
  pub over : Ended
  pub is : over_at own ended ≡ Some over
  pub opened : IsFor host kind first over.row

-- A stream was opened: the row of this id of the device, or the newest of it that has ended, is for that host's id,
-- service and files; an OKAY
-- from this id to that one is owed; and all that is sent from this id goes to that one.
pub record WasOpened (own host : ℕ) (kind : Kind) (first : List Entry) (s : Serving) : Type 0 where
  pub stands : LivesFor own host kind first s.rows ⊎ EndedFor own host kind first s.rows s.ended
  pub okay : 1 ≤ okays_in own host (packets_of_sent s.made)
  pub named : All (GoesTo own host) s.made

-- An OPEN for a known service, of an id that is not 0 and of no live stream, opens a stream by the next id, whatever follows.
abbrev pub AnswersOpens : Setting → Type 0
AnswersOpens setting = (front : List Packet) (p : Packet) (rest : List Packet) (link : Link) (kind : Kind)
    → let d = device_behind setting front
    in d.refused ≡ false → d.link ≡ Some link → p.command ≡ commands.Open → p.arg0 ≢ 0 → is_taken p.arg0 d.serving.rows ≡ false
    → kind_for d.serving.drawn p ≡ Some kind
    → WasOpened (d.serving.drawn + 1) p.arg0 kind d.serving.files (device_behind setting (front ++ p ∷ rest)).serving

-- ---- the other way
-- A packet of a stream that goes to this id of the server comes from that one, or it is a CLSE from 0, which refuses an OPEN.
abbrev pub ComesFrom : (l own : ℕ) → Sent → Type 0
ComesFrom l own one = is_of_stream one.packet.command ≡ true → one.packet.arg1 ≡ l
    → (one.packet.arg0 ≡ own) ⊎ ((is_clse one.packet.command ≡ true) × (one.packet.arg0 ≡ 0))

-- A stream of the server has one id of the device, which is not 0: all that is sent to it comes from there, and a row for it stands there.
pub record HasOneId (l : ℕ) (s : Serving) : Type 0 where
  pub id : ℕ
  pub some : id ≢ 0
  pub sent : All (ComesFrom l id) s.made
  pub rows : (own : ℕ) (row : Row) → at own s.rows ≡ Some row → row.host ≡ l → own ≡ id
