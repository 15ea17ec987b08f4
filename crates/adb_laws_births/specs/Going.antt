-- What a rule makes of the streams that live, and of which of them the packets are that it tells.
use Rattle.std.specs.Prelude.{ℕ, ◌^◌, ◌≡◌, ◌≢◌, ◌≤◌, ◌<◌, length, All, Option, Some}
use Rattle.adb_outside.specs.Tables.{Rows}
use Rattle.adb_wire.specs.declared.command.Command.{Command}
use Rattle.adb_wire.specs.declared.command.Command.TheVariants.{Okay, Wrte, Clse}
use Rattle.adb_wire.specs.declared.headers.TheConstants.{MAX_PAYLOAD}
use Rattle.adb_wire.specs.declared.packets.Packet.{Packet}
use Rattle.adb_stream.specs.declared.row.Stream.{Stream}
use Rattle.adb_stream.specs.Flow.{has_credit}
use Rattle.adb_history.specs.Events.{Made, Event, due_to_client, due_to_link, ended}

-- A stream goes on as it is: its client's, on its link, under the same id of its device, with credit or with one write.
pub record IsSame (a b : Stream) : Type 0 where
  pub id : b.id ≡ a.id
  pub client : b.client ≡ a.client
  pub link : b.link ≡ a.link
  pub remote : b.part.remote ≡ a.part.remote
  pub credit : has_credit b.part.flow ≡ has_credit a.part.flow

-- a stream was there before
pub record Was (before : Option Stream) (b : Stream) : Type 0 where
  pub stream : Stream
  pub is : before ≡ Some stream
  pub same : IsSame stream b

-- each stream that is there was there before
abbrev pub GoOn : Rows (Option Stream) → Rows (Option Stream) → Type 0
GoOn before after = (l : ℕ) (b : Stream) → after l ≡ Some b → Was (before l) b

-- the packets of an open stream
abbrev pub IsOfOpen : Command → Type 0
IsOfOpen Okay = Unit {0}
IsOfOpen Wrte = Unit {0}
IsOfOpen Clse = Unit {0}
IsOfOpen _ = ⊥

-- a packet of a stream that lives and that its device has opened, to its link and to the id that its device told
pub record IsOfRow (streams : Rows (Option Stream)) (t : ℕ) (p : Packet) : Type 0 where
  pub stream : Stream
  pub is : streams p.arg0 ≡ Some stream
  pub link : stream.link ≡ t
  pub known : stream.part.remote ≢ 0
  pub remote : p.arg1 ≡ stream.part.remote
  pub of : IsOfOpen p.command

-- a packet that is not too long, and a check word that is a word
pub record IsShort (p : Packet) (check : ℕ) : Type 0 where
  pub size : length p.payload ≤ MAX_PAYLOAD
  pub word : check < 2 ^ 32

abbrev pub IsFrom : Rows (Option Stream) → Event → Type 0
IsFrom streams (due_to_client client bytes) = Unit {0}
IsFrom streams (due_to_link link packet check) = IsOfRow streams link packet × IsShort packet check
IsFrom streams (ended stream ending) = Unit {0}

-- What a rule makes of these streams: none is drawn, each that is left goes on as it is, and the packets told are those of open streams.
pub record Goes (streams : Rows (Option Stream)) (drawn : ℕ) (m : Made) : Type 0 where
  pub rows : GoOn streams m.state.streams
  pub drawn_is : m.state.drawn ≡ drawn
  pub told : All (IsFrom streams) m.told
