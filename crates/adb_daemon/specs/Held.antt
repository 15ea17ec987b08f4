-- What the code holds of a device.
use Rattle.std.specs.Prelude.{ℕ, ◌≡◌, ◌<◌, ◌==◌, ◌⊎◌, Bool, false, List, ◌++◌, Option, Some, None, option_map}
use Rattle.adb_outside.specs.Tables.{at, IsRising, Puts}
use Rattle.adb_wire.specs.declared.command.Command.{Command}
use Rattle.adb_wire.specs.declared.command.Command.TheVariants as commands
use Rattle.adb_wire.specs.declared.packets.Packet.{Packet}
use Rattle.adb_files.specs.Entries.{Entry}
use Rattle.adb_device_streams.specs.Asked.{Kind, service_of, name_of}
use Rattle.adb_device_streams.specs.Service.{came_over, files_opened, HasFrontOfFiles}
use Rattle.adb_device_streams.specs.Stream.{Row, StandsFor, Settles}
use Rattle.adb_device_streams.specs.declared.stream.Stream.{Stream}
use Rattle.adb_device_streams.specs.declared.link.Link.{Link}
use Rattle.adb_daemon.specs.Serving.{Serving, named, sent_bytes}
use Rattle.adb_daemon.specs.declared.services.Services.{Services}

-- the host's id of the stream at an id, and whether it is that one
abbrev pub host_at : ℕ → List (ℕ × Stream) → Option ℕ
host_at own streams = option_map (λ (stream : Stream). stream.host) (at own streams)

abbrev pub is_named : ℕ → Option ℕ → Bool
is_named host None = false
is_named host (Some found) = found == host

-- A stream is held of a row: both are there, or none is.
abbrev pub StandsAt : Option Row → Option Stream → Type 0
StandsAt None None = Unit {0}
StandsAt (Some row) (Some stream) = StandsFor row stream
StandsAt _ _ = ⊥

-- A row is there, of that host's id.
abbrev pub IsOfHost : ℕ → Option Row → Type 0
IsOfHost host None = ⊥
IsOfHost host (Some row) = row.host ≡ host

-- What is held of the live streams: each of them, and the device's id of each by the host's.
pub record IsTable (rows : List (ℕ × Row)) (streams : List (ℕ × Stream)) (hosts : List (ℕ × ℕ)) : Type 0 where
  pub rises : IsRising rows
  pub stands : (own : ℕ) → StandsAt (at own rows) (at own streams)
  pub index : (host own : ℕ) → at host hosts ≡ Some own → IsOfHost host (at own rows)
  pub indexed : (own : ℕ) (row : Row) → at own rows ≡ Some row → at row.host hosts ≡ Some own

-- what is seen of the code's part: how many ids were drawn, the live streams, the device's ids by the host's, the files, and what is due
pub record View : Type 0 where
  pub drawn : ℕ
  pub streams : List (ℕ × Stream)
  pub hosts : List (ℕ × ℕ)
  pub files : List Entry
  pub due : List ℕ

abbrev pub view_of : Services → View
view_of services = record {
  drawn = services.table.drawn;
  streams = services.table.rows.entries;
  hosts = services.table.hosts.entries;
  files = services.files;
  due = services.due.bytes;
}

-- What is held of all that is served: what was taken and what is still due are the bytes of all that became due.
pub record Holds (s : Serving) (taken : List ℕ) (view : View) : Type 0 where
  pub drawn : view.drawn ≡ s.drawn
  pub table : IsTable s.rows view.streams view.hosts
  pub fresh : (own : ℕ) → s.drawn < own → at own s.rows ≡ None
  pub files : view.files ≡ s.files
  pub due : taken ++ view.due ≡ sent_bytes s.made

-- The stream at an id has settled, and no other has changed.
pub record SettlesAt (link : Link) (own : ℕ) (row : Row) (old new : List (ℕ × Stream)) (due due' : List ℕ) (done : Bool) : Type 0 where
  pub stream : Stream
  pub settles : Settles link.sums own link.most row stream due due' done
  pub puts : Puts own (Some stream) old new

-- Memory ran out at an OPEN: the files are as before, or those that its command leaves.
pub record Ran (p : Packet) (s : Serving) (files : List Entry) : Type 0 where
  pub kind : Kind
  pub asked : service_of (name_of p.payload) ≡ Some kind
  pub left : files ≡ files_opened kind s.files

abbrev pub CutOpen : Packet → Serving → List Entry → Type 0
CutOpen p s files = (files ≡ s.files) ⊎ Ran p s files

-- Memory ran out at a WRTE: the files are as before, or those behind a front of the sync requests that it makes whole.
pub record Fed (p : Packet) (s : Serving) (files : List Entry) : Type 0 where
  pub row : Row
  pub live : named p.arg0 (at p.arg1 s.rows) ≡ Some row
  pub left : HasFrontOfFiles row.kind row.past (came_over p.payload s.files) files

abbrev pub CutWrite : Packet → Serving → List Entry → Type 0
CutWrite p s files = (files ≡ s.files) ⊎ Fed p s files

-- Memory ran out at a packet.
abbrev pub CutFiles : Command → Packet → Serving → List Entry → Type 0
CutFiles commands.Open p s files = CutOpen p s files
CutFiles commands.Wrte p s files = CutWrite p s files
CutFiles _ p s files = files ≡ s.files
