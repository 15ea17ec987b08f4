-- What is seen of a world.
use Rattle.std.specs.Prelude.{ℕ, ◌≡◌, Bool, List, map}
use Rattle.adb_outside.specs.Tables.{put_at}
use Rattle.adb_stream.specs.Flow.{is_idle}
use Rattle.adb_files.specs.Entries.{Entry}
use Rattle.adb_history.specs.Kept.{Kept}
use Rattle.adb_device_streams.specs.Service.{out_of}
use Rattle.adb_device_streams.specs.declared.stream.Stream.{Stream}
use Rattle.adb_daemon.specs.Daemon.{files_of, owed}
use Rattle.adb_daemon.specs.declared.daemon.Daemon.{Daemon}
use Rattle.adb_world.specs.declared.parts.Parts.{Parts}
use Rattle.adb_world.specs.declared.session.Session.{Session}

-- the device's end of a stream: the host's id, whether no write of it is outstanding, and what its service answered that is not written yet
pub record End : Type 0 where
  pub host : ℕ
  pub idle : Bool
  pub left : List ℕ

abbrev pub end_of : Stream → End
end_of stream = record { host = stream.host; idle = is_idle stream.flow; left = out_of stream.service }

abbrev pub ends_of : Daemon → List (ℕ × End)
ends_of device = map (λ (entry : ℕ × Stream). (entry.0, end_of entry.1)) device.machine.services.table.rows.entries

-- what the hub holds; what the device owes, its files, and its ends of the live streams, by its ids; the sessions by
-- the numbers of their clients, and how
-- many were given; whether memory ran out; and whether all that was started has settled
pub record View : Type 0 where
  pub hub : Kept
  pub owed : List ℕ
  pub files : List Entry
  pub ends : List (ℕ × End)
  pub sessions : List (ℕ × Session)
  pub given : ℕ
  pub spent : Bool
  pub settled : Bool

abbrev pub view_of : Parts → (spent settled : Bool) → View
view_of parts spent settled = record {
  hub = parts.hub;
  owed = owed parts.device;
  files = files_of parts.device;
  ends = ends_of parts.device;
  sessions = parts.sessions.entries;
  given = parts.given;
  spent = spent;
  settled = settled;
}

-- A session was added under the next number, and the files are as before.
pub record HasStarted (number : ℕ) (session : Session) (old new : View) : Type 0 where
  pub sessions : new.sessions ≡ put_at number session old.sessions
  pub given : new.given ≡ number
  pub files : new.files ≡ old.files
