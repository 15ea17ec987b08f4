-- A stream (protocol.txt, OPEN), when it is drawn and when its part is put.
use Rattle.std.specs.Prelude.{ℕ, ◌≡◌, ◌≤◌, ◌<◌, false, nat_eq, Option, Some, None, if◌then◌else◌}
use Rattle.adb_stream.specs.declared.flow.Flow.{Flow}
use Rattle.adb_stream.specs.declared.row.Part.{Part}
use Rattle.adb_stream.specs.declared.row.Stream.{Stream}

-- a stream that was just drawn: the device's id is not known
abbrev pub new_stream : ℕ → ℕ → ℕ → Flow → Stream
new_stream id client link flow =
    record { id = id; client = client; link = link; part = record { remote = 0; orphan = false; flow = flow } }

-- the stream with another part
abbrev pub with_part : Part → Stream → Stream
with_part part stream = record stream { part = part }

-- a stream, if it is one of that link
abbrev pub of_link : ℕ → Option Stream → Option Stream
of_link link None = None
of_link link (Some stream) = if nat_eq stream.link link then Some stream else None

-- A stream stands under its own id, which was drawn.
pub record IsStreamAt (drawn id : ℕ) (stream : Stream) : Type 0 where
  pub own : stream.id ≡ id
  pub from : 0 < id
  pub to : id ≤ drawn
