-- Handing out what is due: what may be, and what places that takes.
use Rattle.std.specs.Prelude.{ℕ, ◌≤◌, length, drop, Option, Some, None}
use Rattle.adb_outside.specs.Tables.{at}
use Rattle.adb_stream.specs.Flow.{handed_to}
use Rattle.adb_client.specs.Client.{SeenClient}
use Rattle.adb_client.specs.declared.phase.Phase.{Phase}
use Rattle.adb_client.specs.declared.phase.Phase.TheVariants.{Streaming}
use Rattle.adb_stream.specs.declared.flow.Flow.{Flow}
use Rattle.adb_stream.specs.declared.row.Stream.{Stream}
use Rattle.adb_history.specs.Rows.{Client, State, to_stream, with_stream_part}
use Rattle.adb_history.specs.Events.{Made}
use Rattle.adb_history.specs.Flow.{with_flow}
use Rattle.adb_history.specs.Handing.{tells_handed}
use Rattle.adb_hub_tables.specs.declared.ports.Port.{Port}
use Rattle.adb_hub_tables.specs.declared.tables.Tables.{Tables}
use Rattle.adb_hub_tables.specs.Places.{LinkRoom, Uses}

-- So many bytes are due to a client.
abbrev pub AreDue : ℕ → Option SeenClient → Type 0
AreDue n None = Unit {0}
AreDue n (Some client) = n ≤ length client.due

-- So many bytes are due to a link.
abbrev pub AreDueOn : ℕ → Option Port → Type 0
AreDueOn n None = Unit {0}
AreDueOn n (Some port) = n ≤ length port.link.due

-- a client without the first bytes that are due to it
abbrev pub handed : ℕ → Client → Option Client
handed n row = Some (record row { due = drop n row.due })

-- The link of a stream has places for so many packets more.
abbrev pub HasRoom : ℕ → Option Stream → Tables → Type 0
HasRoom n None t = Unit {0}
HasRoom n (Some stream) t = LinkRoom n (at stream.link t.links.entries)

-- What a rule leaves of the places, where it takes at most so many of the link of a stream.
abbrev pub UsesOf : Option Stream → (packets client slices : ℕ) → Tables → Tables → Type 0
UsesOf None packets client slices old new = (t : ℕ) → Uses t 0 client slices old new
UsesOf (Some stream) packets client slices old new = Uses stream.link packets client slices old new

-- the stream that a client in this phase has open
abbrev pub stream_in : Phase → Tables → Option Stream
stream_in (Streaming l) t = at l t.streams.streams
stream_in _ t = None

-- the stream that a client has open
abbrev pub open_stream : Option SeenClient → Tables → Option Stream
open_stream None t = None
open_stream (Some client) t = stream_in client.about.phase t

-- so many of the bytes that a stream of this flow has accepted are left, fewer than before
abbrev pub leaves : (left l : ℕ) → Flow → Stream → State → Made
leaves left l flow stream s =
    tells_handed flow left l stream (to_stream l (with_stream_part (with_flow (handed_to left flow) stream.part)) s)
