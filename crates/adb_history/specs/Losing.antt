-- How links are lost and broken, how clients fail, and how the server stops.
use Rattle.std.specs.Prelude.{ℕ, true, if◌then◌else◌, nat_eq, List, [], ◌∷◌, ◌++◌, Option, Some, None, zero, suc}
use Rattle.adb_outside.specs.Tables.{Rows}
use Rattle.adb_outside.specs.declared.kinds.Cause.{Cause}
use Rattle.adb_outside.specs.declared.kinds.Cause.TheVariants.{Eof, Fault, Starved, NoThread}
use Rattle.adb_registry.specs.Registry.{detached}
use Rattle.adb_stream.specs.declared.row.Stream.{Stream}
use Rattle.adb_stream.specs.declared.row.Part.{Part}
use Rattle.adb_client.specs.declared.phase.Phase.{Phase}
use Rattle.adb_client.specs.declared.phase.Phase.TheVariants.{Asking, Opening, Streaming, Binding, Tracking, Closing, Gone}
use Rattle.adb_history.specs.Rows.{Client, State, to_client, to_link, to_stream, none_kept, with_stream_part}
use Rattle.adb_history.specs.Events.{Made, Event, quietly, then_also, ended}
use Rattle.adb_history.specs.declared.ending.Ending.{Ending}
use Rattle.adb_history.specs.declared.ending.Ending.TheVariants.{ClientFailed, Stopped}
use Rattle.adb_history.specs.Links.{close_packet, owe_link}
use Rattle.adb_history.specs.Clients.{closes}
use Rattle.adb_history.specs.Streams.{all_end}
use Rattle.adb_history.specs.Tracking.{mark_all}
use Rattle.adb_history.specs.Forwarding.{forwards_without}

-- ---- broken link, and detach
-- of a link nothing is kept
abbrev pub forgets : ℕ → State → State
forgets t s = to_link t none_kept (record s { devices = detached t s.devices; forwards = forwards_without t s.forwards })

-- a link is gone: its device, its forwards and what is due to it go, its streams end, and the list of the devices changed
abbrev pub link_ends : ℕ → Ending → State → Made
link_ends t ending s = then_also (all_end t ending (forgets t s)) (λ s. quietly (mark_all s))

-- ---- client end
-- whether a client's stream is open, is asked for, or it has none
abbrev pub orphaned : Part → Part
orphaned part = record part { orphan = true }

-- The device of an open stream is told that it ends; a stream that its device has not opened yet stays, as an orphan.
abbrev pub stream_fails : Phase → Cause → Option Stream → State → Made
stream_fails (Streaming l) cause (Some stream) s =
    then_also (owe_link stream.link (close_packet l stream.part.remote) (to_stream l none_kept s))
    (λ s. record { state = s; told = ended l (ClientFailed cause) ∷ [] })
stream_fails (Opening l) cause (Some stream) s =
    record { state = to_stream l (with_stream_part (orphaned stream.part)) s; told = ended l (ClientFailed cause) ∷ [] }
stream_fails _ cause stream s = quietly s

-- the stream of a phase, where it has one
abbrev pub stream_of : Phase → Rows (Option Stream) → Option Stream
stream_of (Streaming l) streams = streams l
stream_of (Opening l) streams = streams l
stream_of _ streams = None

-- a client's connection failed: what is due to it is dropped
abbrev pub client_fails : ℕ → Cause → Client → State → Made
client_fails c cause client s =
    stream_fails client.about.phase cause (stream_of client.about.phase s.streams) (to_client c none_kept s)

abbrev pub input_ended : Client → Option Client
input_ended c = Some (record c { about = record c.about { ended = true } })

-- a client's input ended in order: what it holds still goes up, and what is due to it is handed out
abbrev pub input_ends : Phase → ℕ → State → State
input_ends Asking c s = closes c s
input_ends Binding c s = closes c s
input_ends Tracking c s = closes c s
input_ends (Opening l) c s = to_client c input_ended s
input_ends (Streaming l) c s = to_client c input_ended s
input_ends Closing c s = s
input_ends Gone c s = s

abbrev pub client_ends : ℕ → Cause → Option Client → State → Made
client_ends c cause None s = quietly s
client_ends c Eof (Some client) s = quietly (input_ends client.about.phase c s)
client_ends c Fault (Some client) s = client_fails c Fault client s
client_ends c Starved (Some client) s = client_fails c Starved client s
client_ends c NoThread (Some client) s = client_fails c NoThread client s

-- ---- kill
abbrev pub tells_stop : ℕ → Option Stream → List Event
tells_stop l None = []
tells_stop l (Some stream) = if stream.part.orphan then [] else ended l Stopped ∷ []

-- the streams 1 to k end, in rising id
abbrev pub all_stop : ℕ → Rows (Option Stream) → List Event
all_stop zero streams = []
all_stop (suc k) streams = all_stop k streams ++ tells_stop (suc k) (streams (suc k))

-- of all clients only the one that asked for it is kept, which is closing
abbrev pub only_client : ℕ → Rows (Option Client) → Rows (Option Client)
only_client c clients = λ n. if nat_eq c n then clients n else None

-- kill: nothing is kept but the client that asked for it, which is handed what is due to it
abbrev pub stops : ℕ → State → Made
stops c s = record {
  state = closes c (record s {
    clients = only_client c s.clients;
    links = λ _. None;
    streams = λ _. None;
    devices = record s.devices { rows = [] };
    forwards = [];
    stopped = true;
  });
  told = all_stop s.drawn s.streams;
}
