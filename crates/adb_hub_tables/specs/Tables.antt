-- What contracts see of the tables: the state that they show.
use Rattle.std.specs.Prelude.{ℕ, ◌==◌, ◌++◌, Bool, true, false, [], Option, Some, None, option_map, option_and_then, codes}
use Rattle.adb_outside.specs.Tables.{at}
use Rattle.adb_outside.specs.declared.kinds.Cause.{Cause}
use Rattle.adb_wire.specs.declared.packets.Packet.{Packet}
use Rattle.adb_wire.specs.Packet.{spelling}
use Rattle.adb_client.specs.Client.{SeenClient}
use Rattle.adb_client.specs.declared.phase.Phase.TheVariants.{Closing, Gone}
use Rattle.adb_client.specs.declared.phase.Phase.{Phase}
use Rattle.adb_wire.specs.declared.limits.TheConstants.{MIN_VERSION}
use Rattle.adb_reply.specs.Strings.{failed}
use Rattle.adb_history.specs.Rows.{Client, Link, State, to_client, none_kept, with_due}
use Rattle.adb_history.specs.Clients.{closing}
use Rattle.adb_history.specs.Events.{Made}
use Rattle.adb_history.specs.Losing.{stream_fails, stream_of}
use Rattle.adb_history.specs.Links.{check_on}
use Rattle.adb_hub_tables.specs.declared.ports.Port.{Port}
use Rattle.adb_hub_tables.specs.declared.tables.Tables.{Tables}

-- the row of a client
abbrev pub client_row : SeenClient → Client
client_row c = record { about = c.about; held = c.held; due = c.due }

-- the row of a link
abbrev pub link_row : Port → Link
link_row p = record { rest = p.link.incoming.rest; sums = p.link.version == MIN_VERSION; due = p.link.due }

-- the state that tables show
abbrev pub state_of : Tables → State
state_of t = record {
  joined = t.joined;
  drawn = t.streams.drawn;
  clients = λ c. option_map client_row (at c t.clients.entries);
  links = λ k. option_map link_row (at k t.links.entries);
  streams = λ l. at l t.streams.streams;
  devices = t.devices;
  forwards = t.forwards;
  stopped = t.stopped;
}

-- a link's row with a packet that becomes due
abbrev pub owing_row : Packet → Link → Link
owing_row p row = record row { due = row.due ++ spelling p (check_on row.sums p) }

abbrev pub owes_packet : Packet → Link → Option Link
owes_packet p row = Some (owing_row p row)

-- a client to which something is due, and that is read no more
abbrev pub shut_row : Client → Client
shut_row row = record row { about = record row.about { phase = Closing; mark = false; want = None }; held = [] }

-- a client that is told that it has no stream is read no more
abbrev pub refused : Client → Option Client
refused row = option_and_then closing (with_due (failed (codes "closed")).bytes row)

-- the phase of a client, of which nothing may be kept
abbrev pub phase_in : Option Client → Phase
phase_in None = Gone
phase_in (Some client) = client.about.phase

-- the connection of a client in a phase failed
abbrev pub fails_in : Phase → ℕ → Cause → State → Made
fails_in phase c cause s = stream_fails phase cause (stream_of phase s.streams) (to_client c none_kept s)

-- whether a client came through a forward, or nothing of it is kept
abbrev pub forwarded_in : Option Client → Bool
forwarded_in None = true
forwarded_in (Some client) = client.about.forwarded
