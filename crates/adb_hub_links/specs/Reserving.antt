-- What is reserved before packets are treated.
use Rattle.std.specs.Prelude.{ℕ, ◌+◌, List, [], ◌∷◌, length, Option, Some, None}
use Rattle.adb_outside.specs.Tables.{at}
use Rattle.adb_client.specs.Client.{SeenClient}
use Rattle.adb_stream.specs.declared.row.Stream.{Stream}
use Rattle.adb_history.specs.Links.{maxdata_of}
use Rattle.adb_hub_rules.specs.declared.came.Came.{Came}
use Rattle.adb_hub_tables.specs.declared.tables.Tables.{Tables}
use Rattle.adb_hub_rules.specs.Came.{packets_of, slices_in}
use Rattle.adb_hub_tables.specs.Places.{LinkRoom, ClientRoom}
use Rattle.adb_hub_tables.specs.Tracked.{IsAmong}
use Rattle.adb_hub_tables.specs.Ready.{IsCutBehind, writes_behind}
use Rattle.adb_laws_resting.specs.Named.{granted}
use Rattle.adb_hub_links.specs.Naming.{AreNamedOn}

-- Of what the client of a stream holds so much is ready, whatever the client waits for.
abbrev pub IsCutAt : (more maxdata : ℕ) → Option Stream → List (ℕ × SeenClient) → Type 0
IsCutAt more maxdata None clients = Unit {0}
IsCutAt more maxdata (Some stream) clients = IsCutBehind stream.part.flow more maxdata (at stream.client clients)

-- in how many writes at most
abbrev pub writes_at : (more maxdata : ℕ) → Option Stream → List (ℕ × SeenClient) → ℕ
writes_at more maxdata None clients = 0
writes_at more maxdata (Some stream) clients = writes_behind stream.part.flow more maxdata (at stream.client clients)

abbrev pub all_writes : (more : ℕ → ℕ) (maxdata : ℕ) → List ℕ → List (ℕ × Stream) → List (ℕ × SeenClient) → ℕ
all_writes more maxdata [] streams clients = 0
all_writes more maxdata (l ∷ ids) streams clients = writes_at (more l) maxdata (at l streams) clients
    + all_writes more maxdata ids streams clients

-- Packets of a link can be treated, and the streams of these ids sent up, without memory.
pub record IsReserved (link : ℕ) (packets : List Came) (ids : List ℕ) (t : Tables) : Type 0 where
  pub named : AreNamedOn link (packets_of packets) t.streams.streams ids
  pub clients : (c : ℕ) → ClientRoom (slices_in (packets_of packets) t.streams.streams c) (at c t.clients.entries)
  pub cut : (l : ℕ) → IsAmong l ids
      → IsCutAt (granted (packets_of packets) l) (maxdata_of link t.devices) (at l t.streams.streams) t.clients.entries
  pub room : LinkRoom
      (all_writes (granted (packets_of packets)) (maxdata_of link t.devices) ids t.streams.streams t.clients.entries + length packets)
      (at link t.links.entries)
