-- Places for what becomes due without memory.
use Rattle.std.specs.Prelude.{ℕ, ◌+◌, ◌-◌, ◌^◌, ◌≡◌, ◌≢◌, ◌≤◌, ◌<◌, nat_eq, if◌then◌else◌, List, length, Option, Some, None}
use Rattle.std.specs.List.{sum_by}
use Rattle.std.specs.Map.{values_of}
use Rattle.adb_outside.specs.Tables.{at}
use Rattle.adb_client.specs.Client.{SeenClient}
use Rattle.adb_client.specs.declared.phase.Phase.{Phase}
use Rattle.adb_client.specs.declared.phase.Phase.TheVariants.{Opening}
use Rattle.adb_stream.specs.declared.row.Stream.{Stream}
use Rattle.adb_hub_tables.specs.declared.ports.Port.{Port}
use Rattle.adb_hub_tables.specs.declared.tables.Tables.{Tables}
use Rattle.adb_hub_tables.specs.Tracked.{IsTracked}

-- A link has places for so many packets more than its streams' ends want.
abbrev pub LinkRoom : ℕ → Option Port → Type 0
LinkRoom n None = Unit {0}
LinkRoom n (Some port) = n + port.kept ≤ port.link.spare

-- A link has places for so many packets more than its streams' ends want, and they can be counted.
abbrev pub HasPlaces : ℕ → Option Port → Type 0
HasPlaces n None = Unit {0}
HasPlaces n (Some port) = (n + port.kept ≤ port.link.spare) × (n + port.kept < 2 ^ 64)

-- a client that waits for its stream keeps a place for the reply
abbrev pub kept_places : Phase → ℕ
kept_places (Opening l) = 1
kept_places _ = 0

-- A client has places for so many slices more than its stream's answer wants.
abbrev pub ClientRoom : ℕ → Option SeenClient → Type 0
ClientRoom n None = Unit {0}
ClientRoom n (Some client) = n + kept_places client.about.phase ≤ client.places

-- how many streams a link has
abbrev pub is_on : ℕ → Stream → ℕ
is_on link stream = if nat_eq stream.link link then 1 else 0

abbrev pub streams_on : ℕ → List (ℕ × Stream) → ℕ
streams_on link streams = sum_by (is_on link) (values_of streams)

abbrev pub IsCountedAt : ℕ → List (ℕ × Stream) → Option Port → Type 0
IsCountedAt link streams None = Unit {0}
IsCountedAt link streams (Some port) = streams_on link streams ≤ port.kept

-- No link has more streams than are counted on it.
abbrev pub IsCounted : Tables → Type 0
IsCounted t = (link : ℕ) → IsCountedAt link t.streams.streams (at link t.links.entries)

-- a stream stays its client's and its link's as long as it lives
abbrev pub StaysOwned : Option Stream → Option Stream → Type 0
StaysOwned old None = Unit {0}
StaysOwned None (Some new) = ⊥
StaysOwned (Some old) (Some new) = (new.client ≡ old.client) × (new.link ≡ old.link)

-- A client holds no more than before; where it holds as much, as much of it is ready, in as many pieces.
pub record HoldsAsReady (old new : SeenClient) : Type 0 where
  pub held : length new.held ≤ length old.held
  pub ready : length new.held ≡ length old.held → old.ready ≤ new.ready
  pub cuts : length new.held ≡ length old.held → old.cuts ≤ new.cuts

abbrev pub StaysHeld : Option SeenClient → Option SeenClient → Type 0
StaysHeld old None = Unit {0}
StaysHeld None (Some new) = ⊥
StaysHeld (Some old) (Some new) = HoldsAsReady old new

-- what came in on a link that lives stays as it was
abbrev pub StaysRead : Option Port → Option Port → Type 0
StaysRead old None = Unit {0}
StaysRead None (Some new) = ⊥
StaysRead (Some old) (Some new) = new.link.incoming ≡ old.link.incoming

-- What a rule leaves of the places, where it takes at most so many of a link and of a client.
pub record Uses (link packets client slices : ℕ) (old new : Tables) : Type 0 where
  pub on_link : (n : ℕ) → LinkRoom (n + packets) (at link old.links.entries) → LinkRoom n (at link new.links.entries)
  pub on_links : (n k : ℕ) → k ≢ link → LinkRoom n (at k old.links.entries) → LinkRoom n (at k new.links.entries)
  pub of_client : (n : ℕ) → ClientRoom (n + slices) (at client old.clients.entries) → ClientRoom n (at client new.clients.entries)
  pub of_clients : (n c : ℕ) → c ≢ client → ClientRoom n (at c old.clients.entries) → ClientRoom n (at c new.clients.entries)
  pub counted : IsCounted old → IsCounted new
  pub tracked : IsTracked old → IsTracked new
  pub owned : (l : ℕ) → StaysOwned (at l old.streams.streams) (at l new.streams.streams)
  pub held : (c : ℕ) → StaysHeld (at c old.clients.entries) (at c new.clients.entries)
  pub read : (k : ℕ) → StaysRead (at k old.links.entries) (at k new.links.entries)

-- a link of which a stream less is counted
abbrev pub freed : Port → Port
freed port = record port { kept = port.kept - 1 }

-- A client waits for its stream, with a place for the answer.
abbrev pub IsWaiting : Option SeenClient → Type 0
IsWaiting None = Unit {0}
IsWaiting (Some client) = (kept_places client.about.phase ≡ 1) × (1 ≤ client.places)

-- What tables keep at all times: a place for the end of each stream, one for the answer to each client that waits for
-- its stream, and each tracker by its
-- number.
pub record IsProvided (t : Tables) : Type 0 where
  pub links : (k : ℕ) → LinkRoom 0 (at k t.links.entries)
  pub clients : (c : ℕ) → ClientRoom 0 (at c t.clients.entries)
  pub counted : IsCounted t
  pub tracked : IsTracked t

-- What a packet leaves of the places, where it takes at most so many of its link, and so many of each client.
pub record Takes (link packets : ℕ) (slices : ℕ → ℕ) (old new : Tables) : Type 0 where
  pub on_link : (n : ℕ) → LinkRoom (n + packets) (at link old.links.entries) → LinkRoom n (at link new.links.entries)
  pub on_links : (n k : ℕ) → k ≢ link → LinkRoom n (at k old.links.entries) → LinkRoom n (at k new.links.entries)
  pub of_clients : (n c : ℕ) → ClientRoom (n + slices c) (at c old.clients.entries) → ClientRoom n (at c new.clients.entries)
  pub counted : IsCounted old → IsCounted new
  pub tracked : IsTracked old → IsTracked new
  pub owned : (l : ℕ) → StaysOwned (at l old.streams.streams) (at l new.streams.streams)
  pub held : (c : ℕ) → StaysHeld (at c old.clients.entries) (at c new.clients.entries)
  pub read : (k : ℕ) → StaysRead (at k old.links.entries) (at k new.links.entries)

-- the client of a stream has places for so many slices
abbrev pub StreamRoom : ℕ → Tables → Option Stream → Type 0
StreamRoom n t None = Unit {0}
StreamRoom n t (Some stream) = ClientRoom n (at stream.client t.clients.entries)

-- What packets leave of the places: of the link so many less, of each client so many.
pub record TakesAll (link : ℕ) (packets more : ℕ) (slices rest : ℕ → ℕ) (old new : Tables) : Type 0 where
  pub on_link : (n : ℕ) → LinkRoom (n + packets) (at link old.links.entries) → LinkRoom (n + more) (at link new.links.entries)
  pub on_links : (n k : ℕ) → k ≢ link → LinkRoom n (at k old.links.entries) → LinkRoom n (at k new.links.entries)
  pub of_clients : (n c : ℕ) → ClientRoom (n + slices c) (at c old.clients.entries) → ClientRoom (n + rest c) (at c new.clients.entries)
  pub counted : IsCounted old → IsCounted new
  pub tracked : IsTracked old → IsTracked new
  pub owned : (l : ℕ) → StaysOwned (at l old.streams.streams) (at l new.streams.streams)
  pub held : (c : ℕ) → StaysHeld (at c old.clients.entries) (at c new.clients.entries)
  pub read : (k : ℕ) → StaysRead (at k old.links.entries) (at k new.links.entries)
