-- The up rule for several streams, one after another.
use Rattle.std.specs.Prelude.{ℕ, ◌+◌, ◌≡◌, ◌≤◌, ◌<◌, true, false, nat_eq, if◌then◌else◌, List, [], ◌∷◌, Option, Some, None}
use Rattle.adb_outside.specs.Tables.{at}
use Rattle.adb_stream.specs.declared.row.Stream.{Stream}
use Rattle.adb_registry.specs.Registry.{DeviceTable}
use Rattle.adb_history.specs.Rows.{Client, State}
use Rattle.adb_history.specs.Events.{Made, quietly, then_also}
use Rattle.adb_history.specs.Links.{maxdata_of}
use Rattle.adb_history.specs.Flow.{payloads, is_over, is_streaming, up}
use Rattle.adb_hub_tables.specs.declared.tables.Tables.{Tables}
use Rattle.adb_hub_tables.specs.Tracked.{IsAmong, IsTracked}
use Rattle.adb_hub_tables.specs.Places.{LinkRoom, ClientRoom, IsCounted, StaysOwned, StaysRead}
use Rattle.adb_hub_rules.specs.Up.{IsCutUp, writes_up}

-- the up rule for the streams of these ids
abbrev pub up_each : List ℕ → State → Made
up_each [] s = quietly s
up_each (l ∷ ids) s = then_also (up l s) (up_each ids)

-- how many writes a stream may make on a link
abbrev pub writes_if_on : ℕ → ℕ → Option Stream → Tables → ℕ
writes_if_on link l None t = 0
writes_if_on link l (Some stream) t = if nat_eq stream.link link then writes_up l t else 0

-- how many writes these streams may make on a link
abbrev pub writes_on : ℕ → List ℕ → Tables → ℕ
writes_on link [] t = 0
writes_on link (l ∷ ids) t = writes_if_on link l (at l t.streams.streams) t + writes_on link ids t

-- The up rule for these streams needs no memory.
pub record IsReadyEach (ids : List ℕ) (t : Tables) : Type 0 where
  pub cut : (l : ℕ) → IsAmong l ids → IsCutUp l t
  pub room : (link : ℕ) → LinkRoom (writes_on link ids t) (at link t.links.entries)

-- What a rule for these streams leaves of the places.
pub record UsesEach (ids : List ℕ) (old new : Tables) : Type 0 where
  pub links : (n link : ℕ) → LinkRoom (n + writes_on link ids old) (at link old.links.entries) → LinkRoom n (at link new.links.entries)
  pub clients : (n c : ℕ) → ClientRoom n (at c old.clients.entries) → ClientRoom n (at c new.clients.entries)
  pub counted : IsCounted old → IsCounted new
  pub tracked : IsTracked old → IsTracked new
  pub owned : (l : ℕ) → StaysOwned (at l old.streams.streams) (at l new.streams.streams)
  pub read : (k : ℕ) → StaysRead (at k old.links.entries) (at k new.links.entries)

-- ---- streams of which nothing goes up
-- What a client holds of a stream can't go up now, and the stream goes on.
pub record HasNothingUp (devices : DeviceTable) (client : Client) (stream : Stream) : Type 0 where
  pub nothing : payloads stream.part.flow (maxdata_of stream.link devices) client.held ≡ []
  pub goes_on : is_over client.about.ended client.held stream.part.flow ≡ false

abbrev pub IsStillFor : ℕ → DeviceTable → Stream → Option Client → Type 0
IsStillFor l devices stream None = Unit {0}
IsStillFor l devices stream (Some client) = is_streaming l client.about.phase ≡ true → HasNothingUp devices client stream

abbrev pub IsStillOf : ℕ → Option Stream → State → Type 0
IsStillOf l None s = Unit {0}
IsStillOf l (Some stream) s = IsStillFor l s.devices stream (s.clients stream.client)

-- The up rule makes nothing of the stream of an id.
abbrev pub IsStill : ℕ → State → Type 0
IsStill l s = IsStillOf l (s.streams l) s

-- These ids are among the first k, and the up rule makes nothing of any other stream.
pub record CoversUp (ids : List ℕ) (k : ℕ) (s : State) : Type 0 where
  pub within : (l : ℕ) → IsAmong l ids → (0 < l) × (l ≤ k)
  pub still : (l : ℕ) → (IsAmong l ids → ⊥) → IsStill l s
