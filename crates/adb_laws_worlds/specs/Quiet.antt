-- Streams of a server that have nothing to send and nothing to hand out.
use Rattle.std.specs.Prelude.{ℕ, ◌≡◌, ◌≢◌, ◌≤◌, true, false, [], Some}
use Rattle.adb_stream.specs.Flow.{has_credit, to_hand}
use Rattle.adb_stream.specs.declared.row.Stream.{Stream}
use Rattle.adb_client.specs.declared.phase.Phase.TheVariants.{Streaming}
use Rattle.adb_history.specs.Links.{is_connected, maxdata_of}
use Rattle.adb_history.specs.Machine.{History, state}
use Rattle.adb_history.specs.Packets.{least_maxdata}
use Rattle.adb_history.specs.Rows.{Client}
use Rattle.adb_laws_causes.specs.Flows.{waiting}

-- A device that is connected takes payloads of so many bytes at least.
abbrev pub TakePayloads : History → Type 0
TakePayloads h = (t : ℕ) → is_connected t (state h).devices ≡ true → least_maxdata ≤ maxdata_of t (state h).devices

-- The client of an open stream is there and has it open; where nothing is due to it nothing is to be handed out; and
-- where no write waits on a stream
-- without credit, nothing is held.
pub record IsServed (h : History) (l : ℕ) (x : Stream) : Type 0 where
  pub client : Client
  pub here : (state h).clients x.client ≡ Some client
  pub phase : client.about.phase ≡ Streaming l
  pub alive : x.part.orphan ≡ false
  pub handed : client.due ≡ [] → to_hand x.part.flow ≡ 0
  pub sent : has_credit x.part.flow ≡ false → waiting x.part.flow ≡ 0 → client.held ≡ []

abbrev pub OpenAreServed : History → Type 0
OpenAreServed h = (l : ℕ) (x : Stream) → (state h).streams l ≡ Some x → x.part.remote ≢ 0 → IsServed h l x
