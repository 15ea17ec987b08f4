-- A stream at the device's end: what it was opened for, what came and what it wrote, and what its window lets it write.
use Rattle.std.specs.Prelude.{ℕ, ◌≡◌, ◌<◌, ◌==◌, min, ◌&&◌, if◌then◌else◌, Bool, List, [], ◌∷◌, ◌++◌, length, take, drop, Option, Some}
use Rattle.std.specs.Prelude.{None, is_some, zero, suc}
use Rattle.std.specs.List.{flat_map}
use Rattle.adb_wire.specs.declared.command.Command.TheVariants as commands
use Rattle.adb_wire.specs.declared.packets.Packet.{Packet}
use Rattle.adb_wire.specs.Packet.{spelling, check_of}
use Rattle.byteorder.specs.Endian.{little_bytes}
use Rattle.adb_stream.specs.declared.credit.TheConstants.{CREDIT_WINDOW}
use Rattle.adb_stream.specs.Flow.{new_flow, may_send, is_idle, wrote, acknowledged}
use Rattle.adb_stream.specs.declared.flow.Flow.{Flow}
use Rattle.adb_stream.specs.declared.flow.Flow.TheVariants as flows
use Rattle.adb_files.specs.Entries.{Entry}
use Rattle.adb_device_streams.specs.Asked.{Kind}
use Rattle.adb_device_streams.specs.Service.{Came, TakesFrontOfOne, HasAnswered, files_fed, out_of, service_answer}
use Rattle.adb_device_streams.specs.declared.service.Service.{Service}
use Rattle.adb_device_streams.specs.declared.stream.Stream.{Stream}

-- what a stream may write at first: one write, or where the link has credit in bytes the credit that its OPEN gives
abbrev pub first_flow : Option ℕ → Flow
first_flow credit = acknowledged credit (new_flow (is_some credit))

-- how many bytes the next write may have, where a write may have at most so many
abbrev pub room_of : Flow → ℕ → ℕ
room_of flow most = min most (may_send flow most)

-- a stream: the host's id, what it was opened for and over which files, the payloads that came, what it wrote, and its window
pub record Row : Type 0 where
  pub host : ℕ
  pub kind : Kind
  pub first : List Entry
  pub past : List Came
  pub sent : List ℕ
  pub flow : Flow

-- what the service answered and the stream did not write
abbrev pub unsent : Row → List ℕ
unsent row = drop (length row.sent) (service_answer row.kind row.first row.past).bytes

-- the payload of the next write, and the stream past it
abbrev pub next_payload : ℕ → Row → List ℕ
next_payload most row = take (room_of row.flow most) (unsent row)

abbrev pub row_past : List ℕ → Row → Row
row_past payload row = record row { sent = row.sent ++ payload; flow = wrote (length payload) row.flow }

-- all the writes that the window lets go: at most so many of them
abbrev pub writes_at : ℕ → ℕ → Row → List (List ℕ)
writes_at zero most row = []
writes_at (suc k) most row =
    if length (next_payload most row) == 0 then [] else next_payload most row ∷ writes_at k most (row_past (next_payload most row) row)

abbrev pub writes : ℕ → Row → List (List ℕ)
writes most row = writes_at (length (unsent row)) most row

-- the stream past writes
abbrev pub row_past_all : List (List ℕ) → Row → Row
row_past_all [] row = row
row_past_all (payload ∷ more) row = row_past_all more (row_past payload row)

-- Whether the stream is done: its service has ended, all is written, and nothing is outstanding.
abbrev pub is_done : Row → Bool
is_done row = (service_answer row.kind row.first row.past).ended && (length (unsent row) == 0 && is_idle row.flow)

-- what is held of a stream
pub record StandsFor (row : Row) (stream : Stream) : Type 0 where
  pub host : stream.host ≡ row.host
  pub flow : stream.flow ≡ row.flow
  pub answers : HasAnswered row.kind row.first row.past row.sent stream.service

-- a stream that was just opened
abbrev pub opened : ℕ → Kind → List Entry → Option ℕ → Row
opened host kind files credit = record { host = host; kind = kind; first = files; past = []; sent = []; flow = first_flow credit }

-- a stream that a payload came to, and one that an OKAY came to
abbrev pub row_took : Came → Row → Row
row_took came row = record row { past = came ∷ row.past }

abbrev pub row_acked : Option ℕ → Row → Row
row_acked word row = record row { flow = acknowledged word row.flow }

-- The first bytes of an answer were taken, at most so many: these are they, and the service is the one without them.
pub record TakesFirst (room : ℕ) (old new : Service) (payload : List ℕ) : Type 0 where
  pub first_bytes : payload ≡ take room (out_of old)
  pub left : out_of new ≡ drop room (out_of old)
  pub answers : (kind : Kind) (first : List Entry) (past : List Came) (gone : List ℕ) → HasAnswered kind first past gone old
      → HasAnswered kind first past (gone ++ payload) new

-- The next write was made: its payload is that of the row, and the stream is the one past it; or there is none, and
-- the stream is as before.
abbrev pub MakesWrite : ℕ → Row → Stream → Option (List ℕ) → Type 0
MakesWrite most row new None = (next_payload most row ≡ []) × StandsFor row new
MakesWrite most row new (Some payload) = (payload ≡ next_payload most row) × (0 < length payload) × StandsFor (row_past payload row) new

-- A write came: the payload was taken, and the files are those that it leaves.
pub record TakesWrite (came : Came) (row : Row) (new : Stream) (left : List Entry) : Type 0 where
  pub stands : StandsFor (row_took came row) new
  pub files : left ≡ files_fed row.kind row.past came

abbrev pub TakesWriteFront : Came → Row → Stream → List Entry → Type 0
TakesWriteFront came row new left = TakesFrontOfOne row.kind row.first row.past row.sent came new.service left

-- the packet of a write, between the device's id and the host's
abbrev pub wrte : ℕ → ℕ → List ℕ → Packet
wrte own host payload = record { command = commands.Wrte; arg0 = own; arg1 = host; payload = payload }

-- the bytes of a packet that goes out
abbrev pub packet_bytes : Bool → Packet → List ℕ
packet_bytes sums packet = spelling packet (check_of sums packet)

-- the bytes of the packets of writes
abbrev pub writes_bytes : Bool → ℕ → ℕ → List (List ℕ) → List ℕ
writes_bytes sums own host payloads = flat_map (λ payload. packet_bytes sums (wrte own host payload)) payloads

-- the stream past all the writes that the window lets go
abbrev pub row_written : ℕ → Row → Row
row_written most row = row_past_all (writes most row) row

-- All the writes that the window lets go were made: their packets became due, in order.
pub record Writes (sums : Bool) (own most : ℕ) (row : Row) (new : Stream) (due due' : List ℕ) : Type 0 where
  pub stands : StandsFor (row_written most row) new
  pub written : due' ≡ due ++ writes_bytes sums own row.host (writes most row)

-- an OKAY with a payload, and a CLSE, between the device's id and the host's
abbrev pub okay : ℕ → ℕ → List ℕ → Packet
okay own host payload = record { command = commands.Okay; arg0 = own; arg1 = host; payload = payload }

abbrev pub clse : ℕ → ℕ → Packet
clse own host = record { command = commands.Clse; arg0 = own; arg1 = host; payload = [] }

-- The opening OKAY: where the link has credit in bytes the whole window is its credit word.
abbrev pub opening_word : Option ℕ → List ℕ
opening_word None = []
opening_word (Some given) = little_bytes 4 CREDIT_WINDOW

-- A write of so many bytes is acknowledged at once; where the link has credit in bytes these are given back, and none where there are none.
abbrev pub ack_bytes : Bool → ℕ → ℕ → Flow → ℕ → List ℕ
ack_bytes sums own host (flows.One window) n = packet_bytes sums (okay own host [])
ack_bytes sums own host (flows.Credit credit) n = if n == 0 then [] else packet_bytes sums (okay own host (little_bytes 4 n))

-- the CLSE of a stream that is done
abbrev pub close_bytes : Bool → ℕ → Row → List ℕ
close_bytes sums own row = if is_done row then packet_bytes sums (clse own row.host) else []

-- A stream has settled: all the writes that its window lets go were made, and where it is done then its CLSE follows.
pub record Settles (sums : Bool) (own most : ℕ) (row : Row) (new : Stream) (due due' : List ℕ) (done : Bool) : Type 0 where
  pub stands : StandsFor (row_written most row) new
  pub written : due' ≡ (due ++ writes_bytes sums own row.host (writes most row)) ++ close_bytes sums own (row_written most row)
  pub done_then : done ≡ is_done (row_written most row)
