-- What a stream may send up, by its window or its credit (protocol.txt, WRITE and READY).
use Rattle.std.specs.Prelude.{ℕ, ◌+◌, ◌-◌, Bool, true, false, if◌then◌else◌, ◌&&◌, nat_eq, List, [], ◌∷◌, length, take, drop, min, Option}
use Rattle.std.specs.Prelude.{Some, None, zero, suc}
use Rattle.adb_stream.specs.Flow.{wrote, is_idle}
use Rattle.adb_stream.specs.declared.flow.Flow.{Flow}
use Rattle.adb_stream.specs.declared.flow.Flow.TheVariants.{One, Credit}
use Rattle.adb_stream.specs.declared.row.Part.{Part}
use Rattle.adb_stream.specs.declared.row.Stream.{Stream}
use Rattle.adb_client.specs.declared.phase.Phase.{Phase}
use Rattle.adb_client.specs.declared.phase.Phase.TheVariants.{Streaming}
use Rattle.adb_history.specs.Rows.{Client, State, to_client, to_stream, with_held, with_stream_part}
use Rattle.adb_history.specs.Events.{Made, quietly, then_also}
use Rattle.adb_history.specs.declared.ending.Ending.TheVariants.{ClientClosed}
use Rattle.adb_history.specs.Links.{write_packet, owe_link, maxdata_of}
use Rattle.adb_history.specs.Streams.{ends_telling}

-- ---- the writes that held bytes make
-- so many bytes go up in one write: no more than the device takes, than there is credit for, and than are held
abbrev pub write_len : (maxdata credit : ℕ) → List ℕ → ℕ
write_len maxdata credit held = min (min maxdata credit) (length held)

-- the bytes of one write before those of the others, where there are any
abbrev pub write_before : ℕ → List ℕ → List (List ℕ) → List (List ℕ)
write_before zero held others = []
write_before (suc n) held others = take (suc n) held ∷ others

-- at most so many writes, of what is held, within a credit
abbrev pub writes : ℕ → (maxdata credit : ℕ) → List ℕ → List (List ℕ)
writes zero maxdata credit held = []
writes (suc k) maxdata credit held =
    write_before (write_len maxdata credit held) held
    (writes k maxdata (credit - write_len maxdata credit held) (drop (write_len maxdata credit held) held))

-- What a stream may write: one write at a time, and none while one is outstanding; or as many as there is credit for.
abbrev pub payloads : Flow → ℕ → List ℕ → List (List ℕ)
payloads (One window) maxdata held = if window.outstanding then [] else writes 1 maxdata maxdata held
payloads (Credit credit) maxdata held = writes (length held) maxdata credit.to_send held

-- how many bytes writes have
abbrev pub total : List (List ℕ) → ℕ
total [] = 0
total (payload ∷ payloads) = length payload + total payloads

-- ---- the up rule
abbrev pub with_flow : Flow → Part → Part
with_flow flow part = record part { flow = flow }

-- one write becomes due to the device, and its bytes are held no more
abbrev pub goes_up : ℕ → Stream → List ℕ → State → Made
goes_up l stream payload s = owe_link stream.link (write_packet l stream.part.remote payload) s

abbrev pub all_go_up : ℕ → Stream → List (List ℕ) → State → Made
all_go_up l stream [] s = quietly s
all_go_up l stream (payload ∷ payloads) s = then_also (goes_up l stream payload s) (all_go_up l stream payloads)

abbrev pub flow_after : List (List ℕ) → Flow → Flow
flow_after [] flow = flow
flow_after (payload ∷ payloads) flow = flow_after payloads (wrote (length payload) flow)

-- the rows after writes
abbrev pub noted : ℕ → Stream → List ℕ → List (List ℕ) → State → State
noted l stream held payloads s =
    to_client stream.client (with_held (drop (total payloads) held))
    (to_stream l (with_stream_part (with_flow (flow_after payloads stream.part.flow) stream.part)) s)

-- whether a stream is over for its client: its input ended, nothing of it is held, and no write waits
abbrev pub is_over : Bool → List ℕ → Flow → Bool
is_over ended [] flow = ended && is_idle flow
is_over ended (b ∷ held) flow = false

abbrev pub closes_if : Bool → ℕ → Option Stream → State → Made
closes_if over l None s = quietly s
closes_if false l (Some stream) s = quietly s
closes_if true l (Some stream) s = ends_telling l ClientClosed stream s

-- what a client holds goes up its stream, in writes; and then its end, where its input ended and all went up
abbrev pub sends_up : ℕ → Stream → Client → List (List ℕ) → State → Made
sends_up l stream client payloads s =
    then_also (all_go_up l stream payloads (noted l stream client.held payloads s))
    (λ s. closes_if
    (is_over client.about.ended (drop (total payloads) client.held) (flow_after payloads stream.part.flow)) l
    (s.streams l) s)

-- a stream that its client has open
abbrev pub is_streaming : ℕ → Phase → Bool
is_streaming l (Streaming k) = nat_eq k l
is_streaming l _ = false

abbrev pub up_client : ℕ → Stream → Option Client → State → Made
up_client l stream None s = quietly s
up_client l stream (Some client) s =
    if is_streaming l client.about.phase
    then sends_up l stream client (payloads stream.part.flow (maxdata_of stream.link s.devices) client.held) s
    else quietly s

abbrev pub up_stream : ℕ → Option Stream → State → Made
up_stream l None s = quietly s
up_stream l (Some stream) s = up_client l stream (s.clients stream.client) s

-- the up rule, for the stream of an id
abbrev pub up : ℕ → State → Made
up l s = up_stream l (s.streams l) s

-- the up rule for the streams 1 to k, in rising id
abbrev pub up_all : ℕ → State → Made
up_all zero s = quietly s
up_all (suc k) s = then_also (up_all k s) (up (suc k))
