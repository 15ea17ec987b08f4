-- Streams: how they are asked for, and how they end (protocol.txt, OPEN and CLOSE).
use Rattle.std.specs.Prelude.{ℕ, ◌+◌, ◌-◌, ◌^◌, ◌==◌, Bool, true, false, if◌then◌else◌, List, [], ◌∷◌, Option, Some, None, codes, nat_eq}
use Rattle.std.specs.Prelude.{zero, suc}
use Rattle.adb_outside.specs.Tables.{put_row}
use Rattle.adb_stream.specs.Flow.{new_flow}
use Rattle.adb_stream.specs.Stream.{new_stream}
use Rattle.adb_stream.specs.declared.row.Stream.{Stream}
use Rattle.adb_client.specs.declared.phase.Phase.{Phase}
use Rattle.adb_client.specs.declared.phase.Phase.TheVariants.{Opening, Streaming}
use Rattle.adb_reply.specs.Strings.{failed}
use Rattle.adb_history.specs.Rows.{Client, State, to_client, to_stream, none_kept, in_phase}
use Rattle.adb_history.specs.Events.{Made, quietly, then_also, ended}
use Rattle.adb_history.specs.declared.ending.Ending.{Ending}
use Rattle.adb_history.specs.Links.{open_packet, close_packet, owe_link, is_credit}
use Rattle.adb_history.specs.Clients.{closes, closes_with}

-- how many stream ids there are
abbrev pub stream_ids : ℕ
stream_ids = 2 ^ 32 - 1

-- ---- service
-- the next stream is drawn for a client and a link
abbrev pub draw : Bool → (c t : ℕ) → State → State
draw credit c t s = record s {
  drawn = s.drawn + 1;
  streams = put_row (s.drawn + 1) (Some (new_stream (s.drawn + 1) c t (new_flow credit))) s.streams;
}

-- a client asks for a service of a device: the stream of this id is drawn, the device is asked, and the client waits for its answer
abbrev pub asks_for : (l c t : ℕ) → List ℕ → State → Made
asks_for l c t service s =
    owe_link t (open_packet (is_credit t s.devices) l service) (to_client c (in_phase (Opening l)) (draw (is_credit t s.devices) c t s))

-- where no id is left, a client is told so, unless it came through a forward
abbrev pub no_ids_left : Bool → ℕ → State → Made
no_ids_left true c s = quietly (to_client c none_kept s)
no_ids_left false c s = closes_with c (failed (codes "no stream ids left")).bytes s

-- service
abbrev pub opens : Bool → (c t : ℕ) → List ℕ → State → Made
opens forwarded c t service s =
    if s.drawn == stream_ids then no_ids_left forwarded c s else asks_for (s.drawn + 1) c t service s

-- ---- stream end
-- what an open stream's end makes of its client, by its phase
abbrev pub loses : Bool → Phase → ℕ → State → Made
loses forwarded (Streaming l) c s = quietly (closes c s)
loses true (Opening l) c s = quietly (closes c s)
loses false (Opening l) c s = closes_with c (failed (codes "closed")).bytes s
loses forwarded _ c s = quietly s

abbrev pub client_loses : Option Client → ℕ → State → Made
client_loses None c s = quietly s
client_loses (Some client) c s = loses client.about.forwarded client.about.phase c s

-- An orphan ended when its client failed: only its row goes.
abbrev pub tells_end : Bool → ℕ → Ending → State → Made
tells_end true l ending s = quietly s
tells_end false l ending s = record { state = s; told = ended l ending ∷ [] }

-- stream end: the row of a stream is removed, and its client is closing
abbrev pub ends_row : ℕ → Ending → Stream → State → Made
ends_row l ending stream s =
    then_also (tells_end stream.part.orphan l ending (to_stream l none_kept s))
    (λ s. client_loses (s.clients stream.client) stream.client s)

-- a stream ends of which the device is told
abbrev pub ends_telling : ℕ → Ending → Stream → State → Made
ends_telling l ending stream s =
    then_also (owe_link stream.link (close_packet l stream.part.remote) s) (ends_row l ending stream)

-- ---- all streams of a link end
abbrev pub ends_if_of : (t l : ℕ) → Ending → Option Stream → State → Made
ends_if_of t l ending None s = quietly s
ends_if_of t l ending (Some stream) s = if nat_eq stream.link t then ends_row l ending stream s else quietly s

-- of the streams 1 to k, in rising id, those of a link end
abbrev pub ends_of : ℕ → ℕ → Ending → State → Made
ends_of t zero ending s = quietly s
ends_of t (suc k) ending s = then_also (ends_of t k ending s) (λ s. ends_if_of t (suc k) ending (s.streams (suc k)) s)

abbrev pub all_end : ℕ → Ending → State → Made
all_end t ending s = ends_of t s.drawn ending s
