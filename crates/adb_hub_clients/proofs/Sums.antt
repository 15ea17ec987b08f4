-- The up rule changes no link's check words.
use Rattle.std.proofs.Common.{ℕ, ◌≡◌, List, [], ◌∷◌, drop, Bool, true, false, Option, Some, None, refl, ◌∙◌, cond, eqb}
use Rattle.std.specs.Prelude.{option_map, option_and_then}
use Rattle.adb_wire.specs.declared.packets.Packet.{Packet}
use Rattle.adb_wire.specs.Packet.{spelling}
use Rattle.adb_stream.specs.declared.row.Stream.{Stream}
use Rattle.adb_client.specs.declared.phase.Phase.{Phase}
use Rattle.adb_client.specs.declared.phase.Phase.TheVariants.{Asking, Opening, Streaming, Binding, Tracking, Closing, Gone}
use Rattle.adb_history.specs.Rows.{Client, Link, State, to_stream, none_kept, with_link_due}
use Rattle.adb_history.specs.declared.ending.Ending.{Ending}
use Rattle.adb_history.specs.declared.ending.Ending.TheVariants.{ClientClosed}
use Rattle.adb_history.specs.Links.{write_packet, close_packet, owe_link, check_on, wants_sums, maxdata_of}
use Rattle.adb_history.specs.Streams.{loses, client_loses, tells_end, ends_telling}
use Rattle.adb_history.specs.Flow.{payloads, noted, goes_up, all_go_up, closes_if, sends_up, is_over, flow_after, total, is_streaming}
use Rattle.adb_history.specs.Flow.{up_client, up_stream}
use Rattle.adb_history.specs.Flow.{up}

-- what a link's check words are, where it lives
abbrev pub sums_at : ℕ → State → Option Bool
sums_at k s = option_map (λ link. link.sums) (s.links k)

-- all links have the check words that they had
abbrev pub SumsStay : State → State → Type 0
SumsStay s then = (k : ℕ) → sums_at k then ≡ sums_at k s

owed_sums : (t : ℕ) (p : Packet) (s : State) → SumsStay s (owe_link t p s).state
owed_sums t p s k = by_test (eqb t k) (s.links k)
  where
    by_row : (row : Option Link) → option_map (λ link. link.sums)
        (option_and_then (with_link_due (spelling p (check_on (wants_sums (s.links t)) p))) row)
        ≡ option_map (λ link. link.sums) row
    by_row None = refl
    by_row (Some link) = refl

    by_test : (b : Bool) (row : Option Link)
        → option_map (λ link. link.sums)
        (cond b (option_and_then (with_link_due (spelling p (check_on (wants_sums (s.links t)) p))) row) row)
        ≡ option_map (λ link. link.sums) row
    by_test true row = by_row row
    by_test false row = refl

loses_sums : (forwarded : Bool) (phase : Phase) (c : ℕ) (s : State) → SumsStay s (loses forwarded phase c s).state
loses_sums true Asking c s k = refl
loses_sums false Asking c s k = refl
loses_sums true (Opening l) c s k = refl
loses_sums false (Opening l) c s k = refl
loses_sums true (Streaming l) c s k = refl
loses_sums false (Streaming l) c s k = refl
loses_sums true Binding c s k = refl
loses_sums false Binding c s k = refl
loses_sums true Tracking c s k = refl
loses_sums false Tracking c s k = refl
loses_sums true Closing c s k = refl
loses_sums false Closing c s k = refl
loses_sums true Gone c s k = refl
loses_sums false Gone c s k = refl

client_sums : (row : Option Client) (c : ℕ) (s : State) → SumsStay s (client_loses row c s).state
client_sums None c s k = refl
client_sums (Some client) c s k = loses_sums client.about.forwarded client.about.phase c s k

told_sums : (orphan : Bool) (l : ℕ) (ending : Ending) (s : State) → SumsStay s (tells_end orphan l ending s).state
told_sums true l ending s k = refl
told_sums false l ending s k = refl

ended_sums : (l : ℕ) (ending : Ending) (stream : Stream) (s : State) → SumsStay s (ends_telling l ending stream s).state
ended_sums l ending stream s k =
    let owed = (owe_link stream.link (close_packet l stream.part.remote) s).state in
    let told = (tells_end stream.part.orphan l ending (to_stream l none_kept owed)).state in
    client_sums (told.clients stream.client) stream.client told k
    ∙ (told_sums stream.part.orphan l ending (to_stream l none_kept owed) k ∙ owed_sums stream.link (close_packet l stream.part.remote) s k)

closed_sums : (over : Bool) (l : ℕ) (row : Option Stream) (s : State) → SumsStay s (closes_if over l row s).state
closed_sums true l None s k = refl
closed_sums false l None s k = refl
closed_sums true l (Some stream) s k = ended_sums l ClientClosed stream s k
closed_sums false l (Some stream) s k = refl

sent_sums : (l : ℕ) (stream : Stream) (payloads : List (List ℕ)) (s : State) → SumsStay s (all_go_up l stream payloads s).state
sent_sums l stream [] s k = refl
sent_sums l stream (payload ∷ payloads) s k =
    let one = (goes_up l stream payload s).state in
    sent_sums l stream payloads one k ∙ owed_sums stream.link (write_packet l stream.part.remote payload) s k

up_sums_by : (l : ℕ) (stream : Stream) (client : Client) (payloads : List (List ℕ)) (s : State)
    → SumsStay s (sends_up l stream client payloads s).state
up_sums_by l stream client payloads s k =
    let noted = noted l stream client.held payloads s in
    let sent = (all_go_up l stream payloads noted).state in
    closed_sums (is_over client.about.ended (drop (total payloads) client.held)
    (flow_after payloads stream.part.flow)) l (sent.streams l) sent k
    ∙ sent_sums l stream payloads noted k

up_sums_for : (l : ℕ) (stream : Stream) (row : Option Client) (s : State) → SumsStay s (up_client l stream row s).state
up_sums_for l stream None s k = refl
up_sums_for l stream (Some client) s k = by_test (is_streaming l client.about.phase)
  where
    by_test : (b : Bool)
        → sums_at k (cond b
        (sends_up l stream client (payloads stream.part.flow (maxdata_of stream.link s.devices) client.held) s)
        (record { state = s; told = [] })).state ≡ sums_at k s
    by_test true = up_sums_by l stream client (payloads stream.part.flow (maxdata_of stream.link s.devices) client.held) s k
    by_test false = refl

up_sums_of : (l : ℕ) (row : Option Stream) (s : State) → SumsStay s (up_stream l row s).state
up_sums_of l None s k = refl
up_sums_of l (Some stream) s k = up_sums_for l stream (s.clients stream.client) s k

-- the up rule changes no check words
pub up_sums : (l : ℕ) (s : State) → SumsStay s (up l s).state
up_sums l s k = up_sums_of l (s.streams l) s k
