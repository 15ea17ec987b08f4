-- Clients that close and streams that end: the end of a stream pays its CLSE.
use Rattle.std.specs.Prelude.{ℕ, ◌≡◌, zero, suc, Bool, true, false, cond, nat_eq, [], ◌∷◌, Option, Some, None}
use Rattle.std.proofs.Common.{refl, arith}
use Rattle.adb_outside.specs.Tables.{Rows}
use Rattle.adb_outside.specs.declared.kinds.Cause.{Cause}
use Rattle.adb_outside.specs.declared.kinds.Cause.TheVariants.{Eof, Fault, Starved, NoThread}
use Rattle.adb_stream.specs.declared.row.Stream.{Stream}
use Rattle.adb_client.specs.declared.phase.Phase.{Phase}
use Rattle.adb_client.specs.declared.phase.Phase.TheVariants.{Opening, Streaming, Closing, Gone}
use Rattle.adb_history.specs.Rows.{Client, Link, State, to_client, to_stream, none_kept, with_stream_part}
use Rattle.adb_history.specs.Events.{quietly, ended}
use Rattle.adb_history.specs.declared.ending.Ending.{Ending}
use Rattle.adb_history.specs.declared.ending.Ending.TheVariants.{ClientFailed, Stopped}
use Rattle.adb_history.specs.Links.{close_packet, owe_link}
use Rattle.adb_history.specs.Streams.{loses, client_loses, tells_end, ends_row, ends_telling, ends_if_of, ends_of, all_end}
use Rattle.adb_history.specs.Tracking.{mark_all}
use Rattle.adb_history.specs.Losing.{forgets, link_ends, orphaned, stream_fails, stream_of, client_fails, input_ends, client_ends}
use Rattle.adb_history.specs.Losing.{tells_stop, all_stop, stops}
use Rattle.adb_history.specs.Machine.{unplugs_on}
use Rattle.adb_laws_steps.specs.Tolls.{tolls}
use Rattle.adb_laws_steps.proofs.Sums.{sum_none}
use Rattle.adb_laws_steps.proofs.Costs.{InRange, Costs, tolls_append, costs_quiet, costs_aside, costs_then, costs_after, costs_within}
use Rattle.adb_laws_steps.proofs.Costs.{quiets_row, quiets_gone}
use Rattle.adb_laws_steps.proofs.Costs.{costs_owe}

-- ---- the client of a stream that ended
loses_costs : (forwarded : Bool) (phase : Phase) (c : ℕ) (s : State) → InRange s → Costs 0 0 s (loses forwarded phase c s)
loses_costs forwarded (Streaming l) c s range = costs_aside 0 s _ range refl refl (omega arith)
loses_costs true (Opening l) c s range = costs_aside 0 s _ range refl refl (omega arith)
loses_costs false (Opening l) c s range = costs_aside 0 s _ range refl refl (omega arith)
loses_costs forwarded _ c s range = costs_quiet s range

client_loses_costs : (o : Option Client) (c : ℕ) (s : State) → InRange s → Costs 0 0 s (client_loses o c s)
client_loses_costs None c s range = costs_quiet s range
client_loses_costs (Some client) c s range = loses_costs client.about.forwarded client.about.phase c s range

-- ---- one stream ends
tells_end_costs : (orphan : Bool) (l : ℕ) (ending : Ending) (s : State) → InRange s → Costs 0 0 s (tells_end orphan l ending s)
tells_end_costs true l ending s range = costs_quiet s range
tells_end_costs false l ending s range = costs_aside 0 s _ range refl refl (omega arith)

pub ends_row_costs : (l : ℕ) (ending : Ending) (stream : Stream) (s : State) → InRange s → s.streams l ≡ Some stream
    → Costs 0 24 s (ends_row l ending stream s)
ends_row_costs l ending stream s range is =
    costs_then 0 0 24 0 s (tells_end stream.part.orphan l ending (to_stream l none_kept s))
    (λ (x : State). client_loses (x.clients stream.client) stream.client x)
    (costs_after 0 24 0 s (to_stream l none_kept s) _ (quiets_gone s range l stream is)
    (λ later. tells_end_costs stream.part.orphan l ending (to_stream l none_kept s) later))
    (λ later. client_loses_costs
    ((tells_end stream.part.orphan l ending (to_stream l none_kept s)).state.clients stream.client) stream.client _ later)

pub ends_telling_costs : (l : ℕ) (ending : Ending) (stream : Stream) (s : State) → InRange s → s.streams l ≡ Some stream
    → Costs 0 0 s (ends_telling l ending stream s)
ends_telling_costs l ending stream s range is =
    costs_within 24 0 24 0 s _ (omega arith)
    (costs_then 24 0 0 24 s (owe_link stream.link (close_packet l stream.part.remote) s) (ends_row l ending stream)
    (costs_owe s range stream.link (close_packet l stream.part.remote))
    (λ later. ends_row_costs l ending stream _ later is))

-- ---- all streams of a link end
ends_if_costs : (t l : ℕ) (ending : Ending) (o : Option Stream) (s : State) → InRange s → s.streams l ≡ o
    → Costs 0 0 s (ends_if_of t l ending o s)
ends_if_costs t l ending None s range is = costs_quiet s range
ends_if_costs t l ending (Some stream) s range is = go (nat_eq stream.link t)
  where
    go : (b : Bool) → Costs 0 0 s (cond b (ends_row l ending stream s) (quietly s))
    go true = costs_within 0 0 24 0 s _ (omega arith) (ends_row_costs l ending stream s range is)
    go false = costs_quiet s range

ends_of_costs : (t k : ℕ) (ending : Ending) (s : State) → InRange s → Costs 0 0 s (ends_of t k ending s)
ends_of_costs t zero ending s range = costs_quiet s range
ends_of_costs t (suc k) ending s range =
    costs_then 0 0 0 0 s (ends_of t k ending s) (λ (x : State). ends_if_of t (suc k) ending (x.streams (suc k)) x)
    (ends_of_costs t k ending s range)
    (λ later. ends_if_costs t (suc k) ending ((ends_of t k ending s).state.streams (suc k)) (ends_of t k ending s).state later refl)

pub all_end_costs : (t : ℕ) (ending : Ending) (s : State) → InRange s → Costs 0 0 s (all_end t ending s)
all_end_costs t ending s range = ends_of_costs t s.drawn ending s range

pub link_ends_costs : (t : ℕ) (ending : Ending) (s : State) → InRange s → Costs 0 0 s (link_ends t ending s)
link_ends_costs t ending s range =
    costs_then 0 0 0 0 s (all_end t ending (forgets t s)) (λ (x : State). quietly (mark_all x))
    (costs_after 0 0 0 s (forgets t s) _ (record { range = range; cost = omega arith })
    (λ later. all_end_costs t ending (forgets t s) later))
    (λ later. let x : State = (all_end t ending (forgets t s)).state
    in costs_aside 0 x (quietly (mark_all x)) later refl refl (omega arith))

pub unplugs_costs : (o : Option Link) (t : ℕ) (s : State) → InRange s → Costs 0 0 s (unplugs_on o t s)
unplugs_costs None t s range = costs_quiet s range
unplugs_costs (Some link) t s range = link_ends_costs t _ s range

-- ---- the end of a client
stream_fails_costs : (phase : Phase) (cause : Cause) (s : State) → InRange s
    → Costs 0 0 s (stream_fails phase cause (stream_of phase s.streams) s)
stream_fails_costs (Streaming l) cause s range = go (s.streams l) refl
  where
    go : (o : Option Stream) → s.streams l ≡ o → Costs 0 0 s (stream_fails (Streaming l) cause o s)
    go None is = costs_quiet s range
    go (Some stream) is =
        costs_within 24 0 24 0 s _ (omega arith)
        (costs_then 24 0 24 0 s (owe_link stream.link (close_packet l stream.part.remote) (to_stream l none_kept s))
        (λ (x : State). record { state = x; told = ended l (ClientFailed cause) ∷ [] })
        (costs_after 24 24 0 s (to_stream l none_kept s) _ (quiets_gone s range l stream is)
        (λ later. costs_owe (to_stream l none_kept s) later stream.link (close_packet l stream.part.remote)))
        (λ later. costs_aside 0 (owe_link stream.link (close_packet l stream.part.remote) (to_stream l none_kept s)).state
        (record {
          state = (owe_link stream.link (close_packet l stream.part.remote) (to_stream l none_kept s)).state;
          told = ended l (ClientFailed cause) ∷ [];
        }) later refl refl (omega arith)))
stream_fails_costs (Opening l) cause s range = go (s.streams l)
  where
    go : (o : Option Stream) → Costs 0 0 s (stream_fails (Opening l) cause o s)
    go None = costs_quiet s range
    go (Some stream) =
        costs_after 0 0 0 s (to_stream l (with_stream_part (orphaned stream.part)) s) _
        (quiets_row s range l (with_stream_part (orphaned stream.part)))
        (λ later. costs_aside 0 (to_stream l (with_stream_part (orphaned stream.part)) s) (stream_fails (Opening l) cause (Some stream) s)
        later refl refl (omega arith))
stream_fails_costs _ cause s range = costs_quiet s range

client_fails_costs : (c : ℕ) (cause : Cause) (client : Client) (s : State) → InRange s → Costs 0 0 s (client_fails c cause client s)
client_fails_costs c cause client s range =
    costs_after 0 0 0 s (to_client c none_kept s) _ (record { range = range; cost = omega arith })
    (λ later. stream_fails_costs client.about.phase cause (to_client c none_kept s) later)

input_ends_costs : (phase : Phase) (c : ℕ) (s : State) → InRange s → Costs 0 0 s (quietly (input_ends phase c s))
input_ends_costs Closing c s range = costs_quiet s range
input_ends_costs Gone c s range = costs_quiet s range
input_ends_costs _ c s range = costs_aside 0 s _ range refl refl (omega arith)

pub client_ends_costs : (c : ℕ) (cause : Cause) (o : Option Client) (s : State) → InRange s → Costs 0 0 s (client_ends c cause o s)
client_ends_costs c cause None s range = costs_quiet s range
client_ends_costs c Eof (Some client) s range = input_ends_costs client.about.phase c s range
client_ends_costs c Fault (Some client) s range = client_fails_costs c Fault client s range
client_ends_costs c Starved (Some client) s range = client_fails_costs c Starved client s range
client_ends_costs c NoThread (Some client) s range = client_fails_costs c NoThread client s range

-- ---- kill
stop_tolls : (l : ℕ) (o : Option Stream) → tolls (tells_stop l o) ≡ 0
stop_tolls l None = refl
stop_tolls l (Some stream) = go stream.part.orphan
  where
    go : (b : Bool) → tolls (cond b [] (ended l Stopped ∷ [])) ≡ 0
    go true = refl
    go false = refl

all_stop_tolls : (k : ℕ) (streams : Rows (Option Stream)) → tolls (all_stop k streams) ≡ 0
all_stop_tolls zero streams = refl
all_stop_tolls (suc k) streams =
    let both = tolls_append (all_stop k streams) (tells_stop (suc k) (streams (suc k))) in
    let first = all_stop_tolls k streams in
    let last = stop_tolls (suc k) (streams (suc k)) in
    omega (arith, both, first, last)

pub stops_costs : (c : ℕ) (s : State) → InRange s → Costs 0 0 s (stops c s)
stops_costs c s range =
    let none = sum_none (λ k. 0) s.drawn (λ k. refl) in
    let told = all_stop_tolls s.drawn s.streams in
    record { range = record { above = λ n past. refl; zero = refl }; cost = omega (arith, none, told) }
