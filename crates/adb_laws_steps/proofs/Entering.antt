-- Entries of clients: what they ask, and what they are handed.
use Rattle.std.specs.Prelude.{ℕ, ◌+◌, ◌==◌, ◌≡◌, ◌≤◌, zero, suc, Bool, true, false, cond, nat_eq, min, List, [], ◌∷◌, length, drop}
use Rattle.std.specs.Prelude.{Option, Some, None}
use Rattle.std.proofs.Common.{refl, ap, arith, ◌∙◌, add-one}
use Rattle.std.proofs.lemmas.Bool.{ne_eqb}
use Rattle.adb_outside.specs.Tables.{at, put_row}
use Rattle.adb_outside.specs.declared.kinds.Kind.{Kind}
use Rattle.adb_forward.specs.declared.row.ForwardRow.{ForwardRow}
use Rattle.byteorder.specs.Endian.{little_bytes}
use Rattle.adb_stream.specs.Stream.{new_stream}
use Rattle.adb_stream.specs.Flow.{new_flow, to_hand, credit_back, handed_to}
use Rattle.adb_stream.specs.declared.flow.Flow.{Flow}
use Rattle.adb_stream.specs.declared.flow.Flow.TheVariants.{One, Credit}
use Rattle.adb_stream.specs.declared.row.Stream.{Stream}
use Rattle.adb_client.specs.declared.about.Want.{Want}
use Rattle.adb_client.specs.declared.phase.Phase.{Phase}
use Rattle.adb_client.specs.declared.phase.Phase.TheVariants.{Asking, Opening, Streaming, Binding}
use Rattle.adb_reply.specs.declared.answer.Next.{Next}
use Rattle.adb_reply.specs.declared.answer.Next.TheVariants as what
use Rattle.adb_history.specs.Rows.{Client, State, to_client, to_stream, in_phase, with_stream_part}
use Rattle.adb_history.specs.Events.{quietly}
use Rattle.adb_history.specs.Links.{open_packet, server_cnxn, is_connected, is_credit}
use Rattle.adb_history.specs.Streams.{stream_ids, draw, asks_for, no_ids_left, opens}
use Rattle.adb_history.specs.Clients.{owe_client}
use Rattle.adb_history.specs.Flow.{with_flow}
use Rattle.adb_history.specs.Asking.{Asked, asks_with}
use Rattle.adb_history.specs.Reading.{comes, comes_in_vain, enters_by, enters, plugs_in, goes_on, asked_before, has_asked, asks, reads_in}
use Rattle.adb_history.specs.Reading.{reads_from, reads}
use Rattle.adb_history.specs.Reading.{bound_for, bound_in, bound_at, bound}
use Rattle.adb_history.specs.Handing.{lists_first, hands, tells_credit, tells_handed, stream_hands, stream_left, client_left, takes_of}
use Rattle.adb_history.specs.Handing.{puts_to, puts}
use Rattle.adb_laws_steps.specs.Sums.{sum_to}
use Rattle.adb_laws_steps.specs.Tolls.{toll, close_toll, close_tolls}
use Rattle.adb_laws_steps.proofs.Sums.{sum_within}
use Rattle.adb_laws_steps.proofs.Costs.{InRange, Costs, Quiets, costs_quiet, costs_aside, costs_then, costs_after, costs_within, quiets_row}
use Rattle.adb_laws_steps.proofs.Costs.{costs_owe}
use Rattle.adb_laws_steps.proofs.Ends.{stops_costs}

-- ---- a stream is drawn
quiets_draw : (credit : Bool) (c t : ℕ) (s : State) → InRange s → Quiets 0 s (draw credit c t s)
quiets_draw credit c t s range = record {
  range = record {
    above = λ n past. ap (λ (b : Bool). cond b (Some row) (s.streams n)) (ne_eqb (s.drawn + 1) n (λ e. omega (arith, e, past)))
        ∙ range.above n (omega (arith, past));
    zero = ap (λ (b : Bool). cond b (Some row) (s.streams 0)) (ne_eqb (s.drawn + 1) 0 (λ e. omega (arith, e))) ∙ range.zero;
  };
  cost = omega (arith, last, below, top);
}
  where
    row : Stream
    row = new_stream (s.drawn + 1) c t (new_flow credit)

    tolls_now : ℕ → ℕ
    tolls_now = λ l. close_toll (put_row (s.drawn + 1) (Some (new_stream (s.drawn + 1) c t (new_flow credit))) s.streams l)

    one : (o : Option Stream) → close_toll o ≤ 24
    one None = omega arith
    one (Some x) = omega arith

    top : tolls_now (suc s.drawn) ≤ 24
    top = one (put_row (s.drawn + 1) (Some (new_stream (s.drawn + 1) c t (new_flow credit))) s.streams (suc s.drawn))

    same : (k : ℕ) → k ≤ s.drawn → tolls_now k ≡ close_toll (s.streams k)
    same k le = ap (λ (b : Bool). close_toll (cond b (Some row) (s.streams k))) (ne_eqb (s.drawn + 1) k (λ e. omega (arith, e, le)))

    below : sum_to tolls_now s.drawn ≤ close_tolls s.streams s.drawn
    below = sum_within tolls_now (λ l. close_toll (s.streams l)) s.drawn (λ k some le. (let e = same k le in omega (arith, e)))

    last : close_tolls (draw credit c t s).streams (s.drawn + 1) ≡ tolls_now (suc s.drawn) + sum_to tolls_now s.drawn
    last = ap (λ (n : ℕ). sum_to tolls_now n) (add-one s.drawn)

asks_for_costs : (c t : ℕ) (service : List ℕ) (s : State) → InRange s → Costs 0 0 s (asks_for (s.drawn + 1) c t service s)
asks_for_costs c t service s range =
    let later : State = to_client c (in_phase (Opening (s.drawn + 1))) (draw (is_credit t s.devices) c t s) in
    costs_after 0 0 0 s later (asks_for (s.drawn + 1) c t service s)
    (let drawn = quiets_draw (is_credit t s.devices) c t s range in record { range = drawn.range; cost = drawn.cost })
    (λ now. costs_owe later now t (open_packet (is_credit t s.devices) (s.drawn + 1) service))

no_ids_costs : (forwarded : Bool) (c : ℕ) (s : State) → InRange s → Costs 0 0 s (no_ids_left forwarded c s)
no_ids_costs true c s range = costs_aside 0 s (no_ids_left true c s) range refl refl (omega arith)
no_ids_costs false c s range = costs_aside 0 s (no_ids_left false c s) range refl refl (omega arith)

opens_costs : (forwarded : Bool) (c t : ℕ) (service : List ℕ) (s : State) → InRange s → Costs 0 0 s (opens forwarded c t service s)
opens_costs forwarded c t service s range = go (s.drawn == stream_ids)
  where
    go : (b : Bool) → Costs 0 0 s (cond b (no_ids_left forwarded c s) (asks_for (s.drawn + 1) c t service s))
    go true = no_ids_costs forwarded c s range
    go false = asks_for_costs c t service s range

-- ---- a client reads
goes_on_costs : (next : Option Next) (c : ℕ) (s : State) → InRange s → Costs 0 0 s (goes_on next c s)
goes_on_costs None c s range = costs_quiet s range
goes_on_costs (Some what.Close) c s range = costs_aside 0 s (goes_on (Some what.Close) c s) range refl refl (omega arith)
goes_on_costs (Some (what.Select id)) c s range = costs_quiet s range
goes_on_costs (Some (what.Track long)) c s range = costs_aside 0 s (goes_on (Some (what.Track long)) c s) range refl refl (omega arith)
goes_on_costs (Some (what.Open t service)) c s range = opens_costs false c t service s range
goes_on_costs (Some (what.Bind t local remote chosen)) c s range =
    costs_aside 0 s (goes_on (Some (what.Bind t local remote chosen)) c s) range refl refl (omega arith)
goes_on_costs (Some (what.Rebind t local remote)) c s range =
    costs_aside 0 s (goes_on (Some (what.Rebind t local remote)) c s) range refl refl (omega arith)
goes_on_costs (Some (what.Unbind local)) c s range = costs_aside 0 s (goes_on (Some (what.Unbind local)) c s) range refl refl (omega arith)
goes_on_costs (Some what.UnbindAll) c s range = costs_aside 0 s (goes_on (Some what.UnbindAll) c s) range refl refl (omega arith)
goes_on_costs (Some what.Stop) c s range = stops_costs c s range

asks_costs : (q : Asked) (c : ℕ) (s : State) → InRange s → Costs 0 0 s (asks q c s)
asks_costs q c s range =
    costs_then 0 0 0 0 s (owe_client c q.replies (to_client c (has_asked q) s)) (goes_on q.next c)
    (costs_aside 0 s (owe_client c q.replies (to_client c (has_asked q) s)) range refl refl (omega arith))
    (λ later. goes_on_costs q.next c (owe_client c q.replies (to_client c (has_asked q) s)).state later)

reads_in_costs : (phase : Phase) (c : ℕ) (bytes : List ℕ) (client : Client) (s : State) → InRange s
    → Costs 0 0 s (reads_in phase c bytes client s)
reads_in_costs Asking c bytes client s range = asks_costs (asks_with s.devices s.forwards bytes (asked_before client)) c s range
reads_in_costs (Opening l) c bytes client s range = costs_aside 0 s (reads_in (Opening l) c bytes client s) range refl refl (omega arith)
reads_in_costs (Streaming l) c bytes client s range = costs_aside 0 s (reads_in (Streaming l) c bytes client s) range
    refl refl (omega arith)
reads_in_costs _ c bytes client s range = costs_quiet s range

reads_from_costs : (o : Option Client) (c : ℕ) (bytes : List ℕ) (s : State) → InRange s → Costs 0 0 s (reads_from o c bytes s)
reads_from_costs None c bytes s range = costs_quiet s range
reads_from_costs (Some client) c bytes s range = reads_in_costs client.about.phase c bytes client s range

pub reads_costs : (c : ℕ) (bytes : List ℕ) (s : State) → InRange s → Costs 0 0 s (reads c bytes s)
reads_costs c bytes s range = reads_from_costs (s.clients c) c bytes s range

-- ---- a client comes, and its listener stands
enters_by_costs : (c : ℕ) (o : Option ForwardRow) (s : State) → InRange s → Costs 0 0 s (enters_by c o s)
enters_by_costs c None s range = costs_aside 0 s (enters_by c None s) range refl refl (omega arith)
enters_by_costs c (Some row) s range = go (is_connected row.transport s.devices)
  where
    go : (b : Bool) → Costs 0 0 s (cond b (opens true c row.transport row.remote (comes true c s)) (quietly (comes_in_vain s)))
    go true =
        costs_after 0 0 0 s (comes true c s) (opens true c row.transport row.remote (comes true c s))
        (record { range = range; cost = omega arith })
        (λ later. opens_costs true c row.transport row.remote (comes true c s) later)
    go false = costs_aside 0 s (quietly (comes_in_vain s)) range refl refl (omega arith)

pub enters_costs : (c port : ℕ) (s : State) → InRange s → Costs 0 0 s (enters c port s)
enters_costs c port s range = enters_by_costs c (at port s.forwards) s range

bound_for_costs : (o : Option Want) (c port : ℕ) (s : State) → InRange s → Costs 0 0 s (bound_for o c port s)
bound_for_costs None c port s range = costs_quiet s range
bound_for_costs (Some want) c port s range = costs_aside 0 s (bound_for (Some want) c port s) range refl refl (omega arith)

bound_in_costs : (phase : Phase) (o : Option Want) (c port : ℕ) (s : State) → InRange s → Costs 0 0 s (bound_in phase o c port s)
bound_in_costs Binding o c port s range = bound_for_costs o c port s range
bound_in_costs _ o c port s range = costs_quiet s range

bound_at_costs : (o : Option Client) (c port : ℕ) (s : State) → InRange s → Costs 0 0 s (bound_at o c port s)
bound_at_costs None c port s range = costs_quiet s range
bound_at_costs (Some client) c port s range = bound_in_costs client.about.phase client.about.want c port s range

pub bound_costs : (c port : ℕ) (s : State) → InRange s → Costs 0 0 s (bound c port s)
bound_costs c port s range = bound_at_costs (s.clients c) c port s range

-- ---- a device is plugged in
pub plugs_costs : (t : ℕ) (kind : Kind) (serial : List ℕ) (s : State) → InRange s → Costs 58 0 s (plugs_in t kind serial s)
plugs_costs t kind serial s range =
    let size : toll server_cnxn.command server_cnxn.payload ≡ 58 = refl in
    costs_aside 58 s (plugs_in t kind serial s) range refl refl (omega (arith, size))

-- ---- bytes are put to a client: an OKAY at most
tells_credit_costs : (n l : ℕ) (stream : Stream) (s : State) → InRange s → Costs 28 0 s (tells_credit n l stream s)
tells_credit_costs zero l stream s range = costs_within 0 28 0 0 s (quietly s) (omega arith) (costs_quiet s range)
tells_credit_costs (suc n) l stream s range =
    let size : length (little_bytes 4 (suc n)) ≡ 4 = refl in
    costs_aside 28 s (tells_credit (suc n) l stream s) range refl refl (omega (arith, size))

tells_handed_costs : (flow : Flow) (left l : ℕ) (stream : Stream) (s : State) → InRange s → Costs 28 0 s (tells_handed flow left l stream s)
tells_handed_costs (One window) zero l stream s range =
    costs_aside 28 s (tells_handed (One window) zero l stream s) range refl refl (omega arith)
tells_handed_costs (One window) (suc left) l stream s range = costs_within 0 28 0 0 s (quietly s) (omega arith) (costs_quiet s range)
tells_handed_costs (Credit credit) left l stream s range = tells_credit_costs (credit_back left credit) l stream s range

stream_hands_costs : (left l : ℕ) (stream : Stream) (s : State) → InRange s → Costs 28 0 s (stream_hands left l stream s)
stream_hands_costs left l stream s range = go (nat_eq left (to_hand stream.part.flow))
  where
    later : State
    later = to_stream l (with_stream_part (with_flow (handed_to left stream.part.flow) stream.part)) s

    go : (b : Bool) → Costs 28 0 s (cond b (quietly s) (tells_handed stream.part.flow left l stream
        (to_stream l (with_stream_part (with_flow (handed_to left stream.part.flow) stream.part)) s)))
    go true = costs_within 0 28 0 0 s (quietly s) (omega arith) (costs_quiet s range)
    go false =
        costs_after 28 0 0 s later (tells_handed stream.part.flow left l stream later)
        (quiets_row s range l (with_stream_part (with_flow (handed_to left stream.part.flow) stream.part)))
        (λ now. tells_handed_costs stream.part.flow left l stream later now)

stream_left_costs : (due l : ℕ) (o : Option Stream) (s : State) → InRange s → Costs 28 0 s (stream_left due l o s)
stream_left_costs due l None s range = costs_within 0 28 0 0 s (quietly s) (omega arith) (costs_quiet s range)
stream_left_costs due l (Some stream) s range = stream_hands_costs (min (to_hand stream.part.flow) due) l stream s range

client_left_costs : (phase : Phase) (due : ℕ) (s : State) → InRange s → Costs 28 0 s (client_left phase due s)
client_left_costs (Streaming l) due s range = stream_left_costs due l (s.streams l) s range
client_left_costs _ due s range = costs_within 0 28 0 0 s (quietly s) (omega arith) (costs_quiet s range)

takes_of_costs : (c n : ℕ) (o : Option Client) (s : State) → InRange s → Costs 28 0 s (takes_of c n o s)
takes_of_costs c n None s range = costs_within 0 28 0 0 s (quietly s) (omega arith) (costs_quiet s range)
takes_of_costs c n (Some client) s range =
    let later : State = to_client c (hands n) s in
    costs_after 28 0 0 s later (takes_of c n (Some client) s) (record { range = range; cost = omega arith })
    (λ now. client_left_costs client.about.phase (length (drop n client.due)) later now)

lists_first_costs : (c : ℕ) (due : List ℕ) (client : Client) (s : State) → InRange s → Costs 0 0 s (lists_first c due client s)
lists_first_costs c [] client s range = costs_aside 0 s (lists_first c [] client s) range refl refl (omega arith)
lists_first_costs c (b ∷ due) client s range = costs_quiet s range

puts_to_costs : (o : Option Client) (c n : ℕ) (s : State) → InRange s → Costs 28 0 s (puts_to o c n s)
puts_to_costs None c n s range = costs_within 0 28 0 0 s (quietly s) (omega arith) (costs_quiet s range)
puts_to_costs (Some client) c n s range =
    costs_then 0 28 0 0 s (lists_first c client.due client s) (λ (x : State). takes_of c n (x.clients c) x)
    (lists_first_costs c client.due client s range)
    (λ later. takes_of_costs c n ((lists_first c client.due client s).state.clients c) (lists_first c client.due client s).state later)

pub puts_costs : (c n : ℕ) (s : State) → InRange s → Costs 28 0 s (puts c n s)
puts_costs c n s range = puts_to_costs (s.clients c) c n s range
