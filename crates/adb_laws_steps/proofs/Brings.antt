-- Packets of a device that cost no answer out of turn.
use Rattle.std.specs.Prelude.{ℕ, ◌==◌, ◌≡◌, ◌≢◌, Bool, true, false, cond, ◌||◌, not, nat_eq, nat_lt, All, List, [], ◌∷◌, length, codes}
use Rattle.std.specs.Prelude.{Option, Some, None}
use Rattle.std.proofs.Common.{refl, arith}
use Rattle.std.proofs.lemmas.List.Elements.{All-head, All-tail}
use Rattle.adb_outside.specs.Tables.{at}
use Rattle.adb_outside.specs.Framing.{Cut}
use Rattle.adb_outside.specs.declared.identity.Identity.{Identity}
use Rattle.adb_outside.specs.declared.identity.State.{State as DeviceState}
use Rattle.adb_outside.specs.declared.identity.State.TheVariants.{Offline}
use Rattle.adb_banner.specs.Banner.{identity_of}
use Rattle.adb_registry.specs.declared.row.Row.{Row}
use Rattle.adb_wire.specs.declared.command.Command.{Command}
use Rattle.adb_wire.specs.declared.command.Command.TheVariants.{Cnxn, Open, Okay, Wrte, Clse, Auth, Stls}
use Rattle.adb_wire.specs.declared.packets.Packet.{Packet}
use Rattle.adb_wire.specs.declared.format.PacketFault.{PacketFault}
use Rattle.adb_wire.specs.declared.format.PacketFormat.{PacketFormat}
use Rattle.adb_stream.specs.Flow.{first_credit, acknowledged, is_out_of_turn, accepted}
use Rattle.adb_stream.specs.declared.row.Stream.{Stream}
use Rattle.adb_client.specs.declared.phase.Phase.TheVariants.{Streaming}
use Rattle.adb_history.specs.Rows.{Client, Link, State, to_client, to_link, to_stream, none_kept, in_phase, with_stream_part}
use Rattle.adb_history.specs.Events.{Made, quietly}
use Rattle.adb_history.specs.declared.ending.Ending.TheVariants.{PeerClosed, OutOfTurn, Lost, Broken}
use Rattle.adb_history.specs.Links.{close_packet, credit_word, is_connected}
use Rattle.adb_history.specs.Clients.{owe_client}
use Rattle.adb_history.specs.Streams.{ends_row, ends_telling}
use Rattle.adb_history.specs.Flow.{with_flow}
use Rattle.adb_history.specs.Losing.{link_ends}
use Rattle.adb_history.specs.Packets.{least_version, least_maxdata, goes_online, streams_end_first, connects, cnxn, unauthorized_from}
use Rattle.adb_history.specs.Packets.{unauthorized, at_stream}
use Rattle.adb_history.specs.Packets.{with_remote, hears_okay, opened, orphan_opened, okay_open, okay_first, takes_okay, accepts}
use Rattle.adb_history.specs.Packets.{takes_write, takes_close}
use Rattle.adb_history.specs.Packets.{treat_open, treat_any, treat_on, treat, treat_all, faulty_on, faulty, with_rest, receives_cut}
use Rattle.adb_laws_steps.specs.Tolls.{IsWorth, IsWorthwhile}
use Rattle.adb_laws_steps.proofs.Costs.{InRange, Costs, costs_quiet, costs_aside, costs_then, costs_after, costs_within, quiets_row}
use Rattle.adb_laws_steps.proofs.Costs.{quiets_gone, costs_owe}
use Rattle.adb_laws_steps.proofs.Ends.{ends_row_costs, ends_telling_costs, all_end_costs, link_ends_costs}

-- ---- CNXN, AUTH and STLS
end_first_costs : (before : Bool) (t : ℕ) (s : State) → InRange s → Costs 0 0 s (streams_end_first before t s)
end_first_costs false t s range = costs_quiet s range
end_first_costs true t s range = all_end_costs t Lost s range

connects_costs : (t version maxdata : ℕ) (o : Option Identity) (s : State) → InRange s → Costs 0 0 s (connects t version maxdata o s)
connects_costs t version maxdata None s range = link_ends_costs t Broken s range
connects_costs t version maxdata (Some identity) s range =
    costs_then 0 0 0 0 s (streams_end_first (is_connected t s.devices) t s)
    (λ (x : State). quietly (goes_online t version maxdata identity x))
    (end_first_costs (is_connected t s.devices) t s range)
    (λ later. let x : State = (streams_end_first (is_connected t s.devices) t s).state in
    costs_aside 0 x (quietly (goes_online t version maxdata identity x)) later refl refl (omega arith))

cnxn_costs : (t version maxdata : ℕ) (banner : List ℕ) (s : State) → InRange s → Costs 0 0 s (cnxn t version maxdata banner s)
cnxn_costs t version maxdata banner s range = go (nat_lt version least_version || nat_lt maxdata least_maxdata)
  where
    go : (b : Bool) → Costs 0 0 s (cond b (link_ends t Broken s) (connects t version maxdata (identity_of banner) s))
    go true = link_ends_costs t Broken s range
    go false = connects_costs t version maxdata (identity_of banner) s range

unauthorized_from_costs : (t : ℕ) (state : DeviceState) (s : State) → InRange s → Costs 0 0 s (quietly (unauthorized_from t state s))
unauthorized_from_costs t Offline s range = costs_aside 0 s (quietly (unauthorized_from t Offline s)) range refl refl (omega arith)
unauthorized_from_costs t _ s range = costs_quiet s range

unauthorized_costs : (t : ℕ) (o : Option Row) (s : State) → InRange s → Costs 0 0 s (unauthorized t o s)
unauthorized_costs t None s range = costs_quiet s range
unauthorized_costs t (Some row) s range = unauthorized_from_costs t row.state s range

-- ---- OKAY
opened_costs : (l remote : ℕ) (word : Option ℕ) (stream : Stream) (s : State) → InRange s → Costs 0 0 s (opened l remote word stream s)
opened_costs l remote word stream s range =
    costs_then 0 0 0 0 s (hears_okay (s.clients stream.client) stream.client s)
    (λ (x : State). quietly (to_client stream.client (in_phase (Streaming l))
    (to_stream l (with_stream_part (with_remote remote (with_flow (first_credit word stream.part.flow) stream.part))) x)))
    (hears (s.clients stream.client))
    (λ later. opens (hears_okay (s.clients stream.client) stream.client s).state later)
  where
    hears : (o : Option Client) → Costs 0 0 s (hears_okay o stream.client s)
    hears None = costs_quiet s range
    hears (Some client) = go client.about.forwarded
      where
        go : (b : Bool) → Costs 0 0 s (cond b (quietly s) (owe_client stream.client (codes "OKAY") s))
        go true = costs_quiet s range
        go false = costs_aside 0 s (owe_client stream.client (codes "OKAY") s) range refl refl (omega arith)

    opens : (x : State) → InRange x → Costs 0 0 x (quietly (to_client stream.client (in_phase (Streaming l))
        (to_stream l (with_stream_part (with_remote remote (with_flow (first_credit word stream.part.flow) stream.part))) x)))
    opens x later =
        let row = quiets_row x later l
        (with_stream_part (with_remote remote (with_flow (first_credit word stream.part.flow) stream.part))) in
        let cost = row.cost in
        record { range = row.range; cost = omega (arith, cost) }

okay_first_costs : (orphan : Bool) (l remote : ℕ) (word : Option ℕ) (stream : Stream) (s : State) → InRange s → s.streams l ≡ Some stream
    → Costs 0 0 s (okay_first orphan l remote word stream s)
okay_first_costs true l remote word stream s range is =
    costs_within 24 0 24 0 s (orphan_opened l remote stream s) (omega arith)
    (costs_after 24 24 0 s (to_stream l none_kept s) (orphan_opened l remote stream s) (quiets_gone s range l stream is)
    (λ later. costs_owe (to_stream l none_kept s) later stream.link (close_packet l remote)))
okay_first_costs false l remote word stream s range is = opened_costs l remote word stream s range

okay_open_costs : (l : ℕ) (word : Option ℕ) (stream : Stream) (s : State) → InRange s → Costs 0 0 s (okay_open l word stream s)
okay_open_costs l word stream s range =
    let row = quiets_row s range l (with_stream_part (with_flow (acknowledged word stream.part.flow) stream.part)) in
    let cost = row.cost in
    record { range = row.range; cost = omega (arith, cost) }

takes_okay_costs : (l remote : ℕ) (word : Option ℕ) (stream : Stream) (s : State) → InRange s → s.streams l ≡ Some stream
    → Costs 0 0 s (takes_okay l remote word stream s)
takes_okay_costs l remote word stream s range is = go (remote == 0) (stream.part.remote == 0) (remote == stream.part.remote)
  where
    go : (a b c : Bool) → Costs 0 0 s (cond a (quietly s) (cond b (okay_first stream.part.orphan l remote word stream s)
        (cond c (okay_open l word stream s) (quietly s))))
    go true b c = costs_quiet s range
    go false true c = okay_first_costs stream.part.orphan l remote word stream s range is
    go false false true = okay_open_costs l word stream s range
    go false false false = costs_quiet s range

-- ---- WRTE and CLSE
accepts_costs : (l : ℕ) (payload : List ℕ) (stream : Stream) (s : State) → InRange s → payload ≢ []
    → Costs 0 0 s (accepts l payload stream s)
accepts_costs l [] stream s range some = absurd (some refl)
accepts_costs l (b ∷ payload) stream s range some =
    let later : State = to_stream l (with_stream_part (with_flow (accepted (length (b ∷ payload)) stream.part.flow) stream.part)) s in
    costs_after 0 0 0 s later (accepts l (b ∷ payload) stream s)
    (quiets_row s range l (with_stream_part (with_flow (accepted (length (b ∷ payload)) stream.part.flow) stream.part)))
    (λ now. costs_aside 0 later (owe_client stream.client (b ∷ payload) later) now refl refl (omega arith))

takes_write_costs : (l remote : ℕ) (payload : List ℕ) (stream : Stream) (s : State) → InRange s → s.streams l ≡ Some stream → payload ≢ []
    → Costs 0 0 s (takes_write l remote payload stream s)
takes_write_costs l remote payload stream s range is some =
    go (remote == 0 || not (remote == stream.part.remote)) (is_out_of_turn stream.part.flow (length payload))
  where
    go : (a b : Bool) → Costs 0 0 s (cond a (quietly s) (cond b (ends_telling l OutOfTurn stream s) (accepts l payload stream s)))
    go true b = costs_quiet s range
    go false true = ends_telling_costs l OutOfTurn stream s range is
    go false false = accepts_costs l payload stream s range some

takes_close_costs : (l remote : ℕ) (stream : Stream) (s : State) → InRange s → s.streams l ≡ Some stream
    → Costs 0 0 s (takes_close l remote stream s)
takes_close_costs l remote stream s range is = go (remote == 0 || remote == stream.part.remote)
  where
    go : (b : Bool) → Costs 0 0 s (cond b (ends_row l PeerClosed stream s) (quietly s))
    go true = costs_within 0 0 24 0 s (ends_row l PeerClosed stream s) (omega arith) (ends_row_costs l PeerClosed stream s range is)
    go false = costs_quiet s range

at_stream_costs : (t l : ℕ) (o : Option Stream) (rule : Stream → State → Made) (s : State) → InRange s
    → ((stream : Stream) → o ≡ Some stream → Costs 0 0 s (rule stream s)) → Costs 0 0 s (at_stream t o rule s)
at_stream_costs t l None rule s range by = costs_quiet s range
at_stream_costs t l (Some stream) rule s range by = go (nat_eq stream.link t)
  where
    go : (b : Bool) → Costs 0 0 s (cond b (rule stream s) (quietly s))
    go true = by stream refl
    go false = costs_quiet s range

-- ---- one packet
treat_open_costs : (t : ℕ) (command : Command) (p : Packet) (s : State) → InRange s → IsWorth command p.payload
    → Costs 0 0 s (treat_open t command p s)
treat_open_costs t Open p s range worth = absurd worth
treat_open_costs t Okay p s range worth =
    at_stream_costs t p.arg1 (s.streams p.arg1) (takes_okay p.arg1 p.arg0 (credit_word p.payload)) s range
    (λ stream is. takes_okay_costs p.arg1 p.arg0 (credit_word p.payload) stream s range is)
treat_open_costs t Wrte p s range worth =
    at_stream_costs t p.arg1 (s.streams p.arg1) (takes_write p.arg1 p.arg0 p.payload) s range
    (λ stream is. takes_write_costs p.arg1 p.arg0 p.payload stream s range is worth)
treat_open_costs t Clse p s range worth =
    at_stream_costs t p.arg1 (s.streams p.arg1) (takes_close p.arg1 p.arg0) s range
    (λ stream is. takes_close_costs p.arg1 p.arg0 stream s range is)
treat_open_costs t _ p s range worth = costs_quiet s range

treat_any_costs : (t : ℕ) (command : Command) (p : Packet) (s : State) → InRange s → IsWorth command p.payload
    → Costs 0 0 s (treat_any t command p s)
treat_any_costs t Cnxn p s range worth = cnxn_costs t p.arg0 p.arg1 p.payload s range
treat_any_costs t Auth p s range worth = unauthorized_costs t (at t s.devices.rows) s range
treat_any_costs t Stls p s range worth = unauthorized_costs t (at t s.devices.rows) s range
treat_any_costs t Open p s range worth = absurd worth
treat_any_costs t Okay p s range worth = go (is_connected t s.devices)
  where
    go : (b : Bool) → Costs 0 0 s (cond b (treat_open t Okay p s) (quietly s))
    go true = treat_open_costs t Okay p s range worth
    go false = costs_quiet s range
treat_any_costs t Wrte p s range worth = go (is_connected t s.devices)
  where
    go : (b : Bool) → Costs 0 0 s (cond b (treat_open t Wrte p s) (quietly s))
    go true = treat_open_costs t Wrte p s range worth
    go false = costs_quiet s range
treat_any_costs t Clse p s range worth = go (is_connected t s.devices)
  where
    go : (b : Bool) → Costs 0 0 s (cond b (treat_open t Clse p s) (quietly s))
    go true = treat_open_costs t Clse p s range worth
    go false = costs_quiet s range

treat_on_costs : (o : Option Link) (t : ℕ) (p : Packet) (s : State) → InRange s → IsWorthwhile p → Costs 0 0 s (treat_on o t p s)
treat_on_costs None t p s range worth = costs_quiet s range
treat_on_costs (Some link) t p s range worth = treat_any_costs t p.command p s range worth

treat_all_costs : (t : ℕ) (ps : List Packet) (s : State) → InRange s → All IsWorthwhile ps → Costs 0 0 s (treat_all t ps s)
treat_all_costs t [] s range worth = costs_quiet s range
treat_all_costs t (p ∷ ps) s range worth =
    costs_then 0 0 0 0 s (treat t p s) (treat_all t ps) (treat_on_costs (s.links t) t p s range (All-head IsWorthwhile p ps worth))
    (λ later. treat_all_costs t ps (treat t p s).state later (All-tail IsWorthwhile p ps worth))

-- ---- a piece of a link
faulty_costs : (o : Option Link) (t : ℕ) (fault : Option PacketFault) (s : State) → InRange s → Costs 0 0 s (faulty_on o t fault s)
faulty_costs None t fault s range = costs_quiet s range
faulty_costs (Some link) t None s range = costs_quiet s range
faulty_costs (Some link) t (Some fault) s range = link_ends_costs t Broken s range

pub cut_costs : (t : ℕ) (c : Cut PacketFormat Packet PacketFault) (s : State) → InRange s → All IsWorthwhile c.given
    → Costs 0 0 s (receives_cut t c s)
cut_costs t c s range worth =
    costs_then 0 0 0 0 s (treat_all t c.given (to_link t (with_rest c.rest) s)) (faulty t c.fault)
    (costs_after 0 0 0 s (to_link t (with_rest c.rest) s) (treat_all t c.given (to_link t (with_rest c.rest) s))
    (record { range = range; cost = omega arith }) (λ later. treat_all_costs t c.given (to_link t (with_rest c.rest) s) later worth))
    (λ later. let x : State = (treat_all t c.given (to_link t (with_rest c.rest) s)).state in faulty_costs (x.links t) t c.fault x later)
