-- What devices bring, what goes up and what is handed out leaves every text of bytes.
use Rattle.std.proofs.Common.{ℕ, ◌-◌, Bool, true, false, cond, List, [], ◌∷◌, ◌++◌, length, take, drop, zero, suc, refl, eqb}
use Rattle.std.specs.Prelude.{Option, Some, None, codes, not, ◌==◌, ◌||◌, nat_lt, Result, Ok, Err}
use Rattle.adb_outside.specs.Bytes.{AreBytes}
use Rattle.adb_outside.specs.Tables.{at}
use Rattle.adb_outside.specs.Framing.{Cut, cut_by, cut_at}
use Rattle.adb_outside.specs.declared.framer.Front.{Front}
use Rattle.adb_outside.specs.declared.framer.Front.TheVariants.{More, Bad, Whole}
use Rattle.adb_outside.specs.declared.identity.Identity.{Identity}
use Rattle.adb_outside.specs.declared.identity.State.{State as DeviceState}
use Rattle.adb_outside.specs.declared.identity.State.TheVariants.{Offline}
use Rattle.adb_banner.specs.Banner.{identity_of}
use Rattle.adb_registry.specs.declared.row.Row.{Row}
use Rattle.adb_wire.specs.declared.command.Command.{Command}
use Rattle.adb_wire.specs.declared.command.Command.TheVariants.{Cnxn, Open, Okay, Wrte, Clse, Auth, Stls}
use Rattle.adb_wire.specs.declared.headers.Head.{Head}
use Rattle.adb_wire.specs.declared.headers.HeadFault.{HeadFault}
use Rattle.adb_wire.specs.declared.headers.TheConstants.{HEADER_LEN}
use Rattle.adb_wire.specs.declared.packets.Packet.{Packet}
use Rattle.adb_wire.specs.declared.format.PacketFault.{PacketFault}
use Rattle.adb_wire.specs.declared.format.PacketFormat.{PacketFormat}
use Rattle.adb_wire.specs.Format.{front_of, packet_of, packet_with, format_after, has_sums}
use Rattle.adb_wire.specs.Header.{head_at}
use Rattle.adb_wire.specs.Cutting.{cut_packets}
use Rattle.adb_client.specs.declared.phase.Phase.TheVariants.{Streaming}
use Rattle.adb_stream.specs.Flow.{is_out_of_turn}
use Rattle.adb_stream.specs.declared.flow.Flow.{Flow}
use Rattle.adb_stream.specs.declared.flow.Flow.TheVariants.{One, Credit}
use Rattle.adb_stream.specs.declared.row.Stream.{Stream}
use Rattle.adb_history.specs.Rows.{Client, Link, State, to_link, to_stream, none_kept}
use Rattle.adb_history.specs.Events.{Made, then_also, quietly}
use Rattle.adb_history.specs.declared.ending.Ending.TheVariants.{Lost, Broken, ClientClosed, OutOfTurn, PeerClosed}
use Rattle.adb_history.specs.Links.{close_packet, okay_packet, write_packet, owe_link, is_connected, credit_word, maxdata_of}
use Rattle.adb_history.specs.Clients.{owe_client}
use Rattle.adb_history.specs.Streams.{ends_row, ends_telling, all_end}
use Rattle.adb_history.specs.Flow as flows
use Rattle.adb_history.specs.Losing.{link_ends}
use Rattle.adb_history.specs.Packets as packets
use Rattle.adb_load.proofs.Records.{literal_bytes}
use Rattle.adb_load.proofs.Records.{joined_bytes as both_bytes}
use Rattle.adb_laws_loads.proofs.Texts.{no_bytes, front_bytes, back_bytes, ClientTexts}
use Rattle.adb_laws_loads.proofs.Texts.{LinkTexts, Texts, link_texts, owe_texts, due_texts, held_texts, phase_texts}
use Rattle.adb_laws_loads.proofs.Texts.{ends_row_texts, ends_telling_texts, all_end_texts, mark_all_texts, link_ends_texts}

-- ---- what goes up
abbrev EachOfBytes : List (List ℕ) → Type 0
EachOfBytes [] = Unit {0}
EachOfBytes (payload ∷ payloads) = AreBytes payload × EachOfBytes payloads

before_bytes : (n : ℕ) (held : List ℕ) (others : List (List ℕ)) → AreBytes held → EachOfBytes others
    → EachOfBytes (flows.write_before n held others)
before_bytes zero held others are each = tt
before_bytes (suc n) held others are each = (front_bytes (suc n) held are, each)

writes_bytes : (k maxdata credit : ℕ) (held : List ℕ) → AreBytes held → EachOfBytes (flows.writes k maxdata credit held)
writes_bytes zero maxdata credit held are = tt
writes_bytes (suc k) maxdata credit held are =
    let n : ℕ = flows.write_len maxdata credit held in
    before_bytes n held (flows.writes k maxdata (credit - n) (drop n held)) are
    (writes_bytes k maxdata (credit - n) (drop n held) (back_bytes n held are))

payloads_bytes : (flow : Flow) (maxdata : ℕ) (held : List ℕ) → AreBytes held → EachOfBytes (flows.payloads flow maxdata held)
payloads_bytes (One window) maxdata held are = go window.outstanding
  where
    go : (waits : Bool) → EachOfBytes (cond waits [] (flows.writes 1 maxdata maxdata held))
    go true = tt
    go false = writes_bytes 1 maxdata maxdata held are
payloads_bytes (Credit credit) maxdata held are = writes_bytes (length held) maxdata credit.to_send held are

all_up_texts : (l : ℕ) (stream : Stream) (payloads : List (List ℕ)) (s : State) → EachOfBytes payloads → Texts s
    → Texts (flows.all_go_up l stream payloads s).state
all_up_texts l stream [] s each h = h
all_up_texts l stream (payload ∷ payloads) s each h = all_up_texts l stream payloads (flows.goes_up l stream payload s).state each.1
    (owe_texts stream.link (write_packet l stream.part.remote payload) s each.0 h)

closes_if_texts : (over : Bool) (l : ℕ) (row : Option Stream) (s : State) → Texts s → Texts (flows.closes_if over l row s).state
closes_if_texts over l None s h = h
closes_if_texts false l (Some stream) s h = h
closes_if_texts true l (Some stream) s h = ends_telling_texts l ClientClosed stream s h

sends_up_texts : (l : ℕ) (stream : Stream) (client : Client) (payloads : List (List ℕ)) (s : State)
    → AreBytes client.held → EachOfBytes payloads
    → Texts s → Texts (flows.sends_up l stream client payloads s).state
sends_up_texts l stream client payloads s held each h =
    closes_if_texts over l (up.streams l) up (all_up_texts l stream payloads noted each
    (held_texts stream.client (drop (flows.total payloads) client.held) s (back_bytes (flows.total payloads) client.held held) h))
  where
    noted : State
    noted = flows.noted l stream client.held payloads s

    over : Bool
    over = flows.is_over client.about.ended (drop (flows.total payloads) client.held) (flows.flow_after payloads stream.part.flow)

    up : State
    up = (flows.all_go_up l stream payloads noted).state

up_client_texts : (l : ℕ) (stream : Stream) (row : Option Client) (s : State) → ClientTexts row → Texts s
    → Texts (flows.up_client l stream row s).state
up_client_texts l stream None s row h = h
up_client_texts l stream (Some client) s row h = go (flows.is_streaming l client.about.phase)
  where
    payloads : List (List ℕ)
    payloads = flows.payloads stream.part.flow (maxdata_of stream.link s.devices) client.held

    go : (streams : Bool) → Texts (cond streams (flows.sends_up l stream client payloads s) (quietly s)).state
    go true = sends_up_texts l stream client payloads s row.held (payloads_bytes stream.part.flow _ client.held row.held) h
    go false = h

up_texts : (l : ℕ) (row : Option Stream) (s : State) → Texts s → Texts (flows.up_stream l row s).state
up_texts l None s h = h
up_texts l (Some stream) s h = up_client_texts l stream (s.clients stream.client) s (h.clients stream.client) h

pub ups_texts : (k : ℕ) (s : State) → Texts s → Texts (flows.up_all k s).state
ups_texts zero s h = h
ups_texts (suc k) s h = let before : State = (flows.up_all k s).state in up_texts (suc k) (before.streams (suc k)) before (ups_texts k s h)

-- ---- packets
abbrev EachPayload : List Packet → Type 0
EachPayload [] = Unit {0}
EachPayload (p ∷ packets) = AreBytes p.payload × EachPayload packets

online_texts : (t version maxdata : ℕ) (identity : Identity) (s : State) → Texts s
    → Texts (packets.goes_online t version maxdata identity s)
online_texts t version maxdata identity s h =
    mark_all_texts (to_link t (packets.with_sums (has_sums version)) s)
    (link_texts t (packets.with_sums (has_sums version)) s (λ x texts. record { rest = texts.rest; due = texts.due }) h)

connects_texts : (t version maxdata : ℕ) (identity : Option Identity) (s : State) → Texts s
    → Texts (packets.connects t version maxdata identity s).state
connects_texts t version maxdata None s h = link_ends_texts t Broken s h
connects_texts t version maxdata (Some identity) s h = go (is_connected t s.devices)
  where
    go : (connected : Bool) → Texts (then_also (packets.streams_end_first connected t s)
        (λ s. quietly (packets.goes_online t version maxdata identity s))).state
    go true = online_texts t version maxdata identity (all_end t Lost s).state (all_end_texts t Lost s h)
    go false = online_texts t version maxdata identity s h

cnxn_texts : (t version maxdata : ℕ) (banner : List ℕ) (s : State) → Texts s → Texts (packets.cnxn t version maxdata banner s).state
cnxn_texts t version maxdata banner s h = go (nat_lt version packets.least_version || nat_lt maxdata packets.least_maxdata)
  where
    go : (refused : Bool) → Texts (cond refused (link_ends t Broken s) (packets.connects t version maxdata (identity_of banner) s)).state
    go true = link_ends_texts t Broken s h
    go false = connects_texts t version maxdata (identity_of banner) s h

unauthorized_texts : (t : ℕ) (row : Option Row) (s : State) → Texts s → Texts (packets.unauthorized t row s).state
unauthorized_texts t None s h = h
unauthorized_texts t (Some row) s h = go row.state
  where
    go : (state : DeviceState) → Texts (packets.unauthorized_from t state s)
    go Offline = mark_all_texts s h
    go _ = h

refuses_texts : (t id : ℕ) (s : State) → Texts s → Texts (packets.refuses_open t id s).state
refuses_texts t id s h = go (id == 0)
  where
    go : (none : Bool) → Texts (cond none (quietly s) (owe_link t (close_packet 0 id) s)).state
    go true = h
    go false = owe_texts t (close_packet 0 id) s no_bytes h

hears_texts : (row : Option Client) (c : ℕ) (s : State) → Texts s → Texts (packets.hears_okay row c s).state
hears_texts None c s h = h
hears_texts (Some client) c s h = go client.about.forwarded
  where
    go : (forwarded : Bool) → Texts (cond forwarded (quietly s) (owe_client c (codes "OKAY") s)).state
    go true = h
    go false = due_texts c (codes "OKAY") s (literal_bytes (codes "OKAY") refl) h

first_texts : (orphan : Bool) (l remote : ℕ) (word : Option ℕ) (stream : Stream) (s : State) → Texts s
    → Texts (packets.okay_first orphan l remote word stream s).state
first_texts true l remote word stream s h = owe_texts stream.link (close_packet l remote) (to_stream l none_kept s) no_bytes h
first_texts false l remote word stream s h = phase_texts stream.client (Streaming l)
    (packets.hears_okay (s.clients stream.client) stream.client s).state tt
    (hears_texts (s.clients stream.client) stream.client s h)

okay_texts : (l remote : ℕ) (word : Option ℕ) (stream : Stream) (s : State) → Texts s
    → Texts (packets.takes_okay l remote word stream s).state
okay_texts l remote word stream s h = go (remote == 0) (stream.part.remote == 0) (remote == stream.part.remote)
  where
    go : (none unopened own : Bool)
        → Texts (cond none (quietly s) (cond unopened (packets.okay_first stream.part.orphan l remote word stream s)
        (cond own (packets.okay_open l word stream s) (quietly s)))).state
    go true unopened own = h
    go false true own = first_texts stream.part.orphan l remote word stream s h
    go false false true = h
    go false false false = h

none_texts : (flow : Flow) (l : ℕ) (stream : Stream) (s : State) → Texts s → Texts (packets.accepts_none flow l stream s).state
none_texts (One window) l stream s h = owe_texts stream.link (okay_packet l stream.part.remote) s no_bytes h
none_texts (Credit credit) l stream s h = h

accepts_texts : (l : ℕ) (payload : List ℕ) (stream : Stream) (s : State) → AreBytes payload → Texts s
    → Texts (packets.accepts l payload stream s).state
accepts_texts l [] stream s are h = none_texts stream.part.flow l stream s h
accepts_texts l (b ∷ payload) stream s are h = due_texts stream.client (b ∷ payload) s are h

write_texts : (l remote : ℕ) (payload : List ℕ) (stream : Stream) (s : State) → AreBytes payload → Texts s
    → Texts (packets.takes_write l remote payload stream s).state
write_texts l remote payload stream s are h =
    go (remote == 0 || not (remote == stream.part.remote)) (is_out_of_turn stream.part.flow (length payload))
  where
    go : (strange early : Bool) → Texts (cond strange (quietly s) (cond early (ends_telling l OutOfTurn stream s)
        (packets.accepts l payload stream s))).state
    go true early = h
    go false true = ends_telling_texts l OutOfTurn stream s h
    go false false = accepts_texts l payload stream s are h

close_texts : (l remote : ℕ) (stream : Stream) (s : State) → Texts s → Texts (packets.takes_close l remote stream s).state
close_texts l remote stream s h = go (remote == 0 || remote == stream.part.remote)
  where
    go : (own : Bool) → Texts (cond own (ends_row l PeerClosed stream s) (quietly s)).state
    go true = ends_row_texts l PeerClosed stream s h
    go false = h

at_stream_texts : (t : ℕ) (row : Option Stream) (rule : Stream → State → Made) (s : State)
    → ((stream : Stream) → Texts (rule stream s).state) → Texts s
    → Texts (packets.at_stream t row rule s).state
at_stream_texts t None rule s keeps h = h
at_stream_texts t (Some stream) rule s keeps h = go (eqb stream.link t)
  where
    go : (own : Bool) → Texts (cond own (rule stream s) (quietly s)).state
    go true = keeps stream
    go false = h

open_texts : (t : ℕ) (command : Command) (p : Packet) (s : State) → AreBytes p.payload → Texts s
    → Texts (packets.treat_open t command p s).state
open_texts t Open p s are h = refuses_texts t p.arg0 s h
open_texts t Okay p s are h = at_stream_texts t (s.streams p.arg1) (packets.takes_okay p.arg1 p.arg0 (credit_word p.payload)) s
    (λ stream. okay_texts p.arg1 p.arg0 (credit_word p.payload) stream s h) h
open_texts t Wrte p s are h = at_stream_texts t (s.streams p.arg1) (packets.takes_write p.arg1 p.arg0 p.payload) s
    (λ stream. write_texts p.arg1 p.arg0 p.payload stream s are h) h
open_texts t Clse p s are h = at_stream_texts t (s.streams p.arg1) (packets.takes_close p.arg1 p.arg0) s
    (λ stream. close_texts p.arg1 p.arg0 stream s h) h
open_texts t _ p s are h = h

known_texts : (connected : Bool) (t : ℕ) (command : Command) (p : Packet) (s : State) → AreBytes p.payload → Texts s
    → Texts (cond connected (packets.treat_open t command p s) (quietly s)).state
known_texts true t command p s are h = open_texts t command p s are h
known_texts false t command p s are h = h

any_texts : (t : ℕ) (command : Command) (p : Packet) (s : State) → AreBytes p.payload → Texts s
    → Texts (packets.treat_any t command p s).state
any_texts t Cnxn p s are h = cnxn_texts t p.arg0 p.arg1 p.payload s h
any_texts t Auth p s are h = unauthorized_texts t (at t s.devices.rows) s h
any_texts t Stls p s are h = unauthorized_texts t (at t s.devices.rows) s h
any_texts t Open p s are h = known_texts (is_connected t s.devices) t Open p s are h
any_texts t Okay p s are h = known_texts (is_connected t s.devices) t Okay p s are h
any_texts t Wrte p s are h = known_texts (is_connected t s.devices) t Wrte p s are h
any_texts t Clse p s are h = known_texts (is_connected t s.devices) t Clse p s are h

treat_texts : (row : Option Link) (t : ℕ) (p : Packet) (s : State) → AreBytes p.payload → Texts s → Texts (packets.treat_on row t p s).state
treat_texts None t p s are h = h
treat_texts (Some link) t p s are h = any_texts t p.command p s are h

all_texts : (t : ℕ) (ps : List Packet) (s : State) → EachPayload ps → Texts s → Texts (packets.treat_all t ps s).state
all_texts t [] s each h = h
all_texts t (p ∷ ps) s each h = all_texts t ps (packets.treat t p s).state each.1 (treat_texts (s.links t) t p s each.0 h)

faulty_texts : (row : Option Link) (t : ℕ) (fault : Option PacketFault) (s : State) → Texts s
    → Texts (packets.faulty_on row t fault s).state
faulty_texts None t fault s h = h
faulty_texts (Some link) t None s h = h
faulty_texts (Some link) t (Some fault) s h = link_ends_texts t Broken s h

-- ---- bytes of a link
record AreCut (c : Cut PacketFormat Packet PacketFault) : Type 0 where
  pub given : EachPayload c.given
  pub rest : AreBytes c.rest

frame_bytes : (frame : List ℕ) → AreBytes frame → AreBytes (packet_of frame).payload
frame_bytes frame are = go (head_at frame)
  where
    go : (r : Result Head HeadFault) → AreBytes (packet_with r (drop HEADER_LEN frame)).payload
    go (Ok head) = back_bytes HEADER_LEN frame are
    go (Err fault) = back_bytes HEADER_LEN frame are

cut_bytes : (k : ℕ) (format : PacketFormat) (bytes : List ℕ) → AreBytes bytes
    → AreCut (cut_at front_of (λ _ frame. packet_of frame) (λ format frame. format_after format (packet_of frame)) k format bytes)
cut_bytes zero format bytes are = record { given = tt; rest = are }
cut_bytes (suc k) format bytes are = go (front_of format bytes) (λ next more. cut_bytes k next more)
  where
    go : (front : Front PacketFault) → ((next : PacketFormat) (more : List ℕ) → AreBytes more
        → AreCut (cut_at front_of (λ _ frame. packet_of frame) (λ format frame. format_after format (packet_of frame)) k next more))
        → AreCut (cut_by front_of (λ _ frame. packet_of frame) (λ format frame. format_after format (packet_of frame)) format bytes front
        (cut_at front_of (λ _ frame. packet_of frame) (λ format frame. format_after format (packet_of frame)) k))
    go More others = record { given = tt; rest = are }
    go (Bad fault) others = record { given = tt; rest = are }
    go (Whole n) others =
        let behind = others (format_after format (packet_of (take n bytes))) (drop n bytes) (back_bytes n bytes are) in
        record { given = (frame_bytes (take n bytes) (front_bytes n bytes are), behind.given); rest = behind.rest }

pub receives_texts : (row : Option Link) (t : ℕ) (bytes : List ℕ) (s : State) → AreBytes bytes → LinkTexts row → Texts s
    → Texts (packets.receives_on row t bytes s).state
receives_texts None t bytes s are row h = h
receives_texts (Some link) t bytes s are row h =
    faulty_texts (after.links t) t c.fault after (all_texts t c.given (to_link t (packets.with_rest c.rest) s) cuts.given
    (link_texts t (packets.with_rest c.rest) s (λ x texts. record { rest = cuts.rest; due = texts.due }) h))
  where
    all : List ℕ
    all = link.rest ++ bytes

    c : Cut PacketFormat Packet PacketFault
    c = cut_packets (record { sums = link.sums }) all

    cuts : AreCut (cut_packets (record { sums = link.sums }) (link.rest ++ bytes))
    cuts = cut_bytes (length (link.rest ++ bytes)) (record { sums = link.sums }) (link.rest ++ bytes)
        (both_bytes link.rest bytes row.rest are)

    after : State
    after = (packets.treat_all t c.given (to_link t (packets.with_rest c.rest) s)).state
