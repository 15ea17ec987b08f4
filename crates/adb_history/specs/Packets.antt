-- What the packets of a device make (protocol.txt).
use Rattle.std.specs.Prelude.{ℕ, ◌+◌, ◌-◌, ◌==◌, Bool, true, false, if◌then◌else◌, ◌||◌, not, nat_eq, nat_lt, List, [], ◌∷◌, ◌++◌, length}
use Rattle.std.specs.Prelude.{min, Option, Some, None, codes}
use Rattle.adb_outside.specs.Tables.{at}
use Rattle.adb_outside.specs.Framing.{Cut}
use Rattle.adb_outside.specs.declared.identity.Identity.{Identity}
use Rattle.adb_outside.specs.declared.identity.State.{State as DeviceState}
use Rattle.adb_outside.specs.declared.identity.State.TheVariants.{Offline}
use Rattle.adb_banner.specs.Banner.{identity_of}
use Rattle.adb_registry.specs.Row.{online_row, unauthorized_row}
use Rattle.adb_registry.specs.Registry.{changed}
use Rattle.adb_registry.specs.declared.row.Row.{Row}
use Rattle.adb_wire.specs.Cutting.{cut_packets}
use Rattle.adb_wire.specs.Format.{has_sums}
use Rattle.adb_wire.specs.declared.command.Command.{Command}
use Rattle.adb_wire.specs.declared.command.Command.TheVariants.{Cnxn, Open, Okay, Wrte, Clse, Auth, Stls}
use Rattle.adb_wire.specs.declared.packets.Packet.{Packet}
use Rattle.adb_wire.specs.declared.format.PacketFault.{PacketFault}
use Rattle.adb_wire.specs.declared.format.PacketFormat.{PacketFormat}
use Rattle.adb_wire.specs.declared.limits.TheConstants.{VERSION}
use Rattle.adb_wire.specs.declared.headers.TheConstants.{MAX_PAYLOAD}
use Rattle.adb_stream.specs.Flow.{first_credit, acknowledged, is_out_of_turn, accepted}
use Rattle.adb_stream.specs.declared.flow.Flow.{Flow}
use Rattle.adb_stream.specs.declared.flow.Flow.TheVariants.{One, Credit}
use Rattle.adb_stream.specs.declared.row.Stream.{Stream}
use Rattle.adb_stream.specs.declared.row.Part.{Part}
use Rattle.adb_client.specs.declared.phase.Phase.TheVariants.{Streaming}
use Rattle.adb_history.specs.Rows.{Client, Link, State, to_client, to_link, to_stream, none_kept, in_phase, with_stream_part}
use Rattle.adb_history.specs.Events.{Made, quietly, then_also}
use Rattle.adb_history.specs.declared.ending.Ending.TheVariants.{PeerClosed, OutOfTurn, Lost, Broken}
use Rattle.adb_history.specs.Links.{close_packet, okay_packet, credit_word, owe_link, is_connected}
use Rattle.adb_history.specs.Clients.{owe_client}
use Rattle.adb_history.specs.Streams.{ends_row, ends_telling, all_end}
use Rattle.adb_history.specs.Flow.{with_flow}
use Rattle.adb_history.specs.Tracking.{mark_all}
use Rattle.adb_history.specs.Losing.{link_ends}

-- ---- CNXN
-- the least version and the least maxdata with which a device is taken
abbrev pub least_version : ℕ
least_version = 0x01000000

abbrev pub least_maxdata : ℕ
least_maxdata = 4096

abbrev pub with_sums : Bool → Link → Option Link
with_sums sums link = Some (record link { sums = sums })

-- the device said who it is: the link has that version and maxdata from now on
abbrev pub goes_online : ℕ → (version maxdata : ℕ) → Identity → State → State
goes_online t version maxdata identity s =
    mark_all (to_link t (with_sums (has_sums version)) (record s {
      devices = changed t (online_row identity (min version VERSION) (min maxdata MAX_PAYLOAD)) s.devices;
    }))

-- on a link that had a CNXN, its streams end first
abbrev pub streams_end_first : Bool → ℕ → State → Made
streams_end_first false t s = quietly s
streams_end_first true t s = all_end t Lost s

abbrev pub connects : ℕ → (version maxdata : ℕ) → Option Identity → State → Made
connects t version maxdata None s = link_ends t Broken s
connects t version maxdata (Some identity) s =
    then_also (streams_end_first (is_connected t s.devices) t s) (λ s. quietly (goes_online t version maxdata identity s))

-- CNXN: a device that is too old, takes too little or does not say who it is breaks its link
abbrev pub cnxn : ℕ → (version maxdata : ℕ) → List ℕ → State → Made
cnxn t version maxdata banner s =
    if nat_lt version least_version || nat_lt maxdata least_maxdata then link_ends t Broken s
    else connects t version maxdata (identity_of banner) s

-- ---- AUTH and STLS
-- before its first CNXN a device that asks for what is not answered is unauthorized
abbrev pub unauthorized_from : ℕ → DeviceState → State → State
unauthorized_from t Offline s = mark_all (record s { devices = changed t unauthorized_row s.devices })
unauthorized_from t _ s = s

abbrev pub unauthorized : ℕ → Option Row → State → Made
unauthorized t None s = quietly s
unauthorized t (Some row) s = quietly (unauthorized_from t row.state s)

-- ---- OPEN
-- a stream that a device opens is refused
abbrev pub refuses_open : (t id : ℕ) → State → Made
refuses_open t id s = if id == 0 then quietly s else owe_link t (close_packet 0 id) s

-- ---- what concerns a live stream of the link
abbrev pub at_stream : ℕ → Option Stream → (Stream → State → Made) → State → Made
at_stream t None rule s = quietly s
at_stream t (Some stream) rule s = if nat_eq stream.link t then rule stream s else quietly s

abbrev pub with_remote : ℕ → Part → Part
with_remote remote part = record part { remote = remote }

-- ---- OKAY
-- the client hears that its stream is open, unless it came through a forward
abbrev pub hears_okay : Option Client → ℕ → State → Made
hears_okay None c s = quietly s
hears_okay (Some client) c s = if client.about.forwarded then quietly s else owe_client c (codes "OKAY") s

-- the device opens a stream: its client sends from now on
abbrev pub opened : (l remote : ℕ) → Option ℕ → Stream → State → Made
opened l remote word stream s =
    then_also (hears_okay (s.clients stream.client) stream.client s)
    (λ s. quietly (to_client stream.client (in_phase (Streaming l))
    (to_stream l (with_stream_part (with_remote remote (with_flow (first_credit word stream.part.flow) stream.part))) s)))

-- an orphan is closed as soon as the device has told its id
abbrev pub orphan_opened : (l remote : ℕ) → Stream → State → Made
orphan_opened l remote stream s = owe_link stream.link (close_packet l remote) (to_stream l none_kept s)

abbrev pub okay_open : ℕ → Option ℕ → Stream → State → Made
okay_open l word stream s = quietly (to_stream l (with_stream_part (with_flow (acknowledged word stream.part.flow) stream.part)) s)

abbrev pub okay_first : Bool → (l remote : ℕ) → Option ℕ → Stream → State → Made
okay_first true l remote word stream s = orphan_opened l remote stream s
okay_first false l remote word stream s = opened l remote word stream s

-- OKAY
abbrev pub takes_okay : (l remote : ℕ) → Option ℕ → Stream → State → Made
takes_okay l remote word stream s =
    if remote == 0 then quietly s
    else (if stream.part.remote == 0 then okay_first stream.part.orphan l remote word stream s
    else (if remote == stream.part.remote then okay_open l word stream s else quietly s))

-- ---- WRTE
-- a write without bytes: one write each way answers it at once
abbrev pub accepts_none : Flow → ℕ → Stream → State → Made
accepts_none (One window) l stream s = owe_link stream.link (okay_packet l stream.part.remote) s
accepts_none (Credit credit) l stream s = quietly s

abbrev pub accepts : ℕ → List ℕ → Stream → State → Made
accepts l [] stream s = accepts_none stream.part.flow l stream s
accepts l (b ∷ payload) stream s =
    owe_client stream.client (b ∷ payload)
    (to_stream l (with_stream_part (with_flow (accepted (length (b ∷ payload)) stream.part.flow) stream.part)) s)

-- WRTE
abbrev pub takes_write : (l remote : ℕ) → List ℕ → Stream → State → Made
takes_write l remote payload stream s =
    if remote == 0 || not (remote == stream.part.remote) then quietly s
    else (if is_out_of_turn stream.part.flow (length payload) then ends_telling l OutOfTurn stream s
    else accepts l payload stream s)

-- ---- CLSE
abbrev pub takes_close : (l remote : ℕ) → Stream → State → Made
takes_close l remote stream s =
    if remote == 0 || remote == stream.part.remote then ends_row l PeerClosed stream s else quietly s

-- ---- one packet
-- a packet of a link that had a CNXN, which is no CNXN
abbrev pub treat_open : ℕ → Command → Packet → State → Made
treat_open t Open p s = refuses_open t p.arg0 s
treat_open t Okay p s = at_stream t (s.streams p.arg1) (takes_okay p.arg1 p.arg0 (credit_word p.payload)) s
treat_open t Wrte p s = at_stream t (s.streams p.arg1) (takes_write p.arg1 p.arg0 p.payload) s
treat_open t Clse p s = at_stream t (s.streams p.arg1) (takes_close p.arg1 p.arg0) s
treat_open t _ p s = quietly s

-- whether a packet says who the device is, or asks for what is not answered
abbrev pub treat_any : ℕ → Command → Packet → State → Made
treat_any t Cnxn p s = cnxn t p.arg0 p.arg1 p.payload s
treat_any t Auth p s = unauthorized t (at t s.devices.rows) s
treat_any t Stls p s = unauthorized t (at t s.devices.rows) s
treat_any t command p s = if is_connected t s.devices then treat_open t command p s else quietly s

-- a packet comes on a link, which may be gone
abbrev pub treat_on : Option Link → ℕ → Packet → State → Made
treat_on None t p s = quietly s
treat_on (Some link) t p s = treat_any t p.command p s

abbrev pub treat : ℕ → Packet → State → Made
treat t p s = treat_on (s.links t) t p s

abbrev pub treat_all : ℕ → List Packet → State → Made
treat_all t [] s = quietly s
treat_all t (p ∷ packets) s = then_also (treat t p s) (treat_all t packets)

-- ---- receive
-- a fault of the bytes breaks the link, which may be gone
abbrev pub faulty_on : Option Link → ℕ → Option PacketFault → State → Made
faulty_on None t fault s = quietly s
faulty_on (Some link) t None s = quietly s
faulty_on (Some link) t (Some fault) s = link_ends t Broken s

abbrev pub faulty : ℕ → Option PacketFault → State → Made
faulty t fault s = faulty_on (s.links t) t fault s

abbrev pub with_rest : List ℕ → Link → Option Link
with_rest rest link = Some (record link { rest = rest })

-- the packets that the bytes of a link are cut to are treated in order, and then their fault
abbrev pub receives_cut : ℕ → Cut PacketFormat Packet PacketFault → State → Made
receives_cut t c s = then_also (treat_all t c.given (to_link t (with_rest c.rest) s)) (faulty t c.fault)

abbrev pub receives_on : Option Link → ℕ → List ℕ → State → Made
receives_on None t bytes s = quietly s
receives_on (Some link) t bytes s = receives_cut t (cut_packets (record { sums = link.sums }) (link.rest ++ bytes)) s

-- receive
abbrev pub receives : ℕ → List ℕ → State → Made
receives t bytes s = receives_on (s.links t) t bytes s
