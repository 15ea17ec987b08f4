-- The streams that a model device serves, and what each packet of the host makes of them (protocol.txt).
use Rattle.std.specs.Prelude.{ℕ, ◌+◌, ◌-◌, ◌^◌, ◌==◌, ◌||◌, if◌then◌else◌, Bool, true, false, List, [], ◌∷◌, ◌++◌, length, map, Option}
use Rattle.std.specs.Prelude.{Some, None}
use Rattle.std.specs.List.{flat_map, list_any}
use Rattle.adb_outside.specs.Tables.{at, put_at, without}
use Rattle.byteorder.specs.Endian.{little_bytes}
use Rattle.adb_wire.specs.declared.command.Command.{Command}
use Rattle.adb_wire.specs.declared.command.Command.TheVariants as commands
use Rattle.adb_wire.specs.declared.packets.Packet.{Packet}
use Rattle.adb_stream.specs.declared.flow.Flow.{Flow}
use Rattle.adb_stream.specs.declared.flow.Flow.TheVariants as flows
use Rattle.adb_files.specs.Entries.{Entry}
use Rattle.adb_device_streams.specs.Asked.{Kind, service_of, name_of}
use Rattle.adb_device_streams.specs.Service.{came_over, files_opened, files_fed}
use Rattle.adb_device_streams.specs.Stream.{Row, opened, row_took, row_acked, row_written, writes, is_done, opening_word, packet_bytes}
use Rattle.adb_device_streams.specs.Stream.{wrte, okay, clse}
use Rattle.adb_device_streams.specs.Link.{credit_word_in}
use Rattle.adb_device_streams.specs.declared.link.Link.{Link}

-- a packet that became due, and whether it carries the sum of its bytes
pub record Sent : Type 0 where
  pub sums : Bool
  pub packet : Packet

abbrev pub with_sum : Bool → Packet → Sent
with_sum sums packet = record { sums = sums; packet = packet }

-- the bytes of packets that became due
abbrev pub bytes_of : Sent → List ℕ
bytes_of one = packet_bytes one.sums one.packet

abbrev pub sent_bytes : List Sent → List ℕ
sent_bytes made = flat_map bytes_of made

-- a stream that has ended: the device's id, what it was, and whether the device closed it
pub record Ended : Type 0 where
  pub own : ℕ
  pub row : Row
  pub closed : Bool

abbrev pub ended_at : Bool → ℕ × Row → Ended
ended_at closed entry = record { own = entry.0; row = entry.1; closed = closed }

-- an OKAY of the host that a stream took, with its credit word; the OPEN of a stream is its first
pub record Ack : Type 0 where
  pub own : ℕ
  pub word : Option ℕ

-- how many ids were drawn, the live streams by these, those that have ended, the newest first, the OKAYs that streams took,
-- the files, and all that ever became due
pub record Serving : Type 0 where
  pub drawn : ℕ
  pub rows : List (ℕ × Row)
  pub ended : List Ended
  pub acks : List Ack
  pub files : List Entry
  pub made : List Sent

-- more becomes due
abbrev pub owing : List Sent → Serving → Serving
owing more s = record s { made = s.made ++ more }

-- a stream took an OKAY
abbrev pub granted : ℕ → Option ℕ → Serving → Serving
granted own word s = record s { acks = record { own = own; word = word } ∷ s.acks }

-- a stream changes, or ends
abbrev pub kept : ℕ → Row → Serving → Serving
kept own row s = record s { rows = put_at own row s.rows }

abbrev pub gone : Bool → ℕ → Row → Serving → Serving
gone closed own row s = record s { rows = without own s.rows; ended = ended_at closed (own, row) ∷ s.ended }

-- the packets of all the writes that the window of a stream lets go, and where it is done then its CLSE
abbrev pub sent_writes : Link → ℕ → Row → List Sent
sent_writes link own row = map (λ payload. with_sum link.sums (wrte own row.host payload)) (writes link.most row)

abbrev pub sent_close : Bool → Link → ℕ → ℕ → List Sent
sent_close false link own host = []
sent_close true link own host = with_sum link.sums (clse own host) ∷ []

-- A stream settles: its writes are due, and where it is done then its CLSE, and it has ended.
abbrev pub settled_as : Bool → Link → ℕ → Row → Serving → Serving
settled_as false link own row s = kept own row s
settled_as true link own row s = gone true own row (owing (sent_close true link own row.host) s)

abbrev pub settled : Link → ℕ → Row → Serving → Serving
settled link own row s =
    let last = row_written link.most row in
    settled_as (is_done last) link own last (owing (sent_writes link own row) s)

-- the credit that an OPEN gives, where the link has credit in bytes
abbrev pub credit_of : Link → Packet → Option ℕ
credit_of link p = if link.credit then Some p.arg1 else None

-- An OPEN of a known service draws the next id, and is told so; a command is run. One of another service is refused.
abbrev pub open_as : Link → Packet → Option Kind → Serving → Serving
open_as link p None s = owing (with_sum link.sums (clse 0 p.arg0) ∷ []) s
open_as link p (Some kind) s =
    let own = s.drawn + 1 in
    settled link own (opened p.arg0 kind s.files (credit_of link p))
    (record (granted own (credit_of link p) (owing (with_sum link.sums (okay own p.arg0 (opening_word (credit_of link p))) ∷ []) s)) {
      drawn = own;
      files = files_opened kind s.files;
    })

-- whether a host's id is that of a live stream
abbrev pub is_taken : ℕ → List (ℕ × Row) → Bool
is_taken host rows = list_any (λ (entry : ℕ × Row). entry.1.host == host) rows

-- the service that an OPEN gets: none once all ids were drawn
abbrev pub kind_for : ℕ → Packet → Option Kind
kind_for drawn p = if drawn == 2 ^ 32 - 1 then None else service_of (name_of p.payload)

-- an OPEN whose id is 0 or that of a live stream is ignored
abbrev pub on_open : Link → Packet → Serving → Serving
on_open link p s = if p.arg0 == 0 || is_taken p.arg0 s.rows then s else open_as link p (kind_for s.drawn p) s

-- the stream of an id, if it is one of that host's id
abbrev pub named : ℕ → Option Row → Option Row
named host None = None
named host (Some row) = if row.host == host then Some row else None

-- A write is acknowledged at once: where the link has credit in bytes these are given back, and no OKAY is sent where there are none.
abbrev pub sent_ack : Link → ℕ → ℕ → Flow → ℕ → List Sent
sent_ack link own host (flows.One window) n = with_sum link.sums (okay own host []) ∷ []
sent_ack link own host (flows.Credit credit) n = if n == 0 then [] else with_sum link.sums (okay own host (little_bytes 4 n)) ∷ []

-- A WRTE of a live stream's two ids is acknowledged and taken, and the stream settles.
abbrev pub written_to : Link → Packet → Option Row → Serving → Serving
written_to link p None s = s
written_to link p (Some row) s =
    let came = came_over p.payload s.files in
    settled link p.arg1 (row_took came row)
    (record (owing (sent_ack link p.arg1 row.host row.flow (length p.payload)) s) { files = files_fed row.kind row.past came })

abbrev pub on_write : Link → Packet → Serving → Serving
on_write link p s = written_to link p (named p.arg0 (at p.arg1 s.rows)) s

-- An OKAY of a live stream's two ids ends a write, or gives credit for more, and the stream settles.
abbrev pub acked_to : Link → Packet → Option Row → Serving → Serving
acked_to link p None s = s
acked_to link p (Some row) s = settled link p.arg1 (row_acked (credit_word_in p.payload) row) (granted p.arg1 (credit_word_in p.payload) s)

abbrev pub on_okay : Link → Packet → Serving → Serving
on_okay link p s = acked_to link p (named p.arg0 (at p.arg1 s.rows)) s

-- A CLSE of a live stream's two ids ends it, with what it had not written; the host's id may be 0.
abbrev pub closed_to : ℕ → Option Row → Serving → Serving
closed_to own None s = s
closed_to own (Some row) s = gone false own row s

abbrev pub closable : ℕ → Option Row → Option Row
closable host found = if host == 0 then found else named host found

abbrev pub on_close : Packet → Serving → Serving
on_close p s = closed_to p.arg1 (closable p.arg0 (at p.arg1 s.rows)) s

-- all streams end, with no CLSE
abbrev pub all_gone : Serving → Serving
all_gone s = record s { rows = []; ended = map (ended_at false) s.rows ++ s.ended }

-- what a packet makes of what is served; AUTH and STLS are ignored
abbrev pub served : Command → Link → Packet → Serving → Serving
served commands.Open link p s = on_open link p s
served commands.Wrte link p s = on_write link p s
served commands.Okay link p s = on_okay link p s
served commands.Clse link p s = on_close p s
served _ link p s = s
