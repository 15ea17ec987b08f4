-- The streams of a history, from its entries alone: when each was born, and what of it was told, carried and handed (protocol.txt).
use Rattle.std.specs.Prelude.{ℕ, ◌+◌, ◌==◌, Bool, true, false, if◌then◌else◌, ◌&&◌, ◌||◌, not, nat_eq, nat_lt, List, [], ◌∷◌, ◌++◌, length}
use Rattle.std.specs.Prelude.{drop, Option, Some, None}
use Rattle.std.specs.Prelude.{zero, suc, slice_get, is_some}
use Rattle.adb_outside.specs.Tables.{at}
use Rattle.adb_forward.specs.declared.row.ForwardRow.{ForwardRow}
use Rattle.adb_wire.specs.declared.command.Command.{Command}
use Rattle.adb_wire.specs.declared.command.Command.TheVariants.{Cnxn, Open, Okay, Wrte, Clse}
use Rattle.adb_wire.specs.declared.packets.Packet.{Packet}
use Rattle.adb_reply.specs.declared.answer.Next.{Next}
use Rattle.adb_reply.specs.declared.answer.Next.TheVariants as what
use Rattle.adb_capture.specs.declared.entry.Entry.{Entry}
use Rattle.adb_capture.specs.declared.entry.Entry.TheVariants.{Enter, Read}
use Rattle.adb_history.specs.Links.{credit_word, is_connected, is_credit}
use Rattle.adb_history.specs.Streams.{stream_ids}
use Rattle.adb_history.specs.Machine.{History}
use Rattle.adb_history.specs.Bytes.{bytes_put, brought}
use Rattle.adb_history.specs.Book.{asked, newly, devices, forwards}

-- ---- births
-- A stream was asked for: by which client, on which link, whether with credit, whether through a forward; the
-- service; how many bytes of the client come
-- before those of the stream; and how many packets the link had brought before.
pub record Birth : Type 0 where
  pub client : ℕ
  pub link : ℕ
  pub credit : Bool
  pub forwarded : Bool
  pub service : List ℕ
  pub head : ℕ
  pub packets_before : ℕ

-- the birth by a request that is answered by opening a stream
abbrev pub birth_by : ℕ → ℕ → History → Option Next → List Birth
birth_by c head older (Some (what.Open transport service)) =
    record {
      client = c;
      link = transport;
      credit = is_credit transport (devices older);
      forwarded = false;
      service = service;
      head = head;
      packets_before = length (brought transport older);
    } ∷ []
birth_by c head older _ = []

-- the birth by a client that comes through a forward to a device that is connected
abbrev pub birth_through : ℕ → History → Option ForwardRow → List Birth
birth_through c older None = []
birth_through c older (Some row) =
    if is_connected row.transport (devices older) then record {
      client = c;
      link = row.transport;
      credit = is_credit row.transport (devices older);
      forwarded = true;
      service = row.remote;
      head = 0;
      packets_before = length (brought row.transport older);
    } ∷ []
    else []

abbrev pub births_at : Entry → History → List Birth
births_at (Read c bytes) older =
    birth_by c (asked c (Read c bytes ∷ older)).used older (newly (asked c older).next (asked c (Read c bytes ∷ older)).next)
births_at (Enter c port) older = birth_through c older (at port (forwards older))
births_at _ older = []

-- all births, the first of them first
abbrev pub births : History → List Birth
births [] = []
births (e ∷ older) = births older ++ births_at e older

-- The streams are the births in their order, from 1, as long as there are ids.
abbrev pub born : ℕ → History → Option Birth
born zero h = None
born (suc k) h = if nat_lt k stream_ids then slice_get (births h) k else None

-- ---- what the device tells of a stream
-- the packets that the link of a stream brought after its birth
abbrev pub since : Birth → History → List Packet
since b h = drop b.packets_before (brought b.link h)

-- A device opened a stream: by this id, with this credit word if any; and these packets came after.
pub record Opening : Type 0 where
  pub remote : ℕ
  pub word : Option ℕ
  pub later : List Packet

-- whether a packet is to a stream, from an id of the device
abbrev pub is_between : (remote l : ℕ) → Packet → Bool
is_between remote l p = nat_eq p.arg0 remote && nat_eq p.arg1 l

-- The opening is the first OKAY to the stream from any id but 0, unless the stream is closed or the link has another CNXN before.
abbrev pub opening_by : Command → ℕ → Packet → List Packet → Option Opening → Option Opening
opening_by Okay l p later others =
    if nat_eq p.arg1 l && not (p.arg0 == 0) then Some (record { remote = p.arg0; word = credit_word p.payload; later = later }) else others
opening_by Clse l p later others = if is_between 0 l p then None else others
opening_by Cnxn l p later others = None
opening_by _ l p later others = others

abbrev pub opening_in : ℕ → List Packet → Option Opening
opening_in l [] = None
opening_in l (p ∷ later) = opening_by p.command l p later (opening_in l later)

abbrev pub opening_of : ℕ → Birth → History → Option Opening
opening_of l b h = opening_in l (since b h)

-- the device's id of a stream, and 0 while it has told none
abbrev pub remote_in : Option Opening → ℕ
remote_in None = 0
remote_in (Some o) = o.remote

abbrev pub remote_of : ℕ → Birth → History → ℕ
remote_of l b h = remote_in (opening_of l b h)

-- ---- the payloads that a device wrote to a stream
abbrev pub is_wrte : Command → Bool
is_wrte Wrte = true
is_wrte _ = false

abbrev pub is_okay : Command → Bool
is_okay Okay = true
is_okay _ = false

abbrev pub is_clse : Command → Bool
is_clse Clse = true
is_clse _ = false

abbrev pub is_open : Command → Bool
is_open Open = true
is_open _ = false

abbrev pub told_in : (remote l : ℕ) → List Packet → List (List ℕ)
told_in remote l [] = []
told_in remote l (p ∷ packets) =
    if is_wrte p.command && is_between remote l p then p.payload ∷ told_in remote l packets else told_in remote l packets

abbrev pub told_after : ℕ → Option Opening → List (List ℕ)
told_after l None = []
told_after l (Some o) = told_in o.remote l o.later

-- told: the payloads that the device wrote to a stream after it opened it
abbrev pub told_to : ℕ → Birth → History → List (List ℕ)
told_to l b h = told_after l (opening_of l b h)

-- whether a packet closes a stream
abbrev pub is_close_of : (remote l : ℕ) → Packet → Bool
is_close_of remote l p = is_clse p.command && (is_between 0 l p || is_between remote l p)

-- the packets before the one that closes a stream
abbrev pub before_close : (remote l : ℕ) → List Packet → List Packet
before_close remote l [] = []
before_close remote l (p ∷ packets) = if is_close_of remote l p then [] else p ∷ before_close remote l packets

abbrev pub told_before : ℕ → Option Opening → List (List ℕ)
told_before l None = []
told_before l (Some o) = told_in o.remote l (before_close o.remote l o.later)

-- the payloads that the device wrote to a stream before it closed it
abbrev pub told_before_close : ℕ → Birth → History → List (List ℕ)
told_before_close l b h = told_before l (opening_of l b h)

-- all payloads together
abbrev pub joined : List (List ℕ) → List ℕ
joined [] = []
joined (payload ∷ payloads) = payload ++ joined payloads

-- ---- what was handed to the client of a stream
-- how many bytes of its client's output come before those of the stream: the replies to its requests, and the `OKAY` of the opening
abbrev pub lead_of : Birth → History → ℕ
lead_of b h = if b.forwarded then 0 else length (asked b.client h).replies + 4

-- handed: the bytes that were put to the client for its stream
abbrev pub handed_to : ℕ → Birth → History → List ℕ
handed_to l b h = if is_some (opening_of l b h) then drop (lead_of b h) (bytes_put b.client h) else []

-- ---- what was sent up a stream
abbrev pub carried_in : ℕ → List Packet → List ℕ
carried_in l [] = []
carried_in l (p ∷ packets) = if is_wrte p.command && nat_eq p.arg0 l then p.payload ++ carried_in l packets else carried_in l packets

-- how many packets there are of such a command with a stream as their sender
abbrev pub count_from : (Command → Bool) → ℕ → List Packet → ℕ
count_from is_such l [] = 0
count_from is_such l (p ∷ packets) = if is_such p.command && nat_eq p.arg0 l then 1
    + count_from is_such l packets else count_from is_such l packets
