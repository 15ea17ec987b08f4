-- What is held of a history that was counted, and what counting an entry makes of it.
use Rattle.std.specs.Prelude.{ℕ, ◌+◌, ◌-◌, ◌≡◌, ◌≢◌, ◌≤◌, ◌<◌, List, [], ◌++◌, length, Option, Some, None}
use Rattle.adb_outside.specs.Tables.{at, Puts}
use Rattle.adb_capture.specs.declared.entry.Entry.{Entry}
use Rattle.adb_capture.specs.declared.entry.Entry.TheVariants.{Join, Enter, Put, Send}
use Rattle.adb_wire.specs.Cutting.{framed}
use Rattle.adb_wire.specs.Deframing.{Deframing, StandsFor}
use Rattle.adb_wire.specs.declared.packets.Packet.{Packet}
use Rattle.adb_history.specs.Machine.{History}
use Rattle.adb_history.specs.Bytes.{bytes_put, bytes_sent}
use Rattle.adb_history.specs.Book.{plugged_count}
use Rattle.adb_history.specs.Tied.{came_count}
use Rattle.adb_laws_loads.specs.Totals.{up_of, past_leads, lead_len, wrote_in}
use Rattle.adb_run_load.specs.Totals.{told}
use Rattle.adb_run_load.specs.declared.count.Count.{Count}
use Rattle.adb_run_load.specs.declared.down.Down.{Down}
use Rattle.adb_run_load.specs.declared.up.Up.{Up}

-- A deframer was fed with these bytes, and gave all their packets.
pub record HasRead (fed : List ℕ) (cutter : Deframing) : Type 0 where
  pub stands : StandsFor fed (framed fed).given cutter
  pub given : cutter.given ≡ []

-- Where there is none, there was no byte.
abbrev pub HasReadAt : List ℕ → Option Deframing → Type 0
HasReadAt fed None = fed ≡ []
HasReadAt fed (Some cutter) = HasRead fed cutter

-- What went up in a history was counted.
pub record IsUp (h : History) (up : Up) : Type 0 where
  pub total : up.total ≡ told (up_of h)
  pub links : (t : ℕ) → HasReadAt (bytes_sent t h) (at t up.links.entries)
  -- nothing was sent to a link that is still to come
  pub later : (t : ℕ) → plugged_count h < t → bytes_sent t h ≡ []

-- how much of its leading replies is still to be put to a client
abbrev pub lead_at : Option ℕ → ℕ
lead_at None = 0
lead_at (Some lead) = lead

-- What came down in a history was counted.
pub record IsDown (h : History) (down : Down) : Type 0 where
  pub total : down.total ≡ told (past_leads h)
  pub leads : (c : ℕ) → 0 < c → c ≤ came_count h → lead_at (at c down.leads.entries) ≡ lead_len - length (bytes_put c h)
  -- nothing was put to a client that is still to come
  pub later : (c : ℕ) → came_count h < c → bytes_put c h ≡ []

-- A history was counted.
pub record IsCount (h : History) (count : Count) : Type 0 where
  pub entries : count.entries ≡ told (length h)
  pub up : IsUp h count.up
  pub down : IsDown h count.down

-- ---- what comes down
-- A client came: all of its lead is still to be put to it.
pub record Comes (c : ℕ) (old new : Down) : Type 0 where
  pub total : new.total ≡ old.total
  pub leads : Puts c (Some lead_len) old.leads.entries new.leads.entries

-- So many bytes were put to a client: first what is left of its lead.
pub record Hands (c size : ℕ) (old new : Down) : Type 0 where
  pub total : new.total ≡ told (old.total + (size - lead_at (at c old.leads.entries)))
  pub here : lead_at (at c new.leads.entries) ≡ lead_at (at c old.leads.entries) - size
  pub others : (q : ℕ) → q ≢ c → at q new.leads.entries ≡ at q old.leads.entries

abbrev pub AddsDown : Entry → Down → Down → Type 0
AddsDown (Join c) old new = Comes c old new
AddsDown (Enter c port) old new = Comes c old new
AddsDown (Put c bytes) old new = Hands c (length bytes) old new
AddsDown _ old new = new ≡ old

-- ---- what goes up
-- A further piece was read: these packets became whole by it, and the writes among them have so many bytes.
pub record Wrote (fed piece : List ℕ) (written : ℕ) (new : Deframing) : Type 0 where
  pub more : List Packet
  pub are : (framed (fed ++ piece)).given ≡ (framed fed).given ++ more
  pub counted : written ≡ told (wrote_in more)
  pub read : HasRead (fed ++ piece) new

-- the same of a link to which something was sent before
abbrev pub WritesAt : List ℕ → ℕ → Option Deframing → Option Deframing → Type 0
WritesAt piece written None new = new ≡ None
WritesAt piece written (Some old) None = ⊥
WritesAt piece written (Some old) (Some new) = (fed : List ℕ) → HasRead fed old → Wrote fed piece written new

-- there is a deframer, and it was fed with these bytes
abbrev pub HasBegun : List ℕ → Option Deframing → Type 0
HasBegun fed None = ⊥
HasBegun fed (Some cutter) = HasRead fed cutter

-- A link has a deframer now, if it had none.
pub record Begins (t : ℕ) (old new : List (ℕ × Deframing)) : Type 0 where
  pub here : (fed : List ℕ) → HasReadAt fed (at t old) → HasBegun fed (at t new)
  pub others : (q : ℕ) → q ≢ t → at q new ≡ at q old

-- A piece was sent to a link: these packets became whole by it, and their writes were counted.
pub record WroteOn (fed piece : List ℕ) (t : ℕ) (old new : Up) : Type 0 where
  pub more : List Packet
  pub are : (framed (fed ++ piece)).given ≡ (framed fed).given ++ more
  pub counted : new.total ≡ told (old.total + told (wrote_in more))
  pub read : HasReadAt (fed ++ piece) (at t new.links.entries)

pub record Writes (t : ℕ) (piece : List ℕ) (old new : Up) : Type 0 where
  pub here : (fed : List ℕ) → HasReadAt fed (at t old.links.entries) → WroteOn fed piece t old new
  pub others : (q : ℕ) → q ≢ t → at q new.links.entries ≡ at q old.links.entries

abbrev pub AddsUp : Entry → Up → Up → Type 0
AddsUp (Send t bytes) old new = Writes t bytes old new
AddsUp _ old new = new ≡ old
