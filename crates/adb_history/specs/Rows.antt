-- What the server keeps: clients, links and streams by their numbers, none where nothing is kept; the devices, and the forwards.
use Rattle.std.specs.Prelude.{ℕ, Bool, false, List, [], ◌++◌, Option, Some, None, option_and_then}
use Rattle.adb_outside.specs.Tables.{Rows, change_row}
use Rattle.adb_registry.specs.Registry.{DeviceTable}
use Rattle.adb_forward.specs.declared.row.ForwardRow.{ForwardRow}
use Rattle.adb_stream.specs.declared.row.Stream.{Stream}
use Rattle.adb_stream.specs.declared.row.Part.{Part}
use Rattle.adb_stream.specs.Stream.{with_part}
use Rattle.adb_client.specs.declared.about.About.{About}
use Rattle.adb_client.specs.declared.phase.Phase.{Phase}
use Rattle.adb_client.specs.Client.{new_about}

-- A client. held: what came from it and is not used yet, which is unread while it asks, and is to be sent up from the
-- moment that it asked for a
-- service; due: what is still to be handed out to it.
pub record Client : Type 0 where
  pub about : About
  pub held : List ℕ
  pub due : List ℕ

-- A link to a device. rest: what came and is no whole packet yet; sums: whether the version of its last CNXN wants
-- check words, both ways; due: what is
-- still to be handed out to it.
pub record Link : Type 0 where
  pub rest : List ℕ
  pub sums : Bool
  pub due : List ℕ

-- What the server keeps. joined and drawn: how many client numbers and stream ids were drawn; the devices tell how many links were.
pub record State : Type 0 where
  pub joined : ℕ
  pub drawn : ℕ
  pub clients : Rows (Option Client)
  pub links : Rows (Option Link)
  pub streams : Rows (Option Stream)
  pub devices : DeviceTable
  pub forwards : List (ℕ × ForwardRow)
  pub stopped : Bool

-- nobody came yet
abbrev pub start : State
start = record {
  joined = 0;
  drawn = 0;
  clients = λ _. None;
  links = λ _. None;
  streams = λ _. None;
  devices = record { drawn = 0; rows = [] };
  forwards = [];
  stopped = false;
}

-- a client that came just now, through a forward or not
abbrev pub new_client : Bool → ℕ → Client
new_client forwarded number = record { about = new_about number forwarded; held = []; due = [] }

-- a link that came just now
abbrev pub new_link : Link
new_link = record { rest = []; sums = false; due = [] }

-- ---- one row changes, where there is one
abbrev pub to_client : ℕ → (Client → Option Client) → State → State
to_client c f s = record s { clients = change_row c (option_and_then f) s.clients }

abbrev pub to_link : ℕ → (Link → Option Link) → State → State
to_link t f s = record s { links = change_row t (option_and_then f) s.links }

abbrev pub to_stream : ℕ → (Stream → Option Stream) → State → State
to_stream l f s = record s { streams = change_row l (option_and_then f) s.streams }

-- ---- what a change makes of a row
abbrev pub none_kept : {A : Type 0} → A → Option A
none_kept row = None

abbrev pub with_due : List ℕ → Client → Option Client
with_due bytes c = Some (record c { due = c.due ++ bytes })

abbrev pub with_held : List ℕ → Client → Option Client
with_held bytes c = Some (record c { held = bytes })

abbrev pub in_phase : Phase → Client → Option Client
in_phase phase c = Some (record c { about = record c.about { phase = phase } })

abbrev pub with_link_due : List ℕ → Link → Option Link
with_link_due bytes link = Some (record link { due = link.due ++ bytes })

abbrev pub with_stream_part : Part → Stream → Option Stream
with_stream_part part stream = Some (with_part part stream)
