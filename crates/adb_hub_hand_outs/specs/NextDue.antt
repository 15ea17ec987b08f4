-- Who is handed something next.
use Rattle.std.specs.Prelude.{nat_lt, ◌||◌, Bool, true, length, Option, Some, None}
use Rattle.adb_client.specs.Client.{SeenClient}
use Rattle.adb_capture.specs.declared.entry.Entry.{Entry}
use Rattle.adb_capture.specs.declared.entry.Entry.TheVariants.{Put, Send}
use Rattle.adb_history.specs.Rows.{Client, Link, State}
use Rattle.adb_history.specs.Drained.{send_on, put_to}
use Rattle.adb_hub_tables.specs.declared.ports.Port.{Port}
use Rattle.adb_capture.specs.declared.entry.Owner.{Owner}
use Rattle.adb_capture.specs.declared.entry.Owner.TheVariants as owner

-- whether bytes are due to a link
abbrev pub owes_link : Port → Bool
owes_link port = nat_lt 0 (length port.link.due)

-- whether bytes are due to a client, or the list of the devices that it has is stale
abbrev pub owes_client : SeenClient → Bool
owes_client client = nat_lt 0 (length client.due) || client.about.mark

-- to whom an entry hands something
abbrev pub owner_of : Entry → Option Owner
owner_of (Send t bytes) = Some (owner.Link t)
owner_of (Put c bytes) = Some (owner.Client c)
owner_of _ = None

-- what is handed to this one next
abbrev pub entry_of : Option Owner → State → Option Entry
entry_of None s = None
entry_of (Some (owner.Link t)) s = send_on t (s.links t)
entry_of (Some (owner.Client c)) s = put_to s.devices c (s.clients c)

-- ---- who is woken
-- whether something is due to a link, or it is gone
abbrev pub link_owed : Option Link → Bool
link_owed None = true
link_owed (Some link) = nat_lt 0 (length link.due)

-- whether something is due to a client, or the list that it has is stale, or it is gone
abbrev pub client_owed : Option Client → Bool
client_owed None = true
client_owed (Some client) = nat_lt 0 (length client.due) || client.about.mark

abbrev pub is_owed : Owner → State → Bool
is_owed (owner.Link t) s = link_owed (s.links t)
is_owed (owner.Client c) s = client_owed (s.clients c)
