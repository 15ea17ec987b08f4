-- Links to devices, and what the server writes to them (protocol.txt).
use Rattle.std.specs.Prelude.{ℕ, Bool, true, false, if◌then◌else◌, List, [], ◌∷◌, ◌++◌, Option, Some, None, codes, unwrap_or, option_map}
use Rattle.byteorder.specs.Endian.{little_bytes, little_number}
use Rattle.adb_outside.specs.Tables.{at}
use Rattle.adb_outside.specs.declared.identity.Identity.{Identity}
use Rattle.adb_outside.specs.declared.identity.State.{State as DeviceState}
use Rattle.adb_outside.specs.declared.identity.State.TheVariants.{Offline, Unauthorized}
use Rattle.adb_registry.specs.Registry.{DeviceTable}
use Rattle.adb_registry.specs.declared.row.Row.{Row}
use Rattle.adb_wire.specs.Packet.{spelling, check_of}
use Rattle.adb_wire.specs.Format.{is_cnxn}
use Rattle.adb_wire.specs.declared.command.Command.TheVariants.{Cnxn, Open, Okay, Wrte, Clse}
use Rattle.adb_wire.specs.declared.headers.TheConstants.{MAX_PAYLOAD}
use Rattle.adb_wire.specs.declared.limits.TheConstants.{VERSION}
use Rattle.adb_wire.specs.declared.packets.Packet.{Packet}
use Rattle.adb_banner.specs.Banner.{is_feature}
use Rattle.adb_stream.specs.declared.credit.TheConstants.{CREDIT_WINDOW}
use Rattle.adb_history.specs.Rows.{Link, State, to_link, with_link_due}
use Rattle.adb_history.specs.Events.{Made, due_to_link}

-- ---- the packets that the server writes
-- who the server says that it is
abbrev pub server_cnxn : Packet
server_cnxn = record { command = Cnxn; arg0 = VERSION; arg1 = MAX_PAYLOAD; payload = codes "host::features=shell_v2,hub_credit" }

-- a stream is asked for, with credit for a whole window where the link has credit
abbrev pub open_packet : Bool → ℕ → List ℕ → Packet
open_packet credit l service = record { command = Open; arg0 = l; arg1 = if credit then CREDIT_WINDOW else 0; payload = service ++ 0 ∷ [] }

abbrev pub okay_packet : (l remote : ℕ) → Packet
okay_packet l remote = record { command = Okay; arg0 = l; arg1 = remote; payload = [] }

-- a credit word: four bytes
abbrev pub credit_packet : (l remote credit : ℕ) → Packet
credit_packet l remote credit = record { command = Okay; arg0 = l; arg1 = remote; payload = little_bytes 4 credit }

abbrev pub write_packet : (l remote : ℕ) → List ℕ → Packet
write_packet l remote payload = record { command = Wrte; arg0 = l; arg1 = remote; payload = payload }

abbrev pub close_packet : (l remote : ℕ) → Packet
close_packet l remote = record { command = Clse; arg0 = l; arg1 = remote; payload = [] }

-- the credit that the payload of an OKAY gives, where it is a credit word
abbrev pub credit_word : List ℕ → Option ℕ
credit_word (a ∷ b ∷ c ∷ d ∷ []) = Some (little_number 4 (a ∷ b ∷ c ∷ d ∷ []))
credit_word _ = None

-- ---- a packet becomes due: its check word is fixed then
abbrev pub wants_sums : Option Link → Bool
wants_sums None = false
wants_sums (Some link) = link.sums

-- the check word of a packet on a link: a CNXN carries its sum, another packet where the link wants it
abbrev pub check_on : Bool → Packet → ℕ
check_on sums p = check_of (if is_cnxn p.command then true else sums) p

abbrev pub owe_checked : ℕ → Packet → ℕ → State → Made
owe_checked t p check s = record { state = to_link t (with_link_due (spelling p check)) s; told = due_to_link t p check ∷ [] }

abbrev pub owe_link : ℕ → Packet → State → Made
owe_link t p s = owe_checked t p (check_on (wants_sums (s.links t)) p) s

-- ---- what is known of a device
-- whether a state is one of a device that said who it is
abbrev pub is_connected_state : DeviceState → Bool
is_connected_state Offline = false
is_connected_state Unauthorized = false
is_connected_state _ = true

abbrev pub is_connected_row : Option Row → Bool
is_connected_row None = false
is_connected_row (Some row) = is_connected_state row.state

-- whether a transport is connected
abbrev pub is_connected : ℕ → DeviceTable → Bool
is_connected t devices = is_connected_row (at t devices.rows)

-- whether an identity names the feature by which both ends use credit
abbrev pub names_credit : Option Identity → Bool
names_credit None = false
names_credit (Some identity) = is_feature identity.features (codes "hub_credit")

abbrev pub is_credit_row : Option Row → Bool
is_credit_row None = false
is_credit_row (Some row) = names_credit row.identity

-- whether a link is a credit link: its last CNXN names the feature
abbrev pub is_credit : ℕ → DeviceTable → Bool
is_credit t devices = is_credit_row (at t devices.rows)

-- how many payload bytes a device takes in one packet
abbrev pub maxdata_of : ℕ → DeviceTable → ℕ
maxdata_of t devices = unwrap_or (option_map (λ row. row.maxdata) (at t devices.rows)) 0
