-- A model device: what all the packets of the host make of it (protocol.txt).
use Rattle.std.specs.Prelude.{ℕ, if◌then◌else◌, Bool, true, false, List, [], ◌∷◌, fold, Option, Some, None, codes}
use Rattle.adb_wire.specs.declared.command.Command.TheVariants as commands
use Rattle.adb_wire.specs.declared.limits.TheConstants.{VERSION}
use Rattle.adb_wire.specs.declared.packets.Packet.{Packet}
use Rattle.adb_wire.specs.Format.{is_cnxn}
use Rattle.adb_files.specs.Entries.{Entry}
use Rattle.adb_device_streams.specs.Link.{link_of}
use Rattle.adb_device_streams.specs.declared.link.Link.{Link}
use Rattle.adb_daemon.specs.Serving.{Serving, Sent, with_sum, served, all_gone}

-- what a device is made with: its own limit, whether it takes credit in bytes, and its files
pub record Setting : Type 0 where
  pub most : ℕ
  pub credit : Bool
  pub files : List Entry

-- the link once the host said who it is, what is served on it, and whether a CNXN was refused
pub record Device : Type 0 where
  pub link : Option Link
  pub serving : Serving
  pub refused : Bool

-- who the device says that it is
abbrev pub identity_text : Bool → List ℕ
identity_text false = codes "device::ro.product.name=model;ro.product.model=Model;ro.product.device=model;features=shell_v2;"
identity_text true = codes "device::ro.product.name=model;ro.product.model=Model;ro.product.device=model;features=shell_v2,hub_credit;"

-- its own CNXN, which is due from the start, with its sum
abbrev pub own_cnxn : Setting → Sent
own_cnxn setting =
    with_sum true (record { command = commands.Cnxn; arg0 = VERSION; arg1 = setting.most; payload = identity_text setting.credit })

abbrev pub first_device : Setting → Device
first_device setting =
    record {
      link = None;
      serving = record { drawn = 0; rows = []; ended = []; acks = []; files = setting.files; made = own_cnxn setting ∷ [] };
      refused = false;
    }

-- A CNXN that is refused is the end. Else all streams end, with no CLSE, and the link is that of this CNXN.
abbrev pub linked_to : Option Link → Device → Device
linked_to None d = record d { refused = true }
linked_to (Some link) d = record d { link = Some link; serving = all_gone d.serving }

-- what is served on the link, where there is one
abbrev pub served_on : Option Link → Packet → Device → Device
served_on None p d = d
served_on (Some link) p d = record d { serving = served p.command link p d.serving }

-- a packet of the host: before its CNXN all others are ignored
abbrev pub treated : Setting → Packet → Device → Device
treated setting p d = if is_cnxn p.command then linked_to (link_of setting.most setting.credit p) d else served_on d.link p d

-- behind a refused CNXN nothing is treated
unfoldable pub step : Setting → Device → Packet → Device
step setting d p = if d.refused then d else treated setting p d

-- the device behind packets
abbrev pub device_behind : Setting → List Packet → Device
device_behind setting packets = fold (step setting) (first_device setting) packets
