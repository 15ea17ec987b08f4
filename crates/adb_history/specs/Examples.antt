-- The words that worked histories are told in.
use Rattle.std.specs.Prelude.{ℕ, true, false, List, [], ◌∷◌, ◌++◌, codes}
use Rattle.adb_outside.specs.declared.kinds.Kind.TheVariants.{Usb}
use Rattle.adb_wire.specs.Packet.{spelling}
use Rattle.adb_wire.specs.declared.packets.Packet.{Packet}
use Rattle.adb_wire.specs.declared.command.Command.TheVariants.{Cnxn}
use Rattle.adb_capture.specs.declared.entry.Entry.{Entry}
use Rattle.adb_capture.specs.declared.entry.Entry.TheVariants.{Join, Read, Attach, Recv, Put, Send}
use Rattle.adb_history.specs.Links.{server_cnxn, open_packet, okay_packet}

-- what a device sends: its check words are 0
abbrev pub sends : List Packet → List ℕ
sends [] = []
sends (p ∷ packets) = spelling p 0 ++ sends packets

-- what the server sends to a link of the newer version: a CNXN has its sum, others have none
abbrev pub hears : List Packet → List ℕ
hears [] = []
hears (p ∷ packets) = spelling p 0 ++ hears packets

abbrev pub connect : (version maxdata : ℕ) → List ℕ → Packet
connect version maxdata identity = record { command = Cnxn; arg0 = version; arg1 = maxdata; payload = identity }

-- a device that names a model, and one that uses credit
abbrev pub pixel : ℕ → Packet
pixel maxdata = connect 0x01000001 maxdata (codes "device::ro.product.model=Pix 3;features=shell_v2;")

abbrev pub lender : Packet
lender = connect 0x01000001 4096 (codes "device::features=shell_v2,hub_credit;")

-- the server's CNXN with its sum, which is 3,378
abbrev pub hello : List ℕ
hello = spelling server_cnxn 3378

-- a device is plugged in as number 1 and says who it is
abbrev pub plugs : Packet → List Entry
plugs p = Attach 1 Usb (codes "emu1") ∷ Recv 1 (sends (p ∷ [])) ∷ []

-- and it was greeted
abbrev pub plugged : Packet → List Entry
plugged p = Attach 1 Usb (codes "emu1") ∷ Send 1 hello ∷ Recv 1 (sends (p ∷ [])) ∷ []

-- a client comes and asks
abbrev pub asks : ℕ → List ℕ → List Entry
asks c bytes = Join c ∷ Read c bytes ∷ []

-- the requests for a shell of the device
abbrev pub shell_requests : List ℕ
shell_requests = codes "0013host:transport:emu1000dshell:echo hi"

-- the server asks the device for it, on a plain link
abbrev pub opens_shell : List Entry
opens_shell = Send 1 (hears (open_packet false 1 (codes "shell:echo hi") ∷ [])) ∷ Put 1 (codes "OKAY") ∷ []

-- an open shell of client 1: the entries that came, and all
abbrev pub shell_comes : List Entry
shell_comes = plugs (pixel 4096) ++ asks 1 shell_requests ++ Recv 1 (sends (okay_packet 7 1 ∷ [])) ∷ []

abbrev pub shell_open : List Entry
shell_open = plugged (pixel 4096) ++ asks 1 shell_requests ++ opens_shell ++ Recv 1 (sends (okay_packet 7 1 ∷ []))
    ∷ Put 1 (codes "OKAY") ∷ []

-- the same of a shell on a credit link, opened with a credit word
abbrev pub lent_comes : Packet → List Entry
lent_comes opening = plugs lender ++ asks 1 shell_requests ++ Recv 1 (sends (opening ∷ [])) ∷ []

abbrev pub lent_open : Packet → List Entry
lent_open opening =
    plugged lender ++ asks 1 shell_requests ++ Send 1 (hears (open_packet true 1 (codes "shell:echo hi") ∷ [])) ∷ Put 1 (codes "OKAY")
    ∷ Recv 1 (sends (opening ∷ [])) ∷ Put 1 (codes "OKAY") ∷ []
