-- Clients, devices and lists, worked by hand: what is drained is computed from the definitions.
use Rattle.std.specs.Prelude.{ℕ, ◌≡◌, List, [], ◌∷◌, ◌++◌, codes, take, false}
use Rattle.std.specs.Fmt.{digits}
use Rattle.std.proofs.Common.{refl}
use Rattle.adb_outside.specs.declared.kinds.Kind.TheVariants.{Usb, Local}
use Rattle.adb_outside.specs.declared.kinds.Cause.TheVariants.{Eof}
use Rattle.adb_request.specs.Meaning.{meaning}
use Rattle.adb_wire.specs.Header.{word_at}
use Rattle.adb_wire.specs.Packet.{spelling}
use Rattle.adb_wire.specs.declared.packets.Packet.{Packet}
use Rattle.adb_wire.specs.declared.command.Command.TheVariants.{Open, Auth}
use Rattle.adb_banner.specs.Banner.{identity_of, last_value}
use Rattle.adb_capture.specs.declared.entry.Entry.TheVariants.{Join, Enter, Read, Bound, Attach, Recv, Detach, Put, Send}
use Rattle.adb_history.specs.Links.{open_packet, close_packet}
use Rattle.adb_history.specs.Drained.{drained}
use Rattle.adb_history.specs.Examples.{sends, hears, pixel, hello, plugs, plugged, asks}

empty_history : drained [] ≡ []
empty_history = refl

version_answered : drained (asks 1 (codes "000Chost:version")) ≡ asks 1 (codes "000Chost:version") ++ Put 1 (codes "OKAY00040029") ∷ []
unfolding meaning
version_answered = refl

version_in_pieces : drained (Join 1 ∷ Read 1 (codes "000Chost:v") ∷ Read 1 (codes "ersion") ∷ [])
    ≡ Join 1 ∷ Read 1 (codes "000Chost:v") ∷ Read 1 (codes "ersion") ∷ Put 1 (codes "OKAY00040029") ∷ []
unfolding meaning
version_in_pieces = refl

no_devices_listed : drained (asks 1 (codes "000chost:devices")) ≡ asks 1 (codes "000chost:devices") ++ Put 1 (codes "OKAY0000") ∷ []
unfolding meaning
no_devices_listed = refl

one_device_listed : drained (plugs (pixel 262144) ++ asks 1 (codes "000chost:devices"))
    ≡ plugged (pixel 262144) ++ asks 1 (codes "000chost:devices") ++ Put 1 (codes "OKAY000cemu1" ++ 9 ∷ codes "device" ++ 10 ∷ []) ∷ []
unfolding meaning word_at identity_of last_value
one_device_listed = refl

unknown_serial_refused : drained (asks 1 (codes "0010host:transport:x"))
    ≡ asks 1 (codes "0010host:transport:x") ++ Put 1 (codes "FAIL0014device 'x' not found") ∷ []
unfolding meaning
unknown_serial_refused = refl

-- any of two devices is refused, and a serial with colons finds its own
any_of_two_refused :
    drained (plugs (pixel 4096) ++ Attach 2 Local (codes "127.0.0.1:5555") ∷ Recv 2 (sends (pixel 4096 ∷ []))
    ∷ asks 1 (codes "0012host:transport-any"))
    ≡ plugged (pixel 4096) ++ Attach 2 Local (codes "127.0.0.1:5555") ∷ Send 2 hello ∷ Recv 2 (sends (pixel 4096 ∷ []))
    ∷ asks 1 (codes "0012host:transport-any") ++ Put 1 (codes "FAIL001dmore than one device/emulator") ∷ []
unfolding meaning word_at identity_of last_value
any_of_two_refused = refl

serial_with_a_colon : drained (Attach 1 Local (codes "a:5") ∷ asks 1 (codes "0019host-serial:a:5:get-state"))
    ≡ Attach 1 Local (codes "a:5") ∷ Send 1 hello ∷ asks 1 (codes "0019host-serial:a:5:get-state") ++ Put 1 (codes "OKAY0007offline") ∷ []
unfolding meaning
serial_with_a_colon = refl

transport_id_told : drained (plugs (pixel 4096) ++ asks 1 (codes "000ehost:tport:any"))
    ≡ plugged (pixel 4096) ++ asks 1 (codes "000ehost:tport:any") ++ Put 1 (codes "OKAY" ++ 1 ∷ 0 ∷ 0 ∷ 0 ∷ 0 ∷ 0 ∷ 0 ∷ 0 ∷ []) ∷ []
unfolding meaning word_at identity_of last_value
transport_id_told = refl

long_list_line : drained (plugs (pixel 4096) ++ asks 1 (codes "000ehost:devices-l"))
    ≡ plugged (pixel 4096) ++ asks 1 (codes "000ehost:devices-l")
    ++ Put 1 (codes "OKAY0039emu1                   device model:Pix_3 transport_id:1" ++ 10 ∷ []) ∷ []
unfolding meaning word_at identity_of last_value digits
long_list_line = refl

-- clients 1 and 2 are gone without a reply, client 3 still asks, and client 4 is told
malformed_requests_close :
    drained (asks 1 (codes "zzzz") ++ asks 2 (codes "0000") ++ asks 3 (codes "00") ++ asks 4 (codes "0009host:nope")
    ++ Read 1 (codes "000Chost:version") ∷ [])
    ≡ asks 1 (codes "zzzz") ++ asks 2 (codes "0000") ++ asks 3 (codes "00") ++ asks 4 (codes "0009host:nope")
    ++ Put 4 (codes "FAIL0014unknown host service") ∷ Read 1 (codes "000Chost:version") ∷ []
unfolding meaning
malformed_requests_close = refl

service_without_device : drained (asks 1 (codes "000dshell:echo hi"))
    ≡ asks 1 (codes "000dshell:echo hi") ++ Put 1 (codes "FAIL001ddevice offline (no transport)") ∷ []
unfolding meaning
service_without_device = refl

-- a device that asks for a signature is unauthorized
abbrev login : Packet
login = record { command = Auth; arg0 = 1; arg1 = 0; payload = take 20 (codes "aaaaaaaaaaaaaaaaaaaaaaaa") }

unauthorized_device :
    drained (Attach 1 Usb (codes "emu1") ∷ Recv 1 (sends (login ∷ [])) ∷ asks 1 (codes "000chost:devices")
    ++ asks 2 (codes "0012host:transport-any"))
    ≡ Attach 1 Usb (codes "emu1") ∷ Send 1 hello ∷ Recv 1 (sends (login ∷ [])) ∷ asks 1 (codes "000chost:devices")
    ++ Put 1 (codes "OKAY0012emu1" ++ 9 ∷ codes "unauthorized" ++ 10 ∷ []) ∷ asks 2 (codes "0012host:transport-any")
    ++ Put 2 (codes "FAIL0013device unauthorized") ∷ []
unfolding meaning word_at
unauthorized_device = refl

-- what a device opens is refused
abbrev jdwp : Packet
jdwp = record { command = Open; arg0 = 5; arg1 = 0; payload = codes "jdwp" ++ 0 ∷ [] }

device_open_refused : drained (plugs (pixel 4096) ++ Recv 1 (sends (jdwp ∷ [])) ∷ [])
    ≡ plugged (pixel 4096) ++ Recv 1 (sends (jdwp ∷ [])) ∷ Send 1 (hears (close_packet 0 5 ∷ [])) ∷ []
unfolding word_at identity_of last_value
device_open_refused = refl

-- ---- trackers
-- one header with its lowest bit of the magic wrong
abbrev wrong_magic : List ℕ
wrong_magic = take 20 (spelling (close_packet 7 1) 0) ++ 189 ∷ 179 ∷ 172 ∷ 186 ∷ []

broken_link_leaves_list : drained
    (plugs (pixel 4096) ++ asks 1 (codes "0012host:track-devices") ++ Recv 1 wrong_magic ∷ Recv 1 (codes "more") ∷ [])
    ≡ plugged (pixel 4096) ++ asks 1 (codes "0012host:track-devices") ++ Put 1 (codes "OKAY000cemu1" ++ 9 ∷ codes "device" ++ 10 ∷ [])
    ∷ Recv 1 wrong_magic ∷ Put 1 (codes "0000") ∷ Recv 1 (codes "more") ∷ []
unfolding meaning word_at identity_of last_value
broken_link_leaves_list = refl

tracker_gets_newest_list : drained (asks 1 (codes "0012host:track-devices") ++ plugs (pixel 4096) ++ Detach 1 Eof ∷ [])
    ≡ asks 1 (codes "0012host:track-devices") ++ Put 1 (codes "OKAY0000") ∷ Attach 1 Usb (codes "emu1") ∷ Send 1 hello
    ∷ Put 1 (codes "000demu1" ++ 9 ∷ codes "offline" ++ 10 ∷ []) ∷ Recv 1 (sends (pixel 4096 ∷ []))
    ∷ Put 1 (codes "000cemu1" ++ 9 ∷ codes "device" ++ 10 ∷ []) ∷ Detach 1 Eof ∷ Put 1 (codes "0000") ∷ []
unfolding meaning word_at identity_of last_value
tracker_gets_newest_list = refl

-- ---- forwards
forward_to_any_port :
    drained (plugs (pixel 4096) ++ asks 1 (codes "0019host:forward:tcp:0;tcp:80") ++ Bound 1 40000
    ∷ asks 2 (codes "0026host:forward:norebind:tcp:40000;tcp:81") ++ asks 3 (codes "0011host:list-forward") ++ Enter 4 40000 ∷ Detach 1 Eof
    ∷ asks 5 (codes "0011host:list-forward"))
    ≡ plugged (pixel 4096) ++ asks 1 (codes "0019host:forward:tcp:0;tcp:80") ++ Bound 1 40000 ∷ Put 1 (codes "OKAYOKAY000540000")
    ∷ asks 2 (codes "0026host:forward:norebind:tcp:40000;tcp:81") ++ Put 2 (codes "FAIL001dcannot rebind existing socket")
    ∷ asks 3 (codes "0011host:list-forward") ++ Put 3 (codes "OKAY0016emu1 tcp:40000 tcp:80" ++ 10 ∷ [])
    ∷ Enter 4 40000 ∷ Send 1 (hears (open_packet false 1 (codes "tcp:80") ∷ [])) ∷ Detach 1 Eof
    ∷ asks 5 (codes "0011host:list-forward") ++ Put 5 (codes "OKAY0000") ∷ []
unfolding meaning word_at identity_of last_value digits
forward_to_any_port = refl
