-- Histories that break one promise each: what a wrong server would do, or a world in which numbers are not drawn
-- once. None of them is legal.
use Rattle.std.specs.Prelude.{ℕ, List, [], ◌∷◌, ◌++◌, length, codes, reverse, replicate}
use Rattle.adb_outside.specs.declared.kinds.Kind.TheVariants.{Usb}
use Rattle.adb_outside.specs.declared.kinds.Cause.TheVariants.{Eof, Fault}
use Rattle.adb_wire.specs.Header.{header_bytes}
use Rattle.adb_wire.specs.declared.command.Command.TheVariants.{Wrte}
use Rattle.adb_capture.specs.declared.entry.Entry.{Entry}
use Rattle.adb_capture.specs.declared.entry.Entry.TheVariants.{Join, Enter, Read, End, Bound, Attach, Recv, Detach, Put, Send}
use Rattle.adb_history.specs.Links.{okay_packet, write_packet, close_packet}
use Rattle.adb_history.specs.Machine.{History}
use Rattle.adb_history.specs.Examples.{sends, hears, connect, pixel, hello, plugged, asks, shell_requests, shell_open}

-- a history told with its oldest entry first
abbrev pub so_far : List Entry → History
so_far entries = reverse entries

-- an open shell of client 1 and device 1, whose id of it is 7; and then these entries
abbrev pub in_shell : List Entry → History
in_shell entries = so_far (shell_open ++ entries)

-- the device wrote that
abbrev pub writes : List ℕ → Entry
writes payload = Recv 1 (sends (write_packet 7 1 payload ∷ []))

-- the server wrote that to the device
abbrev pub written : List ℕ → Entry
written payload = Send 1 (hears (write_packet 1 7 payload ∷ []))

-- The header of a write of a million bytes comes, and then another device is plugged in under the number of the link:
-- all that comes after is a part of that
-- write, but the server begins anew.
abbrev pub torn : List Entry
torn =
    Recv 1 (header_bytes (record { command = Wrte; arg0 = 7; arg1 = 1; length = 1000000; check = 0 })) ∷ Attach 1 Usb (codes "emu2") ∷ []

-- ---- fifo
-- no packet is sent to a link
abbrev pub sends_no_packet : History
sends_no_packet = in_shell (Send 1 (replicate 24 255) ∷ [])

-- a client's number is drawn twice, and it asks for a second stream
abbrev pub draws_a_number_twice : History
draws_a_number_twice = in_shell (asks 1 shell_requests)

-- a client's number is drawn twice, and the server forgets which device it selected: it asks none for the shell
abbrev pub forgets_the_device : History
forgets_the_device =
    so_far (plugged (pixel 4096) ++ asks 1 (codes "0013host:transport:emu1") ++ asks 1 (codes "000dshell:echo hi"))

-- a byte that came from a client does not go up
abbrev pub skips_a_byte : History
skips_a_byte = in_shell (Read 1 (codes "abc") ∷ written (codes "ac") ∷ [])

-- the end goes up though a byte did not
abbrev pub closes_with_a_byte_unsent : History
closes_with_a_byte_unsent =
    in_shell (Read 1 (codes "abc") ∷ written (codes "ab") ∷ Recv 1 (sends (okay_packet 7 1 ∷ [])) ∷ End 1 Eof
    ∷ Send 1 (hears (close_packet 1 7 ∷ [])) ∷ [])

-- the client closes, and an empty write goes up in the place of the end
abbrev pub writes_none_for_the_close : History
writes_none_for_the_close = in_shell (End 1 Eof ∷ written [] ∷ [])

-- a byte is handed out twice
abbrev pub hands_a_byte_twice : History
hands_a_byte_twice = in_shell (writes (codes "hi") ∷ Put 1 (codes "hh") ∷ [])

-- the device closes, and bytes that it wrote before are not handed out
abbrev pub drops_at_close : History
drops_at_close =
    in_shell (Recv 1
    (header_bytes (record { command = Wrte; arg0 = 7; arg1 = 1; length = 5; check = 0 }) ++ codes "ab")
    ∷ Attach 1 Usb (codes "emu1")
    ∷ Recv 1 (sends (close_packet 7 1 ∷ [])) ∷ [])

-- a second write goes up before the first was acknowledged
abbrev pub second_write_before_okay : History
second_write_before_okay = in_shell (Read 1 (codes "ab") ∷ written (codes "a") ∷ written (codes "b") ∷ [])

-- a write is acknowledged before its client was handed it
abbrev pub acks_on_arrival : History
acks_on_arrival = in_shell (writes (codes "hi") ∷ Send 1 (hears (okay_packet 1 7 ∷ [])) ∷ [])

-- a write goes to another link
abbrev pub writes_to_another_link : History
writes_to_another_link =
    in_shell (Attach 2 Usb (codes "emu2") ∷ Send 2 hello ∷ Read 1 (codes "a") ∷ Send 2 (hears (write_packet 1 7 (codes "a") ∷ [])) ∷ [])

-- ---- causes
-- a stream ends by its client though its write was never acknowledged
abbrev pub ends_with_a_write_outstanding : History
ends_with_a_write_outstanding = in_shell (torn ++ Read 1 (codes "a") ∷ End 1 Eof ∷ Recv 1 (sends (okay_packet 7 1 ∷ [])) ∷ [])

-- a stream ends by its device that did not close it
abbrev pub ends_without_a_close : History
ends_without_a_close = in_shell (torn ++ Recv 1 (sends (close_packet 7 1 ∷ [])) ∷ [])

-- a stream ends out of turn, with no write
abbrev pub ends_in_turn : History
ends_in_turn = in_shell (torn ++ writes (codes "a") ∷ writes (codes "b") ∷ [])

-- a stream ends with its link, which stays as it was
abbrev pub ends_with_a_link_that_stays : History
ends_with_a_link_that_stays = in_shell (torn ++ Recv 1 (sends (pixel 4096 ∷ [])) ∷ [])

-- a stream ends with a link that is not broken
abbrev pub ends_with_a_link_unbroken : History
ends_with_a_link_unbroken = in_shell (torn ++ Recv 1 (sends (connect 1 4096 (codes "device::") ∷ [])) ∷ [])

-- the bytes of a link are torn before its device says who it is: the server has a device, and its bytes say none
abbrev pub torn_at_first : List Entry
torn_at_first = Attach 1 Usb (codes "emu1") ∷ torn ++ Recv 1 (sends (pixel 4096 ∷ [])) ∷ []

-- a stream that was not born ends with its client
abbrev pub ends_unborn_with_its_client : History
ends_unborn_with_its_client = so_far (torn_at_first ++ asks 1 shell_requests ++ End 1 Fault ∷ [])

-- a stream that was not born ends with the server
abbrev pub ends_unborn_with_the_server : History
ends_unborn_with_the_server = so_far (torn_at_first ++ asks 1 shell_requests ++ asks 2 (codes "0009host:kill"))

-- a stream outlives the failure of its client
abbrev pub outlives_its_client : History
outlives_its_client = in_shell (Join 1 ∷ End 1 Fault ∷ [])

-- ---- answered
-- a reply from an older list of the devices
abbrev pub stale_device_list : History
stale_device_list = so_far (plugged (pixel 4096) ++ asks 1 (codes "000chost:devices") ++ Put 1 (codes "OKAY0000") ∷ [])

-- a listener stands, and its client is told nothing
abbrev pub keeps_a_listener_secret : History
keeps_a_listener_secret =
    so_far (plugged (pixel 4096) ++ asks 1 (codes "0019host:forward:tcp:0;tcp:80") ++ Join 1 ∷ Bound 1 40000 ∷ [])

-- a device that is there is refused
abbrev pub refuses_a_device : History
refuses_a_device =
    so_far (plugged (pixel 4096) ++ torn ++ Recv 1 (sends (connect 1 4096 (codes "device::") ∷ []))
    ∷ asks 1 (codes "0013host:transport:emu2000dshell:echo hi"))

-- a tracker is handed a byte too many, and then a list that was not due
abbrev pub lists_too_early : History
lists_too_early =
    so_far (asks 1 (codes "0012host:track-devices") ++ Put 1 (codes "OKAY0000x") ∷ Attach 1 Usb (codes "emu1") ∷ Put 1 (codes "0") ∷ [])

-- a tracker is not handed the list without the device that was lost
abbrev pub misses_a_list : History
misses_a_list =
    so_far (plugged (pixel 4096) ++ asks 1 (codes "0012host:track-devices")
    ++ Put 1 (codes "OKAY000cemu1" ++ 9 ∷ codes "device" ++ 10 ∷ []) ∷ torn
    ++ Recv 1 (sends (connect 1 4096 (codes "device::") ∷ []))
    ∷ Put 1 (codes "000demu2" ++ 9 ∷ codes "offline" ++ 10 ∷ []) ∷ Detach 1 Eof ∷ [])

-- a request is answered though its client was closed before
abbrev pub answers_after_close : History
answers_after_close = so_far (asks 1 (codes "000Chost:version") ++ asks 1 (codes "000Chost:version"))

-- a client that came through a forward is handed what its device did not write
abbrev pub hands_what_was_not_written : History
hands_what_was_not_written =
    so_far (plugged (pixel 4096) ++ asks 1 (codes "0019host:forward:tcp:0;tcp:80") ++ Bound 1 40000 ∷ Enter 2 40000
    ∷ Recv 1 (sends (okay_packet 7 1 ∷ [])) ∷ torn ++ writes (codes "x") ∷ [])

-- the header of a write of so many bytes comes, then another device is plugged in under the number of the link, and
-- then the bytes: the device wrote them,
-- and the server knows of no write
abbrev pub missed : List ℕ → List Entry
missed payload =
    Recv 1 (header_bytes (record { command = Wrte; arg0 = 7; arg1 = 1; length = length payload; check = 0 })) ∷ Attach 1 Usb (codes "emu2")
    ∷ Recv 1 payload ∷ []

-- a stream lives, its device wrote `hi`, and `h` alone becomes due
abbrev pub withholds_a_byte : History
withholds_a_byte = in_shell (writes (codes "h") ∷ missed (codes "i"))

-- and then its link is lost
abbrev pub withholds_until_loss : History
withholds_until_loss = in_shell (writes (codes "h") ∷ missed (codes "i") ++ Detach 1 Eof ∷ [])

-- the stream of a client that came through a forward lives, its device wrote `hi`, and nothing becomes due
abbrev pub withholds_all : History
withholds_all =
    so_far (plugged (pixel 4096) ++ asks 1 (codes "0019host:forward:tcp:0;tcp:80") ++ Bound 1 40000 ∷ Enter 2 40000
    ∷ Recv 1 (sends (okay_packet 7 1 ∷ [])) ∷ missed (codes "hi"))
