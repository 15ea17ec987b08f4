-- Streams, worked by hand: what is drained is computed from the definitions.
use Rattle.std.specs.Prelude.{ℕ, ◌≡◌, List, [], ◌∷◌, ◌++◌, codes, take, replicate, false}
use Rattle.std.proofs.Common.{refl}
use Rattle.adb_outside.specs.declared.kinds.Kind.TheVariants.{Usb}
use Rattle.adb_outside.specs.declared.kinds.Cause.TheVariants.{Eof, Fault}
use Rattle.adb_request.specs.Meaning.{meaning}
use Rattle.adb_wire.specs.Header.{word_at}
use Rattle.adb_wire.specs.Packet.{spelling}
use Rattle.adb_wire.specs.declared.packets.Packet.{Packet}
use Rattle.adb_banner.specs.Banner.{identity_of, last_value}
use Rattle.adb_capture.specs.declared.entry.Entry.{Entry}
use Rattle.adb_capture.specs.declared.entry.Entry.TheVariants.{Read, End, Attach, Recv, Detach, Put, Send}
use Rattle.adb_history.specs.Links.{open_packet, okay_packet, credit_packet, write_packet, close_packet}
use Rattle.adb_history.specs.Drained.{drained}
use Rattle.adb_history.specs.Examples.{sends, hears, connect, pixel, hello, plugs, plugged, asks, shell_requests, opens_shell, shell_comes}
use Rattle.adb_history.specs.Examples.{shell_open}
use Rattle.adb_history.specs.Examples.{lent_comes, lent_open}

-- ---- a window of one write
shell_stream_up_to_close :
    drained (plugs (pixel 4096) ++ asks 1 shell_requests
    ++ Recv 1 (sends (okay_packet 7 1 ∷ write_packet 7 1 (codes "hi" ++ 10 ∷ []) ∷ close_packet 7 1 ∷ [])) ∷ [])
    ≡ plugged (pixel 4096) ++ asks 1 shell_requests ++ opens_shell
    ++ Recv 1 (sends (okay_packet 7 1 ∷ write_packet 7 1 (codes "hi" ++ 10 ∷ []) ∷ close_packet 7 1 ∷ []))
    ∷ Put 1 (codes "OKAYhi" ++ 10 ∷ []) ∷ []
unfolding meaning word_at identity_of last_value
shell_stream_up_to_close = refl

open_refused_by_device : drained (plugs (pixel 4096) ++ asks 1 shell_requests ++ Recv 1 (sends (close_packet 0 1 ∷ [])) ∷ [])
    ≡ plugged (pixel 4096) ++ asks 1 shell_requests ++ opens_shell ++ Recv 1 (sends (close_packet 0 1 ∷ []))
    ∷ Put 1 (codes "FAIL0006closed") ∷ []
unfolding meaning word_at identity_of last_value
open_refused_by_device = refl

-- 4,097 bytes go up in two writes, the second when the first was acknowledged; a further OKAY gives nothing
one_write_outstanding :
    drained (shell_comes ++ Read 1 (replicate 4097 97) ∷ Recv 1 (sends (okay_packet 7 1 ∷ [])) ∷ Recv 1 (sends (okay_packet 7 1 ∷ []))
    ∷ Recv 1 (sends (okay_packet 7 1 ∷ [])) ∷ [])
    ≡ shell_open ++ Read 1 (replicate 4097 97) ∷ Send 1 (hears (write_packet 1 7 (replicate 4096 97) ∷ []))
    ∷ Recv 1 (sends (okay_packet 7 1 ∷ [])) ∷ Send 1 (hears (write_packet 1 7 (97 ∷ []) ∷ []))
    ∷ Recv 1 (sends (okay_packet 7 1 ∷ [])) ∷ Recv 1 (sends (okay_packet 7 1 ∷ [])) ∷ []
unfolding meaning word_at identity_of last_value
one_write_outstanding = refl

-- a write on another link to a stream's id is nothing
same_remote_id_on_two_links :
    drained (plugs (pixel 4096) ++ Attach 2 Usb (codes "emu2") ∷ Recv 2 (sends (pixel 4096 ∷ [])) ∷ asks 1 shell_requests
    ++ asks 2 (codes "0013host:transport:emu2000dshell:echo hi") ++ Recv 1 (sends (okay_packet 7 1 ∷ []))
    ∷ Recv 2 (sends (okay_packet 7 2 ∷ []))
    ∷ Recv 2 (sends (write_packet 7 1 (codes "x") ∷ [])) ∷ Recv 2 (sends (write_packet 7 2 (codes "x") ∷ [])) ∷ [])
    ≡ plugged (pixel 4096) ++ Attach 2 Usb (codes "emu2") ∷ Send 2 hello ∷ Recv 2 (sends (pixel 4096 ∷ []))
    ∷ asks 1 shell_requests ++ opens_shell
    ++ asks 2 (codes "0013host:transport:emu2000dshell:echo hi")
    ++ Send 2 (hears (open_packet false 2 (codes "shell:echo hi") ∷ [])) ∷ Put 2 (codes "OKAY")
    ∷ Recv 1 (sends (okay_packet 7 1 ∷ [])) ∷ Put 1 (codes "OKAY") ∷ Recv 2 (sends (okay_packet 7 2 ∷ [])) ∷ Put 2 (codes "OKAY")
    ∷ Recv 2 (sends (write_packet 7 1 (codes "x") ∷ [])) ∷ Recv 2 (sends (write_packet 7 2 (codes "x") ∷ []))
    ∷ Put 2 (codes "x") ∷ Send 2 (hears (okay_packet 2 7 ∷ [])) ∷ []
unfolding meaning word_at identity_of last_value
same_remote_id_on_two_links = refl

write_out_of_turn : drained (shell_comes ++ Recv 1 (sends (write_packet 7 1 (codes "a") ∷ write_packet 7 1 (codes "b") ∷ [])) ∷ [])
    ≡ shell_open ++ Recv 1 (sends (write_packet 7 1 (codes "a") ∷ write_packet 7 1 (codes "b") ∷ []))
    ∷ Send 1 (hears (close_packet 1 7 ∷ [])) ∷ Put 1 (codes "a") ∷ []
unfolding meaning word_at identity_of last_value
write_out_of_turn = refl

-- the end of a client's input waits until all that it wrote went up
eof_waits_for_unsent :
    drained (plugs (pixel 4096) ++ asks 1 shell_requests ++ Read 1 (replicate 5000 98) ∷ End 1 Eof ∷ Recv 1 (sends (okay_packet 7 1 ∷ []))
    ∷ Recv 1 (sends (okay_packet 7 1 ∷ [])) ∷ Recv 1 (sends (okay_packet 7 1 ∷ [])) ∷ [])
    ≡ plugged (pixel 4096) ++ asks 1 shell_requests ++ opens_shell ++ Read 1 (replicate 5000 98) ∷ End 1 Eof
    ∷ Recv 1 (sends (okay_packet 7 1 ∷ [])) ∷ Send 1 (hears (write_packet 1 7 (replicate 4096 98) ∷ [])) ∷ Put 1 (codes "OKAY")
    ∷ Recv 1 (sends (okay_packet 7 1 ∷ [])) ∷ Send 1 (hears (write_packet 1 7 (replicate 904 98) ∷ []))
    ∷ Recv 1 (sends (okay_packet 7 1 ∷ [])) ∷ Send 1 (hears (close_packet 1 7 ∷ [])) ∷ []
unfolding meaning word_at identity_of last_value
eof_waits_for_unsent = refl

-- a write is handed out though 23 bytes of a header came behind it, and then the link is lost
abbrev write_and_a_part : List ℕ
write_and_a_part = sends (write_packet 7 1 (codes "ab") ∷ []) ++ take 23 (sends (close_packet 7 1 ∷ []))

lost_in_a_header : drained (shell_comes ++ Recv 1 write_and_a_part ∷ Detach 1 Eof ∷ [])
    ≡ shell_open ++ Recv 1 write_and_a_part ∷ Put 1 (codes "ab") ∷ Send 1 (hears (okay_packet 1 7 ∷ [])) ∷ Detach 1 Eof ∷ []
unfolding meaning word_at identity_of last_value
lost_in_a_header = refl

-- an orphan is closed as soon as its device has told its id
orphan_closed : drained (plugs (pixel 4096) ++ asks 1 shell_requests ++ End 1 Fault ∷ Recv 1 (sends (okay_packet 7 1 ∷ [])) ∷ [])
    ≡ plugged (pixel 4096) ++ asks 1 shell_requests ++ opens_shell ++ End 1 Fault ∷ Recv 1 (sends (okay_packet 7 1 ∷ []))
    ∷ Send 1 (hears (close_packet 1 7 ∷ [])) ∷ []
unfolding meaning word_at identity_of last_value
orphan_closed = refl

kill_stops_all : drained (shell_comes ++ asks 2 (codes "0009host:kill"))
    ≡ shell_open ++ asks 2 (codes "0009host:kill") ++ Put 2 (codes "OKAY") ∷ []
unfolding meaning word_at identity_of last_value
kill_stops_all = refl

-- on a link of the older version check words are wanted both ways: one that is wrong breaks the link
abbrev old_pixel : Packet
old_pixel = connect 0x01000000 4096 (codes "device::")

abbrev open_with_sum : List ℕ
open_with_sum = spelling (open_packet false 1 (codes "shell:echo hi")) 1250

sum_wanted_on_old_link :
    drained (plugs old_pixel ++ asks 1 shell_requests ++ Recv 1 (sends (okay_packet 7 1 ∷ []))
    ∷ Recv 1 (spelling (write_packet 7 1 (codes "hi" ++ 10 ∷ [])) 0xda) ∷ [])
    ≡ plugged old_pixel ++ asks 1 shell_requests ++ Send 1 open_with_sum ∷ Put 1 (codes "OKAY") ∷ Recv 1 (sends (okay_packet 7 1 ∷ []))
    ∷ Put 1 (codes "OKAY") ∷ Recv 1 (spelling (write_packet 7 1 (codes "hi" ++ 10 ∷ [])) 0xda) ∷ []
unfolding meaning word_at identity_of last_value
sum_wanted_on_old_link = refl

-- ---- credit
credit_up :
    drained (lent_comes (credit_packet 7 1 8000) ++ Read 1 (replicate 10000 99)
    ∷ Recv 1 (sends (credit_packet 7 1 2000 ∷ [])) ∷ End 1 Eof ∷ [])
    ≡ lent_open (credit_packet 7 1 8000) ++ Read 1 (replicate 10000 99)
    ∷ Send 1 (hears (write_packet 1 7 (replicate 4096 99) ∷ write_packet 1 7 (replicate 3904 99) ∷ []))
    ∷ Recv 1 (sends (credit_packet 7 1 2000 ∷ [])) ∷ Send 1 (hears (write_packet 1 7 (replicate 2000 99) ∷ []))
    ∷ End 1 Eof ∷ Send 1 (hears (close_packet 1 7 ∷ [])) ∷ []
unfolding meaning word_at identity_of last_value
credit_up = refl

credit_two_writes :
    drained (lent_comes (credit_packet 7 1 8000) ++ Recv 1 (sends (write_packet 7 1 (codes "a") ∷ write_packet 7 1 (codes "b") ∷ [])) ∷ [])
    ≡ lent_open (credit_packet 7 1 8000) ++ Recv 1 (sends (write_packet 7 1 (codes "a") ∷ write_packet 7 1 (codes "b") ∷ []))
    ∷ Put 1 (codes "ab") ∷ Send 1 (hears (credit_packet 1 7 2 ∷ [])) ∷ []
unfolding meaning word_at identity_of last_value
credit_two_writes = refl

-- a device may write a whole window of credit, which it is given back as its client takes it, and not a byte more
abbrev takes_a_quarter : List Entry
takes_a_quarter = Put 1 (replicate 65536 98) ∷ Send 1 (hears (credit_packet 1 7 65536 ∷ [])) ∷ []

whole_window :
    drained (lent_comes (credit_packet 7 1 8000) ++ Recv 1 (sends (write_packet 7 1 (replicate 262144 98) ∷ [])) ∷ [])
    ≡ lent_open (credit_packet 7 1 8000) ++ Recv 1 (sends (write_packet 7 1 (replicate 262144 98) ∷ []))
    ∷ takes_a_quarter ++ takes_a_quarter ++ takes_a_quarter ++ takes_a_quarter
unfolding meaning word_at identity_of last_value
whole_window = refl

past_the_window :
    drained (lent_comes (credit_packet 7 1 8000) ++ Recv 1 (sends (write_packet 7 1 (replicate 262145 98) ∷ [])) ∷ [])
    ≡ lent_open (credit_packet 7 1 8000) ++ Recv 1 (sends (write_packet 7 1 (replicate 262145 98) ∷ []))
    ∷ Send 1 (hears (close_packet 1 7 ∷ [])) ∷ []
unfolding meaning word_at identity_of last_value
past_the_window = refl
