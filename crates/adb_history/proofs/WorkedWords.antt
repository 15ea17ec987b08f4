-- What the entries of worked histories say by themselves, computed from the definitions.
use Rattle.std.specs.Prelude.{◌≡◌, ◌++◌, true, false, List, [], ◌∷◌, codes, Some, None}
use Rattle.std.specs.Fmt.{digits}
use Rattle.std.proofs.Common.{refl}
use Rattle.adb_outside.specs.declared.kinds.Cause.TheVariants.{Eof}
use Rattle.adb_request.specs.Meaning.{meaning}
use Rattle.adb_wire.specs.Header.{word_at}
use Rattle.adb_banner.specs.Banner.{identity_of, last_value}
use Rattle.adb_reply.specs.declared.answer.Next.TheVariants.{Open}
use Rattle.std.specs.Map.{values_of}
use Rattle.adb_registry.specs.Lists.{short_list}
use Rattle.adb_forward.specs.Forwards.{forward_row}
use Rattle.adb_capture.specs.declared.entry.Entry.{Entry}
use Rattle.adb_capture.specs.declared.entry.Entry.TheVariants.{Enter, Read, End, Bound, Recv, Detach}
use Rattle.adb_history.specs.declared.ending.Ending.TheVariants.{ClientClosed, PeerClosed, OutOfTurn, Lost, Stopped}
use Rattle.adb_history.specs.Links.{server_cnxn, open_packet, okay_packet, write_packet, close_packet}
use Rattle.adb_history.specs.Machine.{History, state}
use Rattle.adb_history.specs.Bytes.{bytes_put, sent}
use Rattle.adb_history.specs.Book.{asked, devices, forwards, is_killed}
use Rattle.adb_history.specs.Births.{Birth, births, remote_of, told_to, told_before_close, handed_to}
use Rattle.adb_history.specs.Lives.{output_of, ending_of, rest_of, carried_of}
use Rattle.adb_history.specs.Drained.{drained_from}
use Rattle.adb_history.specs.Examples.{sends, pixel, plugs, asks, shell_comes}

-- a shell to which its client wrote, whose device wrote twice and closed
abbrev shell : History
shell = drained_from []
    (shell_comes ++ Read 1 (codes "abc") ∷ Recv 1 (sends (write_packet 7 1 (codes "hi") ∷ []))
    ∷ Recv 1 (sends (okay_packet 7 1 ∷ []))
    ∷ Recv 1 (sends (write_packet 7 1 (codes "!") ∷ close_packet 7 1 ∷ [])) ∷ [])

abbrev stream : Birth
stream = record { client = 1; link = 1; credit = false; forwarded = false; service = codes "shell:echo hi"; head = 40; packets_before = 1 }

what_it_asked : asked 1 shell
    ≡ record { replies = codes "OKAY"; used = 40; rest = []; selected = Some 1; next = Some (Open 1 (codes "shell:echo hi")) }
unfolding meaning word_at identity_of last_value
what_it_asked = refl

one_birth : births shell ≡ stream ∷ []
unfolding meaning word_at identity_of last_value
one_birth = refl

its_id_on_the_device : remote_of 1 stream shell ≡ 7
unfolding meaning word_at identity_of last_value
its_id_on_the_device = refl

what_its_client_wrote : rest_of 1 stream shell ≡ codes "abc"
unfolding meaning word_at identity_of last_value
what_its_client_wrote = refl

what_went_up : carried_of 1 stream shell ≡ codes "abc"
unfolding meaning word_at identity_of last_value
what_went_up = refl

what_its_device_wrote : told_to 1 stream shell ≡ codes "hi" ∷ codes "!" ∷ []
unfolding meaning word_at identity_of last_value
what_its_device_wrote = refl

what_its_device_wrote_before_it_closed : told_before_close 1 stream shell ≡ codes "hi" ∷ codes "!" ∷ []
unfolding meaning word_at identity_of last_value
what_its_device_wrote_before_it_closed = refl

what_was_handed : handed_to 1 stream shell ≡ codes "hi!"
unfolding meaning word_at identity_of last_value
what_was_handed = refl

what_its_client_was_put : bytes_put 1 shell ≡ codes "OKAYOKAYhi!"
unfolding meaning word_at identity_of last_value
what_its_client_was_put = refl

what_became_due_to_its_client : output_of 1 shell ≡ codes "OKAYOKAYhi!"
unfolding meaning word_at identity_of last_value
what_became_due_to_its_client = refl

how_it_ended : ending_of 1 shell ≡ Some PeerClosed
unfolding meaning word_at identity_of last_value
how_it_ended = refl

what_the_device_heard : sent 1 shell
    ≡ server_cnxn ∷ open_packet false 1 (codes "shell:echo hi") ∷ write_packet 1 7 (codes "abc") ∷ okay_packet 1 7 ∷ []
unfolding meaning word_at identity_of last_value
what_the_device_heard = refl

its_client_is_gone : (state shell).clients 1 ≡ None
unfolding meaning word_at identity_of last_value
its_client_is_gone = refl

-- the devices are those that the links brought
its_devices : short_list (values_of (devices shell).rows) ≡ codes "emu1" ++ 9 ∷ codes "device" ++ 10 ∷ []
unfolding meaning word_at identity_of last_value
its_devices = refl

-- a forward stands from the moment that its listener does, and goes with its device
abbrev forwarded : List Entry
forwarded = plugs (pixel 4096) ++ asks 1 (codes "0019host:forward:tcp:0;tcp:80") ++ Bound 1 40000 ∷ []

its_forward : forwards (drained_from [] forwarded) ≡ (40000, forward_row 40000 1 (codes "emu1") (codes "tcp:80")) ∷ []
unfolding meaning word_at identity_of last_value digits
its_forward = refl

no_forward_without_its_device : forwards (drained_from [] (forwarded ++ Detach 1 Eof ∷ [])) ≡ []
unfolding meaning word_at identity_of last_value digits
no_forward_without_its_device = refl

-- a stream through a forward is a birth of its own
born_through_a_forward : births (drained_from [] (forwarded ++ Enter 2 40000 ∷ []))
    ≡ record { client = 2; link = 1; credit = false; forwarded = true; service = codes "tcp:80"; head = 0; packets_before = 1 } ∷ []
unfolding meaning word_at identity_of last_value digits
born_through_a_forward = refl

-- ---- endings
ends_out_of_turn : ending_of 1
    (drained_from []
    (shell_comes ++ Recv 1 (sends (write_packet 7 1 (codes "a") ∷ write_packet 7 1 (codes "b") ∷ [])) ∷ []))
    ≡ Some OutOfTurn
unfolding meaning word_at identity_of last_value
ends_out_of_turn = refl

ends_by_its_client : ending_of 1 (drained_from [] (shell_comes ++ End 1 Eof ∷ [])) ≡ Some ClientClosed
unfolding meaning word_at identity_of last_value
ends_by_its_client = refl

ends_with_its_link : ending_of 1 (drained_from [] (shell_comes ++ Detach 1 Eof ∷ [])) ≡ Some Lost
unfolding meaning word_at identity_of last_value
ends_with_its_link = refl

ends_with_the_server : ending_of 1 (drained_from [] (shell_comes ++ asks 2 (codes "0009host:kill"))) ≡ Some Stopped
unfolding meaning word_at identity_of last_value
ends_with_the_server = refl

a_kill_stands : is_killed (drained_from [] (shell_comes ++ asks 2 (codes "0009host:kill"))) ≡ true
unfolding meaning word_at identity_of last_value
a_kill_stands = refl
