-- Totals of worked histories, computed from the definitions.
use Rattle.std.specs.Prelude.{◌≡◌, [], ◌∷◌, ◌++◌, codes, replicate}
use Rattle.std.specs.Fmt.{digits}
use Rattle.std.proofs.Common.{refl}
use Rattle.adb_request.specs.Meaning.{meaning}
use Rattle.adb_wire.specs.Header.{word_at}
use Rattle.adb_banner.specs.Banner.{identity_of, last_value}
use Rattle.adb_capture.specs.declared.entry.Entry.TheVariants.{Read, Recv}
use Rattle.adb_history.specs.Links.{okay_packet, write_packet, close_packet}
use Rattle.adb_history.specs.Machine.{History}
use Rattle.adb_history.specs.Drained.{drained_from}
use Rattle.adb_history.specs.Examples.{sends, pixel, plugs, asks, shell_requests, shell_comes}
use Rattle.adb_load.specs.Course.{Progress, turn}
use Rattle.adb_load.specs.Load.{entries_of, acts_ahead, acts_of_turns}
use Rattle.adb_laws_loads.specs.Totals.{up_of, down_of, past_leads}

-- a shell whose device writes 3 bytes, and whose client writes 4,097
abbrev spoken : History
spoken =
    drained_from []
    (shell_comes ++ Recv 1 (sends (write_packet 7 1 (codes "abc") ∷ [])) ∷ Read 1 (replicate 4097 97)
    ∷ Recv 1 (sends (okay_packet 7 1 ∷ [])) ∷ [])

spoken_up : up_of spoken ≡ 4097
unfolding meaning word_at identity_of last_value
spoken_up = refl

spoken_down : down_of spoken ≡ 3
unfolding meaning word_at identity_of last_value
spoken_down = refl

spoken_past : past_leads spoken ≡ 3
unfolding meaning word_at identity_of last_value
spoken_past = refl

-- Where a device refuses a stream, 18 bytes are put to the client, and the device wrote none of them.
abbrev refused : History
refused = drained_from [] (plugs (pixel 4096) ++ asks 1 shell_requests ++ Recv 1 (sends (close_packet 0 1 ∷ [])) ∷ [])

refused_down : down_of refused ≡ 0
unfolding meaning word_at identity_of last_value
refused_down = refl

refused_past : past_leads refused ≡ 10
unfolding meaning word_at identity_of last_value
refused_past = refl

-- a whole load of one stream, by some words: 8,000 bytes go up, and 10,000 come down
abbrev one_stream : Progress
one_stream = record { plugged = 0; streams = 1; begun = 0; live = []; words = record { state = 1; increment = 5 } }

abbrev loaded : History
loaded = drained_from [] (entries_of (acts_ahead one_stream))

loaded_up : up_of loaded ≡ 8000
unfolding meaning word_at identity_of last_value digits turn acts_ahead acts_of_turns
loaded_up = refl

loaded_down : down_of loaded ≡ 10000
unfolding meaning word_at identity_of last_value digits turn acts_ahead acts_of_turns
loaded_down = refl

loaded_past : past_leads loaded ≡ 10000
unfolding meaning word_at identity_of last_value digits turn acts_ahead acts_of_turns
loaded_past = refl
