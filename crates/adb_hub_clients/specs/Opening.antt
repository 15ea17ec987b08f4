-- A stream that is drawn, and what follows.
use Rattle.std.specs.Prelude.{ℕ, ◌+◌, ◌≡◌, ◌≢◌, List, Option, Some, None}
use Rattle.adb_client.specs.declared.phase.Phase.TheVariants.{Opening}
use Rattle.adb_history.specs.Rows.{State, to_client, in_phase}
use Rattle.adb_history.specs.Links.{open_packet, owe_link, is_credit}
use Rattle.adb_history.specs.Streams.{draw, no_ids_left, stream_ids}
use Rattle.adb_hub_clients.specs.declared.opening.Asker.{Asker}

-- This is the next id, where one is left.
abbrev pub IsNextId : Option ℕ → State → Type 0
IsNextId None s = s.drawn ≡ stream_ids
IsNextId (Some id) s = (s.drawn ≢ stream_ids) × (id ≡ s.drawn + 1)

-- the stream of an id is drawn, where there is one
abbrev pub drawn_for : Option ℕ → Asker → State → State
drawn_for None asker s = s
drawn_for (Some id) asker s = draw (is_credit asker.link s.devices) asker.client asker.link s

-- a device is asked for the stream of an id; where there is none, its client is told so
abbrev pub asked_for : Option ℕ → Asker → List ℕ → State → State
asked_for None asker service s = (no_ids_left asker.forwarded asker.client s).state
asked_for (Some id) asker service s =
    (owe_link asker.link (open_packet (is_credit asker.link s.devices) id service) (to_client asker.client (in_phase (Opening id)) s)).state
