-- What the packets of a server cost that no payload pays.
use Rattle.std.specs.Prelude.{ℕ, ◌+◌, ◌*◌, ◌≢◌, ◌≤◌, All, List, [], ◌∷◌, ◌++◌, length, Option, Some, None}
use Rattle.adb_outside.specs.Tables.{Rows}
use Rattle.adb_wire.specs.declared.command.Command.{Command}
use Rattle.adb_wire.specs.declared.command.Command.TheVariants.{Cnxn, Open, Okay, Wrte, Clse, Auth, Stls}
use Rattle.adb_wire.specs.declared.packets.Packet.{Packet}
use Rattle.adb_stream.specs.declared.row.Stream.{Stream}
use Rattle.adb_capture.specs.declared.entry.Entry.TheVariants.{Put}
use Rattle.adb_history.specs.Events.{Event, due_to_client, due_to_link, ended}
use Rattle.adb_history.specs.Machine.{History, state, told}
use Rattle.adb_history.specs.Book.{plugged_count}
use Rattle.adb_history.specs.Bytes.{brought}
use Rattle.adb_laws_steps.specs.Sums.{sum_to}

-- the bytes of a packet; a WRTE pays for its own by those that it carries, and where it carries none costs the OKAY
-- too that answers it; an OPEN is paid by
-- its stream
abbrev pub toll : Command → List ℕ → ℕ
toll Open payload = 0
toll Wrte [] = 52
toll Wrte (b ∷ payload) = 0
toll Okay payload = 24 + length payload
toll Clse payload = 24 + length payload
toll Cnxn payload = 24 + length payload
toll Auth payload = 24 + length payload
toll Stls payload = 24 + length payload

-- the tolls of all packets that became due
abbrev pub tolls : List Event → ℕ
tolls [] = 0
tolls (due_to_client client bytes ∷ events) = tolls events
tolls (due_to_link link packet check ∷ events) = toll packet.command packet.payload + tolls events
tolls (ended stream ending ∷ events) = tolls events

-- a stream that lives has its CLSE still to come
abbrev pub close_toll : Option Stream → ℕ
close_toll None = 0
close_toll (Some stream) = 24

abbrev pub close_tolls : Rows (Option Stream) → ℕ → ℕ
close_tolls streams drawn = sum_to (λ l. close_toll (streams l)) drawn

-- how often bytes were put to clients
abbrev pub puts_made : History → ℕ
puts_made [] = 0
puts_made (Put c bytes ∷ older) = 1 + puts_made older
puts_made (_ ∷ older) = puts_made older

-- a packet of a device that costs no answer out of turn: it opens no stream, and a write has bytes
abbrev pub IsWorth : Command → List ℕ → Type 0
IsWorth Open payload = ⊥
IsWorth Wrte payload = payload ≢ []
IsWorth _ payload = Unit {0}

abbrev pub IsWorthwhile : Packet → Type 0
IsWorthwhile p = IsWorth p.command p.payload

abbrev pub BringWorth : History → Type 0
BringWorth h = (t : ℕ) → All IsWorthwhile (brought t h)

-- Behind a history the tolls that were told since are at most a CNXN for each link, an OKAY for each time that
-- bytes were put to a client, and a CLSE for each stream that lived or was drawn since; and those that live have
-- theirs still to come.
abbrev pub TollsArePaid : (before more : History) → Type 0
TollsArePaid before more =
    tolls (told (more ++ before)) + close_tolls (state (more ++ before)).streams (state (more ++ before)).drawn
    + (58 * plugged_count before + 28 * puts_made before + 24 * (state before).drawn)
    ≤ tolls (told before) + close_tolls (state before).streams (state before).drawn
    + (58 * plugged_count (more ++ before) + 28 * puts_made (more ++ before) + 24 * (state (more ++ before)).drawn)
