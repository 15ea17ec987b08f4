-- What a run over the sockets of this machine leaves.
use Rattle.std.specs.Prelude.{ℕ, ◌≡◌, ◌⊎◌, None}
use Rattle.adb_asking.specs.Telling.{Sight}
use Rattle.adb_server.specs.declared.server.Served.{Served}
use Rattle.adb_server.specs.declared.server.Served.TheVariants as served
use Rattle.adb_top.specs.declared.status.Status.{Status}
use Rattle.adb_top.specs.declared.status.Status.TheVariants.{Done}
use Rattle.adb_top.specs.ServedNote.{ServesNote}
use Rattle.adb_top.specs.Tells.{Tells}

-- A server ended in one of its ways, and the note has the line of that.
abbrev pub ServesLive : {N : Type 0} → ℕ → Status → Sight N → N → N → Type 0
ServesLive asked status n note note_new = (end : Served) × ServesNote asked end status n note note_new

-- a yard of this machine, of which the count of its faults alone is seen
abbrev pub live_yard : Sight ℕ
live_yard = record { steady = λ count. ⊥; faults = λ count. count; told = λ count. None }

-- The status is as it was, and nothing is written; or a server was done whose record was not written out, which is a fault of its recorder.
abbrev pub Ended : {N : Type 0} → Status → Status → Sight N → N → N → Type 0
Ended was status n note note_new =
    ((status ≡ was) × (note_new ≡ note)) ⊎ ((was ≡ Done) × Tells served.RecordFault status n note note_new)
