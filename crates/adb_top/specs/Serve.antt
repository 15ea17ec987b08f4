-- What a run leaves that serves.
use Rattle.std.specs.Prelude.{◌≡◌, ◌≢◌, ◌⊎◌}
use Rattle.adb_asking.specs.Telling.{Sight}
use Rattle.adb_server.specs.declared.server.Served.{Served}
use Rattle.adb_server.specs.declared.server.Served.TheVariants as served
use Rattle.adb_words.specs.Serve.{Serving}
use Rattle.adb_top.specs.Faults.{Rose}
use Rattle.adb_top.specs.declared.status.Status.{Status}
use Rattle.adb_top.specs.declared.status.Status.TheVariants.{Done, OutOfMemory}
use Rattle.adb_top.specs.ServedNote.{ServesNote}

-- A server ends by a fault of its recorder or its door over no steady yard, and done over no lasting one. Over a
-- steady yard, if the note did not
-- fail, it is done, or memory ran out. The note says how it ended.
pub record Serves {N : Type 0} (asked : Serving) (status : Status) (yard_steady yard_lasting : Type 0) (n : Sight N)
    (note note_new : N) : Type 0 where
  pub end : Served
  pub record_fault : yard_steady → end ≢ served.RecordFault
  pub door_fault : yard_steady → end ≢ served.DoorFault
  pub lasting : yard_lasting → end ≢ served.Done
  pub complete : yard_steady → ¬ Rose n.faults note note_new → (status ≡ Done) ⊎ (status ≡ OutOfMemory)
  pub tells : ServesNote asked.port end status n note note_new
