use Rattle.std.specs.Prelude.{ℕ, ◌≡◌, ◌≤◌, ◌-◌, ◌++◌, List, length}
use Rattle.adb_files.specs.Entries.{Entry}
use Rattle.adb_device_streams.specs.Asked.{Kind}
use Rattle.adb_device_streams.specs.Service.{Came, HasAnswered, out_of}
use Rattle.adb_device_streams.proofs.stream.take_first.Given as goal

abbrev pub invariant-loop-service : goal.invariant-loop-service
invariant-loop-service l = record {
  within : length l.payload ≤ l.room;
  told : l.payload ++ out_of l.service ≡ out_of l.initial.service;
  answers : (kind : Kind) (first : List Entry) (past : List Came) (gone : List ℕ) → HasAnswered kind first past gone l.initial.service
      → HasAnswered kind first past (gone ++ l.payload) l.service;
}

abbrev pub decreases-loop-service : goal.decreases-loop-service
decreases-loop-service l = l.room - length l.payload
