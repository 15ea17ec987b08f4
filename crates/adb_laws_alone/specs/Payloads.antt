-- Payloads of a service that come one behind the other.
use Rattle.std.specs.Prelude.{ℕ, ◌≡◌, List, [], ◌∷◌}
use Rattle.adb_files.specs.Entries.{Entry}
use Rattle.adb_device_streams.specs.Asked.{Kind}
use Rattle.adb_device_streams.specs.Service.{Came, bytes_in, came_over, files_fed, service_answer}

-- the files behind payloads, the newest first: those that the last one left, or those behind the OPEN
abbrev pub files_behind : Kind → List Entry → List Came → List Entry
files_behind kind opened [] = opened
files_behind kind opened (came ∷ before) = files_fed kind before came

-- each payload came over the files that those before it left
abbrev pub ComeInTurn : Kind → List Entry → List Came → Type 0
ComeInTurn kind opened [] = Unit {0}
ComeInTurn kind opened (came ∷ before) = ComeInTurn kind opened before × (came.files ≡ files_behind kind opened before)

-- They are one payload: that has the same answer, and leaves the same files.
pub record AreOne (kind : Kind) (first opened : List Entry) (past : List Came) : Type 0 where
  pub answer : service_answer kind first past ≡ service_answer kind first (came_over (bytes_in past) opened ∷ [])
  pub files : files_behind kind opened past ≡ files_fed kind [] (came_over (bytes_in past) opened)

-- All that a service makes of some bytes is what it makes of a front of them.
pub record AreEnough (kind : Kind) (first opened : List Entry) (front all : List ℕ) : Type 0 where
  pub answer : service_answer kind first (came_over all opened ∷ []) ≡ service_answer kind first (came_over front opened ∷ [])
  pub files : files_fed kind [] (came_over all opened) ≡ files_fed kind [] (came_over front opened)
