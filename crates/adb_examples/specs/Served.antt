-- What the workers of a client do.
use Rattle.std.specs.Prelude.{ℕ, ◌≡◌, List, [], ◌∷◌, ◌++◌, map, Option, Some, Result, IfOk, ◌⊎◌}
use Rattle.std.specs.List.{concat}
use Rattle.adb_outside.specs.Memory.{MemoryOutput}
use Rattle.adb_outside.specs.Outside.{Rises}
use Rattle.adb_capture.specs.declared.entry.Entry.{Entry}
use Rattle.adb_capture.specs.declared.entry.Entry.TheVariants.{Join, Put}
use Rattle.adb_server_log.specs.declared.error.DeskError.{DeskError}
use Rattle.adb_desk.specs.Desk.{DeskView}
use Rattle.adb_server_hall.specs.Telling.{telling_of}
use Rattle.adb_server_hall.specs.Made.{Tells}

-- The record of the hall has grown by the client's Join, the entries of its reader, one Put for each piece that was handed out to it, and what ended
-- it. The port got the joined pieces: all of them, unless a write failed.
pub record Served (es : List Entry) (c : ℕ) (told : Option (List Entry)) (before after : MemoryOutput) : Type 0 where
  pub reads : List Entry
  pub pieces : List (List ℕ)
  pub last : List Entry
  pub record_is : told ≡ Some ((((es ++ Join c ∷ []) ++ reads) ++ map (Put c) pieces) ++ last)
  pub got : List ℕ
  pub lost : List ℕ
  pub pieces_are : concat pieces ≡ got ++ lost
  pub port_got : after.out ≡ before.out ++ got
  pub all : (lost ≡ []) ⊎ Rises before.faults after.faults

-- If the client was served and the record had these entries, it has grown so.
abbrev pub Serves : DeskView → DeskView → MemoryOutput → MemoryOutput → Result ℕ DeskError → Type 0
Serves old new before after result = (es : List Entry) → Tells (telling_of old) es → IfOk result (λ c. Served es c new.log.told before after)
