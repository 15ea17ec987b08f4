-- How a run ends that stopped, and what its note has then.
use Rattle.std.specs.Prelude.{ℕ, ◌≡◌, List, ◌++◌, Option, Some}
use Rattle.adb_history.specs.declared.refusal.Refusal.{Refusal}
use Rattle.adb_replay.specs.declared.stop.Stop.{Stop}
use Rattle.adb_replay.specs.declared.stop.Stop.TheVariants as stop
use Rattle.adb_explain.specs.Notes.{IsLine}
use Rattle.adb_explain.specs.declared.status.Status.{Status}
use Rattle.adb_explain.specs.declared.status.Status.TheVariants.{Done, Usage, ReadFault, WriteFault, BadCapture, OutOfMemory, Illegal}

-- The status that a stop may end as: its own, or what a note that fails or an allocation failure makes of it.
abbrev pub EndsIn : Stop → Status → Type 0
EndsIn why Done = ⊥
EndsIn why Usage = ⊥
EndsIn why Illegal = ⊥
EndsIn why ReadFault = why ≡ stop.ReadFault
EndsIn why WriteFault = Unit {0}
EndsIn why BadCapture = (refusal : Refusal) × (why ≡ stop.Refused refusal)
EndsIn stop.ReadFault OutOfMemory = ⊥
EndsIn stop.WriteFault OutOfMemory = ⊥
EndsIn stop.OutOfMemory OutOfMemory = Unit {0}
EndsIn (stop.Refused refusal) OutOfMemory = Unit {0}

-- a status's line stands after what the note had
pub record HasLine (status : Status) (had : List ℕ) (after : Option (List ℕ)) : Type 0 where
  pub line : List ℕ
  pub own : IsLine status line
  pub is : after ≡ Some (had ++ line)

-- The note has the line of each status but WriteFault, whose line may be missing.
abbrev pub SaysBy : Status → List ℕ → Option (List ℕ) → Type 0
SaysBy Done had after = after ≡ Some had
SaysBy Usage had after = HasLine Usage had after
SaysBy ReadFault had after = HasLine ReadFault had after
SaysBy WriteFault had after = Unit {0}
SaysBy BadCapture had after = HasLine BadCapture had after
SaysBy OutOfMemory had after = HasLine OutOfMemory had after
SaysBy Illegal had after = HasLine Illegal had after

abbrev pub SaysLine : Status → Option (List ℕ) → Option (List ℕ) → Type 0
SaysLine status before after = (had : List ℕ) → before ≡ Some had → SaysBy status had after
