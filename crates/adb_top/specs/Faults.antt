-- What the counts of faults say of a run.
use Rattle.std.specs.Prelude.{ℕ, ◌≡◌, Bool, true, false}
use Rattle.adb_outside.specs.Outside.{Rises}
use Rattle.adb_top.specs.declared.status.Status.{Status}
use Rattle.adb_top.specs.declared.status.Status.TheVariants.{ReadFault, WriteFault, RecordFault, DoorFault, PortFault}

-- The count of a source or a sink rose.
abbrev pub Rose : {A : Type 0} → (A → ℕ) → A → A → Type 0
Rose faults old new = Rises (faults old) (faults new)

-- It stood.
abbrev pub Stood : {A : Type 0} → (A → ℕ) → A → A → Type 0
Stood faults old new = faults new ≡ faults old

-- a status that names no fault
abbrev pub IsFaultless : Status → Type 0
IsFaultless ReadFault = ⊥
IsFaultless WriteFault = ⊥
IsFaultless RecordFault = ⊥
IsFaultless DoorFault = ⊥
IsFaultless PortFault = ⊥
IsFaultless _ = Unit {0}

-- whether a status is that a write failed
abbrev pub tells_write_fault : Status → Bool
tells_write_fault WriteFault = true
tells_write_fault _ = false
