-- What is said of words that are no command.
use Rattle.std.proofs.Common.{◌≡◌, ◌⊎◌, refl, inl, inr}
use Rattle.adb_outside.specs.Outside.{Counts, Rises}
use Rattle.adb_asking.specs.Telling.{Sight}
use Rattle.adb_top.specs.Faults.{tells_write_fault}
use Rattle.adb_top.specs.Notes.{usage_line, out_of_memory_line, IsJust, IsLineOr, RisesTwice, WritesNote}
use Rattle.adb_top.specs.declared.status.Status.{Status}
use Rattle.adb_top.specs.declared.status.Status.TheVariants.{Usage, WriteFault, OutOfMemory}
use Rattle.adb_top.proofs.Lines.{made_starved, notes_of}
use Rattle.adb_top.specs.Usage.{SaysUsage}

module _ {N : Type 0} (n : Sight N) (note note_new : N) (status : Status)
    (counts : Counts n.steady n.faults note note_new (tells_write_fault status)) where
  -- the usage line was written, or the note failed
  pub usage_said : (status ≡ Usage) ⊎ (status ≡ WriteFault) → WritesNote status (IsJust Usage usage_line) n.faults n.told note note_new
      → SaysUsage status n note note_new
  usage_said own told = record {
    unheard = unheard own;
    notes = λ had is.
        notes_of Usage usage_line (IsLineOr Usage usage_line) (inl (refl, refl)) status (Rises (n.faults note) (n.faults note_new))
        (RisesTwice (n.faults note) (n.faults note_new)) had (n.told note_new) (told had is);
    counts = counts;
  }
    where
      unheard : (status ≡ Usage) ⊎ (status ≡ WriteFault) → (status ≡ Usage) ⊎ (status ≡ WriteFault) ⊎ (status ≡ OutOfMemory)
      unheard (inl is) = inl is
      unheard (inr is) = inr (inl is)

  -- memory ran out over the words
  pub memory_said : (status ≡ OutOfMemory) ⊎ (status ≡ WriteFault)
      → WritesNote status (IsJust OutOfMemory out_of_memory_line) n.faults n.told note note_new → SaysUsage status n note note_new
  memory_said own told = record {
    unheard = unheard own;
    notes = λ had is.
        made_starved Usage usage_line status (Rises (n.faults note) (n.faults note_new))
        (RisesTwice (n.faults note) (n.faults note_new)) had (n.told note_new) (told had is);
    counts = counts;
  }
    where
      unheard : (status ≡ OutOfMemory) ⊎ (status ≡ WriteFault) → (status ≡ Usage) ⊎ (status ≡ WriteFault) ⊎ (status ≡ OutOfMemory)
      unheard (inl is) = inr (inr is)
      unheard (inr is) = inr (inl is)
