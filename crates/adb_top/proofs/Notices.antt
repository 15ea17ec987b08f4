-- What is told of an end, from what a line of the note says.
use Rattle.std.proofs.Common.{ℕ, ◌≡◌, ◌≢◌, ◌⊎◌, Bool, true, false, List, refl, sym, ◌∙◌, ap, inl, inr}
use Rattle.adb_outside.specs.Outside.{Counts}
use Rattle.adb_outside.specs.Sink.{TellsWrite}
use Rattle.adb_outside.specs.declared.sink.Wrote.TheVariants.{All}
use Rattle.adb_commands.specs.Ends.{Sight}
use Rattle.adb_top.specs.Commands.{IsAtHand, IsTold, TellsNotice, fixed, made}
use Rattle.adb_top.specs.Faults.{tells_write_fault}
use Rattle.adb_top.specs.Notes.{write_fault_line, IsJust, IsLineOr, WritesNote}
use Rattle.adb_top.specs.declared.status.Status.{Status}
use Rattle.adb_top.specs.declared.status.Status.TheVariants.{Done, WriteFault, OutOfMemory}
use Rattle.adb_top.proofs.Lines.{notes_as}

unlost : (status : Status) → status ≢ WriteFault → tells_write_fault status ≡ false
unlost WriteFault other = absurd (other refl)
unlost _ other = refl

module _ {N : Type 0} (own status : Status) (line : List ℕ) (n : Sight N) (note note_new : N) where
  abbrev Written : (Status → List ℕ → Type 0) → Type 0
  Written hand = WritesNote status hand n.faults n.told note note_new

  abbrev Counted : Type 0
  Counted = Counts n.steady n.faults note note_new (tells_write_fault status)

  clash_lost : Counted → n.steady note → status ≡ WriteFault → ⊥
  clash_lost counts steady is = let clash : true ≡ false = sym (ap tells_write_fault is) ∙ counts.steady steady in cc

  -- a line that is always the same
  pub fixed_told : (lost : Bool) → own ≢ Done → (status ≡ own) ⊎ (status ≡ WriteFault) → Written (IsJust own line) → Counted
      → TellsNotice (fixed own line) lost status n note note_new
  fixed_told lost some ends written counts = record {
    own = told ends;
    notes = λ had has. notes_as (IsJust own line) (IsAtHand (fixed own line)) (λ s l is. inl is) status _ _ had
        (n.told note_new) (written had has);
    shows = λ is_made. absurd (let clash : false ≡ true = is_made in cc);
    fault = λ is. inr (counts.fault (ap tells_write_fault is));
    stood = λ other. counts.stands (unlost status other);
    steady = λ steady is. absurd (clash_lost counts steady is);
  }
    where
      told : (status ≡ own) ⊎ (status ≡ WriteFault) → IsTold (fixed own line) status
      told (inl is) = inl is
      told (inr is) = inr (inl (some, is))

  -- a line that is made
  pub made_told : (lost : Bool) → own ≢ Done → (status ≡ own) ⊎ (status ≡ OutOfMemory) ⊎ (status ≡ WriteFault) → Written (IsLineOr own line)
      → (status ≡ own → TellsWrite (n.told note) (n.told note_new) line All) → Counted
      → TellsNotice (made own line) lost status n note note_new
  made_told lost some ends written shows counts = record {
    own = told ends;
    notes = λ had has. notes_as (IsLineOr own line) (IsAtHand (made own line)) hand status _ _ had (n.told note_new) (written had has);
    shows = λ is_made is. shows is;
    fault = λ is. inr (counts.fault (ap tells_write_fault is));
    stood = λ other. counts.stands (unlost status other);
    steady = λ steady is. absurd (clash_lost counts steady is);
  }
    where
      told : (status ≡ own) ⊎ (status ≡ OutOfMemory) ⊎ (status ≡ WriteFault) → IsTold (made own line) status
      told (inl is) = inl is
      told (inr (inl is)) = inr (inr (refl, is))
      told (inr (inr is)) = inr (inl (some, is))

      hand : (s : Status) (l : List ℕ) → IsLineOr own line s l → IsAtHand (made own line) s l
      hand s l (inl is) = inl is
      hand s l (inr is) = inr (refl, is)

-- the line of a sink that failed
pub lost_line_told : {N : Type 0} (status : Status) (n : Sight N) (note note_new : N) → status ≡ WriteFault
    → WritesNote status (IsJust WriteFault write_fault_line) n.faults n.told note note_new
    → TellsNotice (fixed WriteFault write_fault_line) true status n note note_new
lost_line_told status n note note_new is written = record {
  own = inl is;
  notes = λ had has. notes_as (IsJust WriteFault write_fault_line) (IsAtHand (fixed WriteFault write_fault_line))
      (λ s l same. inl same) status _ _ had
      (n.told note_new) (written had has);
  shows = λ is_made. absurd (let clash : false ≡ true = is_made in cc);
  fault = λ again. inl refl;
  stood = λ other. absurd (other is);
  steady = λ steady again. refl;
}
