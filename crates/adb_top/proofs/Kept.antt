-- The record of a server by its status.
use Rattle.std.proofs.Common.{ℕ, ◌≡◌, ◌<◌, ◌⊎◌, List, Option, Some, None, sym, subst, inl, inr}
use Rattle.std.specs.Prelude.{IfSome}
use Rattle.adb_capture.specs.declared.entry.Entry.{Entry}
use Rattle.adb_desk.specs.Left.{HasRecorded}
use Rattle.adb_server.specs.Ended.{HasServed, KeepsHistory}
use Rattle.adb_server.specs.declared.server.Served.{Served}
use Rattle.adb_server.specs.declared.server.Served.TheVariants as served
use Rattle.adb_top.specs.Kept.{KeepsRecord}
use Rattle.adb_top.specs.ServedNote.{IsStatusOf}
use Rattle.adb_top.specs.declared.status.Status.{Status}
use Rattle.adb_top.specs.declared.status.Status.TheVariants.{Done, WriteFault, OutOfMemory, RecordFault, DoorFault}

module _ {R : Type 0} (stands : R → List Entry → Type 0) (faults : R → ℕ) where
  -- a recorder that kept a history, without what else is known of it
  less : (P : R → Type 0) (recorder : Option R) → IfSome recorder (λ r. HasRecorded stands r × P r) → IfSome recorder (HasRecorded stands)
  less P None kept = kept
  less P (Some r) kept = kept.0

  served_less : {P : R → Type 0} (recorder : Option R) → HasServed stands P recorder → IfSome recorder (HasRecorded stands)
  served_less recorder kept = subst (λ (o : Option R). IfSome o (HasRecorded stands)) (sym kept.is) kept.recorded

  none_kept : (recorder : Option R) → recorder ≡ None → IfSome recorder (HasRecorded stands)
  none_kept recorder is = subst (λ (o : Option R). IfSome o (HasRecorded stands)) (sym is) tt

  -- The end of a server and its status have the same record.
  pub kept_by_status : (end : Served) (status : Status) (recorder : Option R) → IsStatusOf end status
      → KeepsHistory stands faults end recorder → KeepsRecord stands faults status recorder
  kept_by_status served.Done status recorder own kept = subst (λ (s : Status). KeepsRecord stands faults s recorder) (sym own) kept
  kept_by_status served.WriteFault status recorder own kept =
      subst (λ (s : Status). KeepsRecord stands faults s recorder) (sym own) (none_kept recorder kept)
  kept_by_status served.OutOfMemory status recorder (inl own) kept =
      subst (λ (s : Status). KeepsRecord stands faults s recorder) (sym own) kept
  kept_by_status served.OutOfMemory status recorder (inr own) kept =
      subst (λ (s : Status). KeepsRecord stands faults s recorder) (sym own) (less (λ r. faults r ≡ 0) recorder kept)
  kept_by_status served.RecordFault status recorder (inl own) kept =
      subst (λ (s : Status). KeepsRecord stands faults s recorder) (sym own) kept
  kept_by_status served.RecordFault status recorder (inr own) kept =
      subst (λ (s : Status). KeepsRecord stands faults s recorder) (sym own) (served_less recorder kept)
  kept_by_status served.DoorFault status recorder (inl own) kept =
      subst (λ (s : Status). KeepsRecord stands faults s recorder) (sym own) kept
  kept_by_status served.DoorFault status recorder (inr own) kept =
      subst (λ (s : Status). KeepsRecord stands faults s recorder) (sym own) (less (λ r. faults r ≡ 0) recorder kept)
