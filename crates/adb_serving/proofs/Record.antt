-- The record of a server that has ended.
use Rattle.std.proofs.Common.{ℕ, ◌≡◌, ◌≢◌, Bool, true, List, Option, Some, None, reverse, refl, sym, ap, subst, ◌∙◌, inr}
use Rattle.adb_capture.specs.declared.entry.Entry.{Entry}
use Rattle.adb_desk.specs.Left.{HasRecorded}
use Rattle.adb_os_record.specs.Live.{ServesCapture}
use Rattle.adb_words.specs.Serve.{Serving}
use Rattle.adb_top.specs.declared.status.Status.{Status}
use Rattle.adb_top.specs.declared.status.Status.TheVariants.{Done, WriteFault, RecordFault}
use Rattle.adb_top.specs.Kept.{KeepsRecord}
use Rattle.adb_serving.specs.declared.started.HistorySink.TheVariants.{Dropped, Stuck}
use Rattle.adb_serving.specs.History.{GivesRecord, ServesHistory, records_of}

module _ {R : Type 0} (stands : R → List Entry → Type 0) (faults : R → ℕ) where
  -- a recorder that came back kept a legal history, and it never failed if the server is done
  pub recorded_of : (status : Status) (r : R) → KeepsRecord stands faults status (Some r)
      → HasRecorded stands r × (status ≡ Done → faults r ≡ 0)
  recorded_of Done r k =
      let same : k.last ≡ r = (let is = k.is in cc) in
      (subst (HasRecorded stands) same k.recorded, λ done. subst (λ (x : R). faults x ≡ 0) same k.so)
  recorded_of RecordFault r k =
      let same : k.last ≡ r = (let is = k.is in cc) in
      (subst (HasRecorded stands) same k.recorded, λ done. (let clash : RecordFault ≡ Done = done in cc))
  recorded_of WriteFault r k = (k, λ done. (let clash : WriteFault ≡ Done = done in cc))
  recorded_of _ r k = (k.0, λ done. k.1)

  -- a server whose recorder did not come back is not done, and ended by no fault of it
  pub missing_is : (status : Status) → KeepsRecord stands faults status None → (status ≢ Done) × (status ≢ RecordFault)
  missing_is Done k = absurd (let is = k.is in cc)
  missing_is RecordFault k = absurd (let is = k.is in cc)
  missing_is WriteFault k = (λ is. cc, λ is. cc)
  missing_is _ k = (λ is. cc, λ is. cc)

  -- so its sink may be dropped
  pub drops : {S : Type 0} (told : S → Option (List ℕ)) (before : S) (status : Status) → KeepsRecord stands faults status None
      → GivesRecord told before status Dropped
  drops told before status k =
      let missing = missing_is status k in record {
        done = λ is. absurd (missing.0 is);
        fault = λ is. absurd (missing.1 is);
        given = tt;
      }

  -- the sink was given the record of the history that the recorder kept
  pub serves_history : (r : R) (h : HasRecorded stands r) (had : List ℕ) (written : Option (List ℕ)) (whole : Bool)
      (count : ℕ) (status : Status)
      → ServesCapture had written whole count (reverse h.history) → (status ≡ Done → (whole ≡ true) × (count ≡ 0))
      → ServesHistory had written status
  serves_history r h had written whole count status capture done = record {
    history = h.history;
    legal = h.legal;
    promises = h.promises;
    growth = capture.growth;
    is = capture.is;
    opened = capture.opened;
    first = capture.first;
    part = capture.part;
    torn = capture.torn;
    front = capture.front;
    all = λ is. capture.all (done is).0 (done is).1;
  }

-- a thread that is stuck may keep the sink of a server that is not done
pub keeps_sink : {S : Type 0} (told : S → Option (List ℕ)) (before : S) (status : Status) → status ≢ Done
    → GivesRecord told before status Stuck
keeps_sink told before status undone = record { done = λ is. absurd (undone is); fault = λ is. inr refl; given = tt }

-- words that ask for a record are those of a server
pub asked_of : (o : Option Serving) → records_of o ≡ true → (asked : Serving) × (o ≡ Some asked) × (asked.records ≡ true)
asked_of (Some asked) is = (asked, refl, is)
asked_of None is = absurd cc

-- the flag of a server is what its words ask for
pub flag_of : (o : Option Serving) (asked : Serving) (flag : Bool) → o ≡ Some asked → records_of o ≡ flag → asked.records ≡ flag
flag_of o asked flag is flagged = sym (ap records_of is) ∙ flagged
