-- How a server ended, and the note that it leaves.
use Rattle.std.proofs.Common.{ℕ, ◌≡◌, ◌≢◌, ◌<◌, ◌≤◌, ◌⊎◌, true, false, List, [], ◌++◌, take, drop, Option, Some, refl, sym, ◌∙◌, ap, subst}
use Rattle.std.proofs.Common.{inl, inr, arith}
use Rattle.std.proofs.lemmas.List.{append-nil, take-append-drop}
use Rattle.adb_outside.specs.Outside.{Rises, Counts}
use Rattle.adb_outside.specs.declared.sink.Wrote.TheVariants.{All}
use Rattle.adb_asking.specs.Telling.{Sight}
use Rattle.adb_server.specs.Served.{listening_line, Announces, TellsPort, is_write_fault}
use Rattle.adb_server.specs.declared.server.Served.{Served}
use Rattle.adb_server.specs.declared.server.Served.TheVariants as served
use Rattle.adb_words.specs.Serve.{Serving}
use Rattle.adb_replay.proofs.Counting.{counts_then}
use Rattle.adb_top.specs.Faults.{Rose, tells_write_fault}
use Rattle.adb_top.specs.Notes.{NotesBy, HasTried, HasFailed, RisesTwice}
use Rattle.adb_top.specs.declared.status.Status.{Status}
use Rattle.adb_top.specs.declared.status.Status.TheVariants.{Done, WriteFault, OutOfMemory}
use Rattle.adb_top.specs.Serve.{Serves}
use Rattle.adb_top.specs.ServedNote.{IsBefore, IsListening, IsServedLine, IsStatusOf, NotesServer, RosesFor, ServesNote}
use Rattle.adb_top.specs.Tells.{CountsEnd, Tells}

-- ---- a note that failed later failed over the whole, too
tried_on : {rose wider : Type 0} {had : List ℕ} {after : Option (List ℕ)} → (rose → wider) → HasTried rose had after
    → HasTried wider had after
tried_on {rose = rose} {wider = wider} on t = record { last = t.last; whole = go t.whole; is = t.is }
  where
    go : {A B : Type 0} → A ⊎ (rose × B) → A ⊎ (wider × B)
    go (inl a) = inl a
    go (inr b) = inr (on b.0, b.1)

failed_on : {hand : Status → List ℕ → Type 0} {again wider : Type 0} {had : List ℕ} {after : Option (List ℕ)} → (again → wider)
    → HasFailed hand again had after → HasFailed hand wider had after
failed_on on f = record {
  status = f.status;
  other = f.other;
  line = f.line;
  own = f.own;
  comes = f.comes;
  cut = f.cut;
  front = f.front;
  tried = tried_on on f.tried;
}

pub notes_on : {rose again rose_wider again_wider : Type 0} (hand : Status → List ℕ → Type 0) (had : List ℕ) (after : Option (List ℕ))
    → (rose → rose_wider) → (again → again_wider) → (status : Status) → NotesBy status hand rose again had after
    → NotesBy status hand rose_wider again_wider had after
notes_on hand had after on twice WriteFault (inl n) = inl (n.0, tried_on on n.1)
notes_on hand had after on twice WriteFault (inr n) = inr (on n.0, failed_on twice n.1)
notes_on hand had after on twice _ n = n

-- ---- counts
-- a count that rose later rose over the whole, too
rises_wider : {x y z : ℕ} → x ≤ y → Rises y z → Rises x z
rises_wider less (inl more) = inl (omega (arith, less, more))
rises_wider less (inr last) = inr last

twice_wider : {x y z : ℕ} → x ≤ y → RisesTwice y z → RisesTwice x z
twice_wider less twice = record { mid = twice.mid; first = rises_wider less twice.first; again = twice.again }

-- a count that rose has risen, however more it rises
rises_through : (x y z : ℕ) → x ≤ y → y ≤ z → Rises x y → Rises x z
rises_through x y z a b (inl less) = inl (omega (arith, less, b))
rises_through x y z a b (inr last) = split (cases y z)
  where
    cases : (m n : ℕ) → (m < n) ⊎ (n ≤ m)
    cases m n = grind arith

    split : (y < z) ⊎ (z ≤ y) → Rises x z
    split (inl more) = inl (omega (arith, more, a))
    split (inr same) = inr (same_number ∙ last)
      where
        same_number : z ≡ y
        same_number = omega (arith, same, b)

-- ---- what the note has before the line of the end
record Before (asked : ℕ) (end : Served) (had : List ℕ) (mid : Option (List ℕ)) : Type 0 where
  first : List ℕ
  is : mid ≡ Some (had ++ first)
  own : IsBefore asked end first

-- a line that went out whole
listens : {asked : ℕ} {before mid : Option (List ℕ)} → (t : TellsPort asked All before mid) → IsListening asked (listening_line t.port)
listens t = (t.port, t.some, t.asked, refl)

none_before : {before mid : Option (List ℕ)} {had : List ℕ} → mid ≡ before → before ≡ Some had → mid ≡ Some (had ++ [])
none_before {had = had} same is = same ∙ is ∙ ap Some (sym (append-nil had))

before_of : (asked : ℕ) (end : Served) (before mid : Option (List ℕ)) (had : List ℕ) → Announces asked end before mid → before ≡ Some had
    → Before asked end had mid
before_of asked served.Done before mid had t is = record { first = listening_line t.port; is = t.line had is; own = listens t }
before_of asked served.RecordFault before mid had t is = record { first = listening_line t.port; is = t.line had is; own = listens t }
before_of asked served.DoorFault before mid had (inl same) is = record { first = []; is = none_before same is; own = inl refl }
before_of asked served.DoorFault before mid had (inr t) is =
    record { first = listening_line t.port; is = t.line had is; own = inr (listens t) }
before_of asked served.OutOfMemory before mid had (inl same) is = record { first = []; is = none_before same is; own = inl refl }
before_of asked served.OutOfMemory before mid had (inr t) is =
    record { first = listening_line t.port; is = t.line had is; own = inr (listens t) }
before_of asked served.WriteFault before mid had (taken, t) is = record {
  first = take taken (listening_line t.port);
  is = t.line had is;
  own = (
    listening_line t.port,
    (t.port, t.some, t.asked, refl),
    (drop taken (listening_line t.port), take-append-drop taken (listening_line t.port)),
  );
}

-- ---- an end and its status
-- Where nothing fails it is done, but for memory.
ends_whole : (end : Served) (status : Status) (rose : Type 0) → IsStatusOf end status → end ≢ served.RecordFault → end ≢ served.DoorFault
    → (tells_write_fault status ≡ true → rose) → ¬ rose → (status ≡ Done) ⊎ (status ≡ OutOfMemory)
ends_whole served.Done status rose own no_record no_door told stood = inl own
ends_whole served.WriteFault status rose own no_record no_door told stood = absurd (stood (told (ap tells_write_fault own)))
ends_whole served.OutOfMemory status rose (inl own) no_record no_door told stood = inr own
ends_whole served.OutOfMemory status rose (inr lost) no_record no_door told stood = absurd (stood (told (ap tells_write_fault lost)))
ends_whole served.RecordFault status rose own no_record no_door told stood = absurd (no_record refl)
ends_whole served.DoorFault status rose own no_record no_door told stood = absurd (no_door refl)

module _ {N : Type 0} (n : Sight N) where
  -- a note that failed before the line of the end
  counts_lost : (note mid after : N) → Counts n.steady n.faults note mid true
      → (n.faults mid ≤ n.faults after) × (n.steady mid → n.steady after) → Counts n.steady n.faults note after true
  counts_lost note mid after first more = record {
    count = omega (arith, first.count, more.0);
    fault = λ e. rises_through (n.faults note) (n.faults mid) (n.faults after) first.count more.0 (first.fault refl);
    stands = λ e. (let clash : true ≡ false = e in cc);
    keeps = λ s. more.1 (first.keeps s);
    steady = first.steady;
  }

  counts_end : (end : Served) (status : Status) (note mid after : N) → IsStatusOf end status
      → Counts n.steady n.faults note mid (is_write_fault end) → CountsEnd end status n mid after
      → Counts n.steady n.faults note after (tells_write_fault status)
  counts_end served.Done status note mid after own first more = counts_then n.steady n.faults note mid after first more
  counts_end served.OutOfMemory status note mid after own first more = counts_then n.steady n.faults note mid after first more
  counts_end served.RecordFault status note mid after own first more = counts_then n.steady n.faults note mid after first more
  counts_end served.DoorFault status note mid after own first more = counts_then n.steady n.faults note mid after first more
  counts_end served.WriteFault status note mid after own first more =
      subst (λ (s : Status). Counts n.steady n.faults note after (tells_write_fault s)) (sym own) (counts_lost note mid after first more)

  -- over which faults of the note the line of an end is told
  roses : (end : Served) (note mid after : N) → Counts n.steady n.faults note mid (is_write_fault end) → Rose n.faults mid after
      → RosesFor end (Rose n.faults note after) (RisesTwice (n.faults note) (n.faults after))
  roses served.Done note mid after first rose = rises_wider first.count rose
  roses served.OutOfMemory note mid after first rose = rises_wider first.count rose
  roses served.RecordFault note mid after first rose = rises_wider first.count rose
  roses served.DoorFault note mid after first rose = rises_wider first.count rose
  roses served.WriteFault note mid after first rose = record { mid = n.faults mid; first = first.fault refl; again = rose }

  module _ (asked : ℕ) (end : Served) (status : Status) (note mid after : N)
      (first : Counts n.steady n.faults note mid (is_write_fault end)) (tells : Tells end status n mid after) where
    -- The note tells how a server ended behind what it had.
    notes_server : (had : List ℕ) → Announces asked end (n.told note) (n.told mid) → n.told note ≡ Some had
        → NotesServer asked end status (Rose n.faults note after) (RisesTwice (n.faults note) (n.faults after)) had (n.told after)
    notes_server had announced is =
        let b = before_of asked end (n.told note) (n.told mid) had announced is in
        record {
          first = b.first;
          before = b.own;
          notes = notes_on (IsServedLine end) (had ++ b.first) (n.told after) (roses end note mid after first)
              (twice_wider first.count) status (tells.notes (had ++ b.first) b.is);
        }

    pub serves_note : Announces asked end (n.told note) (n.told mid) → ServesNote asked end status n note after
    serves_note announced = record {
      own = tells.own;
      notes = λ had is. notes_server had announced is;
      counts = counts_end end status note mid after tells.own first tells.counts;
    }

  -- A server was done, and then its recorder failed.
  pub serves_lost : (asked : ℕ) (status : Status) (note mid after : N) → ServesNote asked served.Done Done n note mid
      → Tells served.RecordFault status n mid after → ServesNote asked served.RecordFault status n note after
  serves_lost asked status note mid after done tells = record {
    own = tells.own;
    notes = λ had is.
        let s = done.notes had is in
        record {
          first = s.first;
          before = s.before;
          notes = notes_on (IsServedLine served.RecordFault) (had ++ s.first) (n.told after) (rises_wider done.counts.count)
              (twice_wider done.counts.count) status (tells.notes (had ++ s.first) s.notes);
        };
    counts = counts_then n.steady n.faults note mid after done.counts tells.counts;
  }

  -- A run that served, by how the server ended and how that was told.
  pub serves_of : (asked : Serving) (port : ℕ) (end : Served) (status : Status) (yard_steady yard_lasting : Type 0) (note mid after : N)
      → port ≡ asked.port → (yard_steady → end ≢ served.RecordFault) → (yard_steady → end ≢ served.DoorFault)
      → (yard_lasting → end ≢ served.Done)
      → Announces port end (n.told note) (n.told mid) → Counts n.steady n.faults note mid (is_write_fault end)
      → Tells end status n mid after → Serves asked status yard_steady yard_lasting n note after
  serves_of asked port end status yard_steady yard_lasting note mid after at no_record no_door not_done announced first tells =
      let counts : Counts n.steady n.faults note after (tells_write_fault status) =
      counts_end end status note mid after tells.own first tells.counts in
      record {
        end = end;
        record_fault = no_record;
        door_fault = no_door;
        lasting = not_done;
        complete = λ s stood.
            ends_whole end status (Rises (n.faults note) (n.faults after)) tells.own (no_record s) (no_door s) counts.fault stood;
        tells = serves_note asked.port end status note mid after first tells
            (subst (λ (p : ℕ). Announces p end (n.told note) (n.told mid)) at announced);
      }
