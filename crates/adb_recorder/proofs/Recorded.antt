-- The bytes that a recorder over a sink writes.
use Rattle.std.proofs.Common.{ℕ, ◌+◌, ◌≡◌, ◌≤◌, ◌<◌, Bool, true, false, List, [], ◌∷◌, ◌++◌, length, take, drop, Option, Some, Result, Ok}
use Rattle.std.proofs.Common.{Err, inl, inr, OnOk, sym, refl, ◌∙◌, ap, arith}
use Rattle.std.proofs.lemmas.List.{append_assoc, append-nil, flat_map_more, take-append-le, take-append-drop}
use Rattle.adb_outside.specs.Outside.{counted}
use Rattle.adb_capture.specs.Records.{magic, record_of, records_of}
use Rattle.adb_capture.specs.declared.entry.Entry.{Entry}
use Rattle.adb_recorder.specs.declared.recorder.RecordError.{RecordError}
use Rattle.adb_recorder.specs.declared.recorder.RecordError.TheVariants.{OutOfMemory, Failed}
use Rattle.adb_recorder.specs.Recording.{behind_magic, recorded, captured, kept_by, is_failed_record, GrowsByFront, WritesRecord}
use Rattle.adb_recorder.specs.Recording.{SinkRecording, HasWritten}
use Rattle.adb_outside.proofs.Joined.{written_past}

-- the first record has the magic before it
first_is : (opened : Bool) (bytes : List ℕ) → opened ≡ false → behind_magic opened bytes ≡ magic ++ bytes
first_is opened bytes first = ap (λ b. behind_magic b bytes) first

-- a front of the magic went out
pub magic_in_part : (opened : Bool) (bytes : List ℕ) (out : List ℕ) (n : ℕ) (written : Option (List ℕ)) → opened ≡ false
    → n ≤ length magic → written ≡ Some (out ++ take n magic) → written ≡ Some (out ++ take n (behind_magic opened bytes))
magic_in_part opened bytes out n written first fits is =
    is ∙ ap (λ front. Some (out ++ front)) (sym (ap (take n) (first_is opened bytes first) ∙ take-append-le n magic bytes fits))

-- the magic went out, and a record
pub first_whole : (opened : Bool) (bytes : List ℕ) (out : List ℕ) (written : Option (List ℕ)) → opened ≡ false
    → written ≡ Some ((out ++ magic) ++ bytes) → written ≡ Some (out ++ behind_magic opened bytes)
first_whole opened bytes out written first is =
    is ∙ ap Some (append_assoc out magic bytes ∙ ap (λ text. out ++ text) (sym (first_is opened bytes first)))

-- and a front of a record
pub first_in_part : (opened : Bool) (bytes : List ℕ) (out : List ℕ) (n : ℕ) (written : Option (List ℕ)) → opened ≡ false
    → written ≡ Some ((out ++ magic) ++ take n bytes) → written ≡ Some (out ++ take (8 + n) (behind_magic opened bytes))
first_in_part opened bytes out n written first is =
    written_past out magic bytes written n is ∙ ap (λ text. Some (out ++ take (8 + n) text)) (sym (first_is opened bytes first))

-- a failed write wrote a prefix
pub front_recorded : (out text : List ℕ) (n : ℕ) (written : Option (List ℕ)) → written ≡ Some (out ++ take n text)
    → GrowsByFront out text written
front_recorded out text n written is = record { growth = take n text; is = is; front = (drop n text, take-append-drop n text) }

-- ---- the bytes of the kept entries
one_more : (opened : Bool) (kept : List Entry) (e : Entry) → (opened ≡ false → kept ≡ [])
    → captured opened kept ++ recorded opened e ≡ captured true (kept ++ e ∷ [])
one_more true kept e first = flat_map_more record_of magic kept e
one_more false kept e first = rw (first refl) (ap (λ r. magic ++ r) (sym (append-nil (record_of e))))

-- one more record went out, or a prefix of it
pub goes_on : {K : Type 0} (told : K → Option (List ℕ)) (old new : SinkRecording K) (kept : List Entry) (e : Entry)
    (result : Result (Unit {0}) RecordError)
    → HasWritten told old kept
    → ((out : List ℕ) → old.faults ≡ 0 → told old.sink ≡ Some out → WritesRecord out (recorded old.opened e) (told new.sink) result)
    → OnOk result (new.opened ≡ true)
    → new.faults ≡ counted (is_failed_record result) old.faults
    → (0 < old.faults → (result ≡ Err Failed) × (new.sink ≡ old.sink))
    → new.first ≡ old.first
    → HasWritten told new (kept_by kept e result)
goes_on told old new kept e (Ok done) stands writes opened faults spent first = λ had at_first.
    elim (stands had (sym (ap told first) ∙ at_first)) [
      | inl whole ↦ inl (record {
        sound = faults ∙ whole.sound;
        first = λ closed. cc;
        is = writes (had ++ captured old.opened kept) whole.sound whole.is
            ∙ ap Some (append_assoc had (captured old.opened kept) (recorded old.opened e)
            ∙ ap (λ r. had ++ r) (one_more old.opened kept e whole.first)
            ∙ ap (λ b. had ++ captured b (kept ++ e ∷ [])) (sym opened));
      })
      | inr torn ↦ (let never : Ok done ≡ Err Failed = (spent torn.failed).0 in absurd cc)
    ]
goes_on told old new kept e (Err Failed) stands writes opened faults spent first = λ had at_first.
    elim (stands had (sym (ap told first) ∙ at_first)) [
      | inl whole ↦
          let grows = writes (had ++ captured old.opened kept) whole.sound whole.is in
          inr (record {
            failed = rw (faults, whole.sound) (omega arith);
            opened = old.opened;
            first = whole.first;
            entry = e;
            part = grows.growth;
            is = grows.is;
            front = grows.front;
          })
      | inr torn ↦ inr (record {
        failed = rw faults (omega arith);
        opened = torn.opened;
        first = torn.first;
        entry = torn.entry;
        part = torn.part;
        is = ap told (spent torn.failed).1 ∙ torn.is;
        front = torn.front;
      })
    ]
goes_on told old new kept e (Err OutOfMemory) stands writes opened faults spent first = λ had at_first.
    elim (stands had (sym (ap told first) ∙ at_first)) [
      | inl whole ↦ absurd (writes (had ++ captured old.opened kept) whole.sound whole.is)
      | inr torn ↦ (let never : Err OutOfMemory ≡ Err Failed = (spent torn.failed).0 in absurd cc)
    ]
