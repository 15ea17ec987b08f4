-- What a reader that found the next record gives once that is passed.
use Rattle.std.proofs.Common.{ℕ, ◌≡◌, List, ◌++◌, Option, Some, None, Result, Ok, Err, refl, subst}
use Rattle.std.specs.Prelude.{option_map, IfOk, IfSome}
use Rattle.adb_outside.specs.declared.framer.Front.TheVariants.{More, Whole}
use Rattle.adb_capture.specs.declared.error.CaptureError.{CaptureError}
use Rattle.adb_capture.specs.declared.error.CaptureError.TheVariants.{ReadFault}
use Rattle.adb_capture.specs.Records.{record_at}
use Rattle.adb_capture_reader.specs.Reading.{Reading, passed_by, given_by, GivesNext}
use Rattle.adb_capture_reader.specs.Awaiting.{AwaitsRecord}
use Rattle.adb_capture_reader.proofs.Giving.{gives_record, gives_end, gives_refusal}

-- a record is held whole where one was found
pub found_whole : (offset : ℕ) (first : List ℕ) (before : Option (List ℕ)) (held : List ℕ) (result : Result (Option ℕ) CaptureError)
    → AwaitsRecord offset first before held result → IfOk result (λ found. IfSome found (λ size. record_at offset held ≡ Whole size))
found_whole offset first before held (Ok (Some size)) h = h
found_whole offset first before held (Ok None) h = tt
found_whole offset first before held (Err e) h = tt

-- and where a read failed, what is held is less
pub found_fault : (offset : ℕ) (first : List ℕ) (before : Option (List ℕ)) (held : List ℕ) (result : Result (Option ℕ) CaptureError)
    → AwaitsRecord offset first before held result → result ≡ Err ReadFault → record_at offset held ≡ More
found_fault offset first before held result h is =
    subst (λ (r : Result (Option ℕ) CaptureError). AwaitsRecord offset first before held r) is h

-- what holds of each size holds of the one that was found
pub found_each : (P Q : ℕ → Type 0) → ((size : ℕ) → P size → Q size) → (result : Result (Option ℕ) CaptureError)
    → IfOk result (λ found. IfSome found P) → IfOk result (λ found. IfSome found Q)
found_each P Q f (Ok (Some size)) h = f size h
found_each P Q f (Ok None) h = tt
found_each P Q f (Err e) h = tt

-- once the record that was found is passed, it was given
pub found_gives : (now : Reading) (first coming : List ℕ) (after : Option (List ℕ)) (result : Result (Option ℕ) CaptureError)
    → option_map (λ rest. now.held ++ rest) after ≡ Some (first ++ coming) → AwaitsRecord now.offset first (Some coming) now.held result
    → GivesNext now.offset (first ++ coming) (given_by result now) (passed_by result now).offset
    (option_map (λ rest. (passed_by result now).held ++ rest) after)
found_gives now first coming after (Ok (Some size)) h whole = gives_record now.offset now.held (first ++ coming) after size h whole
found_gives now first coming after (Ok None) h end = gives_end now.offset now.held (first ++ coming) after h end.0 (end.1 coming refl)
found_gives now first coming after (Err e) h refused = gives_refusal now.offset first now.held coming after e h refused
