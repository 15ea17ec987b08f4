-- What a reader gives of the bytes that it holds and those that are still to come.
use Rattle.std.proofs.Common.{ℕ, ◌+◌, ◌≡◌, ◌≤◌, List, [], ◌++◌, length, take, drop, Option, Some, None, Ok, Err, false, refl, sym, ◌∙◌, ap}
use Rattle.std.proofs.Common.{arith}
use Rattle.std.specs.Prelude.{option_map}
use Rattle.std.proofs.lemmas.List.{length-take-le, take-append-le, drop-append-le}
use Rattle.adb_outside.specs.declared.framer.Front.TheVariants.{Whole}
use Rattle.adb_capture.specs.declared.error.FormFault.TheVariants as form
use Rattle.adb_capture.specs.declared.error.CaptureError.{CaptureError}
use Rattle.adb_capture.specs.declared.error.CaptureError.TheVariants.{BadMagic, BadRecord, Truncated, TooLong, ReadFault, OutOfMemory}
use Rattle.adb_capture.specs.declared.limits.TheConstants.{MAX_CAPTURE}
use Rattle.adb_capture.specs.Records.{magic, record_at, entry_in}
use Rattle.adb_capture_reader.specs.Reading.{Reading, past_magic, to_give, ahead, GivesRecord, GivesNext, IsRefused, Moves}
use Rattle.adb_capture_reader.specs.Awaiting.{AwaitsRecord}
use Rattle.adb_capture.proofs.Fronts.{whole_tells, whole_stays, whole_alone, bad_stays}

-- a whole record lies within the bytes and the capture
pub whole_fits : (offset : ℕ) (x : List ℕ) (n : ℕ) → record_at offset x ≡ Whole n → (n ≤ length x) × (offset + n ≤ MAX_CAPTURE)
whole_fits offset x n w = let t = whole_tells offset x n w in (omega (arith, t.size, t.fits), omega (arith, t.size, t.near))

pub whole_given : (offset : ℕ) (x y : List ℕ) (n : ℕ) → record_at offset x ≡ Whole n → y ≡ x
    → record_at offset (take n y) ≡ Whole (length (take n y))
whole_given offset x y n w same =
    let f = whole_fits offset x n w in
    let here : record_at offset (take n y) ≡ Whole n = ap (λ b. record_at offset (take n b)) same ∙ whole_alone offset x n w in
    let len : length (take n y) ≡ n = length-take-le n y (omega (arith, f.0, ap length same)) in
    here ∙ ap Whole (sym len)

-- an offset goes on by a whole record
pub whole_moves : (offset : ℕ) (x : List ℕ) (n : ℕ) → record_at offset x ≡ Whole n → Moves offset (offset + n)
whole_moves offset x n w = let t = whole_tells offset x n w in record { on = omega (arith, t.size); within = omega (arith, t.size, t.near) }

-- the magic was the first of the bytes
pub magic_taken : (old : Reading) (coming held : List ℕ) (after : Option (List ℕ)) → old.opened ≡ false
    → option_map (λ rest. magic ++ (held ++ rest)) after ≡ Some (old.held ++ coming)
    → (rest : List ℕ) × (after ≡ Some rest) × (ahead old coming ≡ Some (held ++ rest))
magic_taken old coming held None closed h = let e : None ≡ Some (old.held ++ coming) = h in cc
magic_taken old coming held (Some rest) closed h =
    let e : Some (magic ++ (held ++ rest)) ≡ Some (old.held ++ coming) = h in
    let f : old.held ++ coming ≡ magic ++ (held ++ rest) = cc in
    (rest, refl, ap (λ b. to_give b (old.held ++ coming)) closed ∙ ap past_magic f)

-- what is held is a front of the bytes
pub held_first : (held whole : List ℕ) (after : Option (List ℕ)) → option_map (λ rest. held ++ rest) after ≡ Some whole
    → (rest : List ℕ) × (after ≡ Some rest) × (whole ≡ held ++ rest)
held_first held whole None h = let e : None ≡ Some whole = h in cc
held_first held whole (Some rest) h = let e : Some (held ++ rest) ≡ Some whole = h in (rest, refl, cc)

-- the record at the front of what is held is the first of all that is ahead
pub gives_record : (offset : ℕ) (held bytes : List ℕ) (after : Option (List ℕ)) (size : ℕ)
    → option_map (λ rest. held ++ rest) after ≡ Some bytes
    → record_at offset held ≡ Whole size
    → GivesRecord offset bytes (entry_in offset (take size held)) (offset + size) (option_map (λ rest. drop size held ++ rest) after)
gives_record offset held bytes after size h whole =
    let f = held_first held bytes after h in
    let fits = whole_fits offset held size whole in
    let same : take size bytes ≡ take size held = ap (take size) f.2 ∙ take-append-le size held f.0 fits.0 in
    record {
      size = size;
      whole = ap (record_at offset) f.2 ∙ whole_stays offset held f.0 size whole;
      is = ap (entry_in offset) (sym same);
      next_offset_is = ap (λ n. offset + n) (sym (ap length same ∙ length-take-le size held fits.0));
      rest = ap (λ (a : Option (List ℕ)). option_map (λ (r : List ℕ). drop size held ++ r) a) f.1
          ∙ ap Some (sym (drop-append-le size held f.0 fits.0) ∙ ap (drop size) (sym f.2));
    }

-- the end
pub gives_end : (offset : ℕ) (held bytes : List ℕ) (after : Option (List ℕ))
    → option_map (λ rest. held ++ rest) after ≡ Some bytes → held ≡ [] → held ≡ bytes
    → GivesNext offset bytes (Ok None) offset (option_map (λ rest. held ++ rest) after)
gives_end offset held bytes after h none all = let empty : bytes ≡ [] = sym all ∙ none in (empty, h ∙ ap Some empty, refl)

-- a refusal of what is held is one of the bytes
pub gives_refusal : (offset : ℕ) (first held coming : List ℕ) (after : Option (List ℕ)) (e : CaptureError)
    → option_map (λ rest. held ++ rest) after ≡ Some (first ++ coming) → AwaitsRecord offset first (Some coming) held (Err e)
    → IsRefused offset (first ++ coming) e
gives_refusal offset first held coming after BadMagic h is = is
gives_refusal offset first held coming after (BadRecord at why) h is = let f = held_first held (first ++ coming) after h in
    ap (record_at offset) f.2 ∙ bad_stays offset held f.0 (form.BadRecord at why) is
gives_refusal offset first held coming after (Truncated at) h is =
    let all : held ≡ first ++ coming = is.3 coming refl in
    (λ none. is.1 (all ∙ none), ap (record_at offset) (sym all) ∙ is.2, is.0)
gives_refusal offset first held coming after (TooLong at) h is = let f =
    held_first held (first ++ coming) after h in ap (record_at offset) f.2
    ∙ bad_stays offset held f.0 (form.TooLong at) is
gives_refusal offset first held coming after ReadFault h is = tt
gives_refusal offset first held coming after OutOfMemory h is = tt
