-- What a capture gives, record by record.
use Rattle.std.proofs.Common.{ℕ, ◌≡◌, Bool, true, false, List, [], take, drop, Option, None, refl, ◌∙◌, ap}
use Rattle.adb_outside.specs.declared.framer.Front.{Front}
use Rattle.adb_outside.specs.declared.framer.Front.TheVariants.{More, Bad, Whole}
use Rattle.adb_outside.specs.Framing.{Cut, cut, cut_by}
use Rattle.adb_outside.proofs.FramingLaws.{cut_first}
use Rattle.adb_capture.specs.Records.{record_at, entry_in, offset_after}
use Rattle.adb_capture.proofs.Fronts.{framing}
use Rattle.adb_capture.specs.declared.entry.Entry.{Entry}
use Rattle.adb_capture.specs.Faults.{error_of}
use Rattle.adb_capture.specs.declared.error.FormFault.{FormFault}
use Rattle.adb_history.specs.Machine.{History, state}
use Rattle.adb_history.specs.Refusal.{refusal_by}
use Rattle.adb_history.specs.declared.refusal.Refusal.{Refusal}
use Rattle.adb_history.specs.Accepted.{Accepted, refusal_of, is_input, ends_with, accept_by, unless_stopped, accept_from, accept_cut}
use Rattle.adb_history.specs.Accepted.{accept_records, end_of}

-- what is accepted from a record on
abbrev pub accept_at : ℕ → Entry → History → (History → Accepted) → Accepted
accept_at offset e h others = accept_by (refusal_of (state h) e) (is_input e) h offset e others

-- the same from a record that a reader gave
abbrev pub accept_entry : (placed : ℕ × Entry) → History → (History → Accepted) → Accepted
accept_entry placed h others = accept_at placed.0 placed.1 h others

-- a front of the records ahead decides what is accepted of them
abbrev pub accept_front : ℕ → List ℕ → Front FormFault → History → Accepted
accept_front offset bytes More h = accept_from [] (end_of None bytes offset) h
accept_front offset bytes (Bad fault) h = accept_from [] (refusal_by (error_of fault)) h
accept_front offset bytes (Whole n) h = unless_stopped (state h).stopped
    (accept_entry (entry_in offset (take n bytes)) h (accept_records (offset_after offset (take n bytes)) (drop n bytes)))

pub accept_first : (offset : ℕ) (bytes : List ℕ) (h : History)
    → accept_records offset bytes h ≡ accept_front offset bytes (record_at offset bytes) h
accept_first offset bytes h =
    ap (λ (c : Cut ℕ (ℕ × Entry) FormFault). accept_cut c h)
    (cut_first record_at entry_in offset_after framing offset bytes) ∙ go (record_at offset bytes)
  where
    go : (f : Front FormFault)
        → accept_cut (cut_by record_at entry_in offset_after offset bytes f (cut record_at entry_in offset_after)) h
        ≡ accept_front offset bytes f h
    go More = refl
    go (Bad why) = refl
    go (Whole n) = refl

-- ---- after a kill
-- nothing more is accepted
pub accept_stopped : (offset : ℕ) (bytes : List ℕ) (h : History) → (state h).stopped ≡ true → accept_records offset bytes h ≡ ends_with None
accept_stopped offset bytes h stopped = accept_first offset bytes h ∙ go (record_at offset bytes)
  where
    nothing : (a : Accepted) → unless_stopped (state h).stopped a ≡ ends_with None
    nothing a = ap (λ b. unless_stopped b a) stopped

    go : (f : Front FormFault) → accept_front offset bytes f h ≡ ends_with None
    go More = nothing _
    go (Bad why) = nothing _
    go (Whole n) = nothing _

-- where the records end, nothing more is accepted, whether a kill was made or not
pub nothing_given : (stopped : Bool) (refused : Option Refusal) → (unless_stopped stopped (ends_with refused)).inputs ≡ []
nothing_given true refused = refl
nothing_given false refused = refl

pub nothing_refused : (stopped : Bool) → (unless_stopped stopped (ends_with None)).refused ≡ None
nothing_refused true = refl
nothing_refused false = refl
