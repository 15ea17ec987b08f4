-- What a capture holds by form alone.
use Rattle.std.specs.Prelude.{ℕ, List, [], map, reverse, length, Option, Some, None}
use Rattle.adb_outside.specs.Framing.{Cut, cut}
use Rattle.adb_capture.specs.Records.{magic, record_at, entry_in, offset_after}
use Rattle.adb_capture_reader.specs.Reading.{past_magic}
use Rattle.adb_capture.specs.declared.entry.Entry.{Entry}
use Rattle.adb_capture.specs.declared.error.FormFault.{FormFault}
use Rattle.adb_capture.specs.declared.error.CaptureError.TheVariants.{BadMagic}
use Rattle.adb_history.specs.Machine.{History}
use Rattle.adb_history.specs.Accepted.{end_of}
use Rattle.adb_history.specs.Refusal.{refusal_by}
use Rattle.adb_history.specs.declared.refusal.Refusal.{Refusal}

-- its entries, the oldest first, and why it ends before its end
pub record Formed : Type 0 where
  pub entries : List Entry
  pub refused : Option Refusal

abbrev pub formed_cut : Cut ℕ (ℕ × Entry) FormFault → Formed
formed_cut c = record { entries = map (λ (placed : ℕ × Entry). placed.1) c.given; refused = end_of c.fault c.rest c.reading }

-- of the records behind an offset
abbrev pub formed_records : ℕ → List ℕ → Formed
formed_records offset bytes = formed_cut (cut record_at entry_in offset_after offset bytes)

-- without the magic there are none
abbrev pub formed_ahead : ℕ → Option (List ℕ) → Formed
formed_ahead offset (Some bytes) = formed_records offset bytes
formed_ahead offset None = record { entries = []; refused = refusal_by BadMagic }

abbrev pub formed : List ℕ → Formed
formed capture = formed_ahead (length magic) (past_magic capture)

-- its history, the newest entry first
abbrev pub history_of : Formed → History
history_of f = reverse f.entries
