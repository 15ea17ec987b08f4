-- A history is counted, entry by entry.
use Rattle.std.proofs.Common.{ℕ, ◌+◌, ◌≡◌, ◌∷◌, length, ◌∙◌, ap, arith, suc}
use Rattle.adb_capture.specs.declared.entry.Entry.{Entry}
use Rattle.adb_history.specs.Machine.{History, IsLegal}
use Rattle.adb_run_load.specs.Totals.{told}
use Rattle.adb_run_load.specs.Counted.{IsCount, AddsDown, AddsUp}
use Rattle.adb_run_load.specs.declared.count.Count.{Count}
use Rattle.adb_run_load.proofs.Sums.{told_more}
use Rattle.adb_run_load.proofs.PastLeads.{down_added}
use Rattle.adb_run_load.proofs.SentUp.{up_added}

pub count_added : (e : Entry) (h : History) (old new : Count) → IsLegal (e ∷ h) → IsCount h old
    → AddsUp e old.up new.up → AddsDown e old.down new.down
    → new.entries ≡ told (old.entries + 1) → IsCount (e ∷ h) new
count_added e h old new legal k ups downs one = record {
  entries = one ∙ (ap (λ n. told (n + 1)) k.entries ∙ (told_more (length h) 1 ∙ ap told (longer (length h))));
  up = up_added e h old.up new.up legal k.up ups;
  down = down_added e h old.down new.down legal k.down downs;
}
  where
    longer : (n : ℕ) → n + 1 ≡ suc n
    longer n = omega arith
