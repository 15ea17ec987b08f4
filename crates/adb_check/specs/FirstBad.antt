-- The first entry of a history that may not come after those before it.
use Rattle.std.specs.Prelude.{ℕ, ◌+◌, ◌≡◌, ◌∷◌, ◌++◌, length}
use Rattle.adb_capture.specs.declared.entry.Entry.{Entry}
use Rattle.adb_history.specs.Machine.{History, IsLegal, state}
use Rattle.adb_check.specs.Rules.{BreaksFirst}
use Rattle.adb_check.specs.declared.verdict.Rule.{Rule}

-- its place, from 1, and the first rule that it breaks
pub record Bad : Type 0 where
  pub place : ℕ
  pub rule : Rule

-- Those before an entry are legal, and with it they are not.
pub record IsFirstBad (h : History) (bad : Bad) : Type 0 where
  pub later : History
  pub entry : Entry
  pub earlier : History
  pub is : h ≡ later ++ entry ∷ earlier
  pub legal : IsLegal earlier
  pub illegal : ¬ IsLegal (entry ∷ earlier)
  pub at : bad.place ≡ length earlier + 1
  pub breaks : BreaksFirst bad.rule (state earlier) entry
