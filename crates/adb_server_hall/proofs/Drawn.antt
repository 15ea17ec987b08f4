-- What a hall tells of who came.
use Rattle.std.proofs.Common.{ℕ, ◌≡◌, sym, ap, subst}
use Rattle.adb_capture.specs.declared.entry.Entry.{Entry}
use Rattle.adb_server_log.specs.Log.{LogView}
use Rattle.adb_desk.specs.Desk as desk
use Rattle.adb_desk.specs.Desk.{DeskView}
use Rattle.adb_server_hall.specs.Telling.{Entered, Telling, telling_of}

-- An entry of the desk is one of the hall that tells what the desk tells.
pub drawn_told : (e : ℕ → Entry) (n m : ℕ) (before quiet after : DeskView) → desk.Entered before (e n) quiet → m ≡ n
    → telling_of after ≡ telling_of quiet → Entered (e m) (telling_of before) (telling_of after)
drawn_told e n m before quiet after made is same =
    subst (λ (t : Telling). Entered (e m) (telling_of before) t) (sym same)
    (subst (λ (x : ℕ). Entered (e x) (telling_of before) (telling_of quiet)) (sym is) (record {
      going = made.going;
      steps = made.steps;
      told = ap (λ (l : LogView). l.told) made.log;
    }))
