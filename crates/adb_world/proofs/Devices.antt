-- A world that runs knows the model device, whichever history it stands for.
use Rattle.std.specs.Prelude.{◌≡◌}
use Rattle.std.proofs.Common.{sym, ◌∙◌, ap}
use Rattle.adb_history.specs.Book.{devices}
use Rattle.adb_history.specs.Kept.{Kept}
use Rattle.adb_history.specs.Machine.{History}
use Rattle.adb_history.proofs.Books.{all_books}
use Rattle.adb_laws_worlds.specs.Unbroken.{BringsSound}
use Rattle.adb_laws_answers.specs.Model.{model_devices}
use Rattle.adb_laws_answers.specs.Sessions.{AsksForServices}
use Rattle.adb_world.specs.Parts.{Holds, IsRunning}
use Rattle.adb_world.specs.declared.parts.Parts.{Parts}
use Rattle.adb_world.proofs.Greeted.{known_devices}

pub devices_of : (parts : Parts) (runs : IsRunning parts) → BringsSound runs.history → AsksForServices runs.history
    → (h : History) → Holds h parts
    → devices h ≡ model_devices
devices_of parts runs sound asks h holds =
    sym (all_books h holds.lawful.legal).devices
    ∙ (sym (ap (λ (k : Kept). k.devices) holds.lawful.seen)
    ∙ (ap (λ (k : Kept). k.devices) runs.holds.lawful.seen
    ∙ ((all_books runs.history runs.holds.lawful.legal).devices
    ∙ known_devices runs.history sound runs.holds.here runs.holds.plugged_as runs.greeted runs.holds.one asks.killed)))
