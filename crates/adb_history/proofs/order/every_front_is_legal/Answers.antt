use Rattle.std.proofs.Common.{List, [], ◌∷◌, ◌++◌}
use Rattle.adb_capture.specs.declared.entry.Entry.{Entry}
use Rattle.adb_history.specs.Machine.{IsLegal}
use Rattle.adb_history.proofs.order.every_front_is_legal.Goals as goal

front_legal : (newer older : List Entry) → IsLegal (newer ++ older) → IsLegal older
front_legal [] older legal = legal
front_legal (e ∷ newer) older legal = front_legal newer older legal.0

pub returns : goal.returns
returns c = front_legal
