use Rattle.adb_history.proofs.OutputEntries.{all_due_past_put}
use Rattle.adb_history.proofs.ties.due_is_past_put.Goals as goal

pub returns : goal.returns
returns c = all_due_past_put
