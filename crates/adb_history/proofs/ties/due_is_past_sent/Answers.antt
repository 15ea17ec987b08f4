use Rattle.adb_history.proofs.OutputEntries.{all_due_past_sent}
use Rattle.adb_history.proofs.ties.due_is_past_sent.Goals as goal

pub returns : goal.returns
returns c = all_due_past_sent
