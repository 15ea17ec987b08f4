use Rattle.adb_laws_resting.proofs.RestingSteps.{all_send_nothing}
use Rattle.adb_laws_resting.proofs.resting.most_entries_send_nothing.Goals as goal

pub returns : goal.returns
returns c = all_send_nothing
