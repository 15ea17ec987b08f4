use Rattle.adb_laws_resting.proofs.WantedReads.{sound_next}
use Rattle.adb_laws_resting.proofs.WantedStates.{sound_over_table}
use Rattle.adb_laws_resting.proofs.wanted.what_follows_can_be_done.Goals as goal

pub returns-clause-read : goal.returns-clause-read
returns-clause-read c = sound_next

pub returns-clause-asked : goal.returns-clause-asked
returns-clause-asked c = sound_over_table
