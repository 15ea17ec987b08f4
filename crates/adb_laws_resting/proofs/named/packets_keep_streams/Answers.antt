use Rattle.adb_history.proofs.LinkMoves.{all_linked}
use Rattle.adb_history.specs.Machine.{state}
use Rattle.adb_laws_resting.proofs.NamedStreams.{treated_keep, rested_keep}
use Rattle.adb_laws_resting.proofs.named.packets_keep_streams.Goals as goal

pub returns-clause-treated : goal.returns-clause-treated
returns-clause-treated c h legal t packets = treated_keep t packets (state h) (all_linked h legal)

pub returns-clause-rested : goal.returns-clause-rested
returns-clause-rested c h legal t rest packets = rested_keep t rest packets (state h) (all_linked h legal)
