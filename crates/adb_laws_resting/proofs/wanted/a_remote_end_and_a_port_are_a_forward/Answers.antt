use Rattle.adb_laws_resting.proofs.WantedAnswers.{specified}
use Rattle.adb_laws_resting.proofs.wanted.a_remote_end_and_a_port_are_a_forward.Goals as goal

pub returns : goal.returns
returns c = specified
