use Rattle.adb_laws_resting.proofs.RestingOpen.{goes_up_alone}
use Rattle.adb_laws_resting.proofs.resting.a_client_sends_up_its_own_stream.Goals as goal

pub returns : goal.returns
returns c = goes_up_alone
