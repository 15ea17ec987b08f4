use Rattle.adb_laws_answers.proofs.Histories.{asks_for_services}
use Rattle.adb_laws_answers.proofs.sessions.sessions_ask_for_services.Goals as goal

pub returns : goal.returns
returns c = λ history legal of. asks_for_services c.spelled_is_read.ensures history legal of
