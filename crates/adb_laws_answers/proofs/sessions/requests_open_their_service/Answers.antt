use Rattle.adb_laws_answers.specs.Model.{model_devices}
use Rattle.adb_laws_answers.proofs.Leading.{leads}
use Rattle.adb_laws_answers.proofs.Reading.{opens_service}
use Rattle.adb_laws_answers.proofs.sessions.requests_open_their_service.Goals as goal

pub returns : goal.returns
returns c = λ service text front known first. opens_service model_devices leads c.spelled_is_read.ensures service text front known first
