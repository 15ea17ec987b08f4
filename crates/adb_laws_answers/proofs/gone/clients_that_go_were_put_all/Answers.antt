use Rattle.adb_laws_answers.proofs.PutAll.{all_put}
use Rattle.adb_laws_answers.proofs.gone.clients_that_go_were_put_all.Goals as goal

pub returns : goal.returns
returns c = all_put
