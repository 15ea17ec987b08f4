use Rattle.adb_laws_steps.proofs.Tolls.{tolls_paid}
use Rattle.adb_laws_steps.proofs.laws.tolls_are_paid.Goals as goal

pub returns : goal.returns
returns c = λ before more legal worth. tolls_paid before more legal worth
