use Rattle.adb_script.proofs.answers.path_step.Goals as goal

pub returns : goal.returns
returns g c = c.in_ok-step.ensures c.in_ok-ask.ensures.stands
