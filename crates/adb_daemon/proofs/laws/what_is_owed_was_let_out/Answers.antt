use Rattle.adb_daemon.proofs.Allowed.{due_was_let_out, owed_was_let_out, front_was_let_out}
use Rattle.adb_daemon.proofs.laws.what_is_owed_was_let_out.Goals as goal

pub returns-clause-due : goal.returns-clause-due
returns-clause-due c = due_was_let_out

pub returns-clause-owed : goal.returns-clause-owed
returns-clause-owed c = owed_was_let_out

pub returns-clause-front : goal.returns-clause-front
returns-clause-front c = front_was_let_out
