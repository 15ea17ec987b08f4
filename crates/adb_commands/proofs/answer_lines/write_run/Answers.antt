use Rattle.std.proofs.lemmas.Result.{err_from_is_err_and}
use Rattle.adb_commands.proofs.AnswerLines.{none_out}
use Rattle.adb_commands.proofs.answer_lines.write_run.Goals as goal

pub returns-in_err-world-clause-out : goal.returns-in_err-world-clause-out
returns-in_err-world-clause-out g c =
    let passed = err_from_is_err_and c.from_residual.result c.from_residual.ensures.1 in
    rw (passed.1) (λ had has. none_out had _ _ has)
