use Rattle.std.proofs.Common.{[]}
use Rattle.std.specs.List.{concat}
use Rattle.adb_script.specs.Answers.{answers_from}
use Rattle.adb_commands.specs.declared.script_kind.ScriptKind.TheVariants as kinds
use Rattle.adb_commands.proofs.AnswerLines.{left_are, lost_out}
use Rattle.adb_commands.proofs.answering.answer_local.Goals as goal

pub returns-in-Ok-write_run-clause-writes : goal.returns-in-Ok-write_run-clause-writes
returns-in-Ok-write_run-clause-writes g c = λ had has. record {
  text = concat (answers_from c.in-Ok.run'.number [] c.in-Ok.run'.lines);
  answers = left_are c.args.script.now c.in-Ok.run' c.in-Ok.ensures.lines c.in-Ok.ensures.refuses;
  is = c.in-Ok-write_run.ensures.out had has;
}

pub returns-clause-writes : goal.returns-clause-writes
returns-clause-writes g c = λ had has.
    lost_out kinds.Local c.in-Err-write_run.why c.lost_by.result c.args.script.now
    (concat (answers_from c.in-Ok.run'.number [] c.in-Ok.run'.lines)) had _ c.lost_by.ensures
    (left_are c.args.script.now c.in-Ok.run' c.in-Ok.ensures.lines c.in-Ok.ensures.refuses)
    (c.in-Err-write_run.ensures.out had has)
