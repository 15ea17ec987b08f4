use Rattle.std.specs.List.{concat}
use Rattle.adb_script.specs.Told.{texts_of}
use Rattle.adb_commands.specs.declared.script_kind.ScriptKind.TheVariants as kinds
use Rattle.adb_commands.proofs.AnswerLines.{copies_are, lost_out}
use Rattle.adb_commands.proofs.answering.answer_copy.Goals as goal

pub returns-in-Ok-write_lines-clause-writes : goal.returns-in-Ok-write_lines-clause-writes
returns-in-Ok-write_lines-clause-writes g c = λ had has. record {
  text = concat (texts_of c.as_slice.result.now);
  answers = copies_are c.args.script.now c.in-Ok.lines.items c.as_slice.result.now c.in-Ok.ensures.lines c.as_slice.ensures.value;
  is = c.in-Ok-write_lines.ensures.out had has;
}

pub returns-clause-writes : goal.returns-clause-writes
returns-clause-writes g c = λ had has.
    lost_out kinds.Copy c.in-Err-write_lines.why c.lost_by.result c.args.script.now
    (concat (texts_of c.as_slice.result.now)) had _ c.lost_by.ensures
    (copies_are c.args.script.now c.in-Ok.lines.items c.as_slice.result.now c.in-Ok.ensures.lines c.as_slice.ensures.value)
    (c.in-Err-write_lines.ensures.out had has)
