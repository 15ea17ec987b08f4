use Rattle.adb_entry_lines.proofs.Runs.{front_pushed}
use Rattle.adb_entry_lines.proofs.text.push_run.Goals as goal

pub returns-then-are_numbered-clause-pushed : goal.returns-then-are_numbered-clause-pushed
returns-then-are_numbered-clause-pushed c =
    front_pushed c.args.text.now c.push_numbers.new.text c.args.bytes.now c.in-len4-up.len_at_least
    (c.are_numbered.ensures c.if-are_numbered.true) c.in_ok-push_numbers.ensures
