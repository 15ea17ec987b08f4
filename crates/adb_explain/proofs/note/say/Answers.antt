use Rattle.adb_explain.proofs.Said.{said}
use Rattle.adb_explain.proofs.note.say.Goals as goal

pub returns-in-All-clause-told : goal.returns-in-All-clause-told
returns-in-All-clause-told g c = λ had has.
    said c.args.status c.args.line.now had _ c.requires.own c.requires.other (c.in-All.ensures.told had has)
