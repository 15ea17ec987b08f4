use Rattle.std.proofs.Common.{inr}
use Rattle.adb_top.proofs.Lines.{line_said, line_cut, rises_on, rises_twice}
use Rattle.adb_top.proofs.note.say.Goals as goal

pub returns-in-All-clause-told : goal.returns-in-All-clause-told
returns-in-All-clause-told g c = λ had has.
    line_said c.args.status c.args.line.now had _ _ _ _ c.requires.own c.requires.other (c.in-All.ensures.told had has)

pub returns-in-Failed-clause-told : goal.returns-in-Failed-clause-told
returns-in-Failed-clause-told g c = λ had has.
    inr (
      rises_on c.in-Failed.ensures.counts c.say_write_fault-last.ensures.counts,
      line_cut c.args.status c.args.line.now had c.in-Failed.taken c.say_write_fault-last.result c.requires.own c.requires.other
          (c.in-Failed.ensures.told had has) c.say_write_fault-last.ensures.told
          (rises_twice c.in-Failed.ensures.counts c.say_write_fault-last.ensures.counts),
    )
