use Rattle.std.proofs.Common.{refl}
use Rattle.adb_top.proofs.Lines.{last_tried}
use Rattle.adb_top.specs.Notes.{write_fault_line, IsJust}
use Rattle.adb_top.specs.declared.status.Status.TheVariants.{WriteFault}
use Rattle.adb_top.proofs.note.say_lost_line.Goals as goal

pub returns-clause-told : goal.returns-clause-told
returns-clause-told g c = λ had has.
    last_tried (IsJust WriteFault write_fault_line) had c.say_write_fault-last.result _ _ _ (refl, refl)
    c.say_write_fault-last.ensures.counts.fault
    (c.say_write_fault-last.ensures.told had has)
