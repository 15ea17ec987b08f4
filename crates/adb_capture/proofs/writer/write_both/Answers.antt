use Rattle.std.proofs.Common.{◌++◌}
use Rattle.adb_outside.proofs.Joined.{written_past}
use Rattle.adb_capture.proofs.writer.write_both.Goals as goal

pub returns-in-Failed-write-clause-told : goal.returns-in-Failed-write-clause-told
returns-in-Failed-write-clause-told g c = λ out told.
    written_past out c.args.first.now c.args.last.now _ c.in-Failed-write.taken
    (c.in-Failed-write.ensures.told (out ++ c.args.first.now) (c.in-All-2.ensures.told out told))
