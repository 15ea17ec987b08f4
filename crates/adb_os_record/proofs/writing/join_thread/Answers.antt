use Rattle.adb_os_record.proofs.GoingOut.{settles}
use Rattle.adb_os_record.proofs.writing.join_thread.Goals as goal

pub returns : goal.returns
returns g c = λ had at_first.
    rw c.all_went.ensures
    (settles had _ _ _ c.join-input.result.ended c.join-input.result.torn _ c.args.end.put
    c.join-input.result.input.taken
    (c.join-input.ensures.2 had at_first) c.compare.ensures.front c.join-input.ensures.1 c.compare.ensures.whole)
