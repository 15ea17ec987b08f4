use Rattle.adb_os_record.proofs.GoingOut.{serves_capture}
use Rattle.adb_os_record.proofs.live.end_record.Goals as goal

pub returns : goal.returns
returns g c = λ kept keeps had at_first.
    serves_capture had _ _ _ _ kept (c.in_ok-settled.ensures had at_first) (c.in_ok-end.ensures.put kept keeps)
