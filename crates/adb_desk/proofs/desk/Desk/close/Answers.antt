use Rattle.std.proofs.Common.{sym, subst}
use Rattle.adb_desk.specs.Left.{HasRecorded}
use Rattle.adb_desk.proofs.Staying.{recorded_promises}
use Rattle.adb_desk.proofs.desk.Desk.close.Goals as goal

pub returns-clause-left : goal.returns-clause-left
returns-clause-left g c = record {
  recorded = subst (HasRecorded g.R.Recorder.stands) (sym c.close-shut.ensures.recorder)
      (recorded_promises g.R.Recorder.stands c.self.inside.log.recorder _ c.self.invariant
      c.every_legal_history_is_fifo.ensures c.every_legal_history_has_causes.ensures c.every_legal_history_is_answered.ensures
      c.every_stream_keeps_its_window.ensures);
  failed = c.close-shut.ensures.failed;
  sound = c.close-shut.ensures.sound;
}
