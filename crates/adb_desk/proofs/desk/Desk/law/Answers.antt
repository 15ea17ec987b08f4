use Rattle.std.proofs.Common.{subst}
use Rattle.adb_desk.specs.Desk.{DeskView}
use Rattle.adb_desk.specs.Sound.{IsSound, TellsPromises, sound_of}
use Rattle.adb_desk.proofs.Staying.{told_promises}
use Rattle.adb_desk.proofs.desk.Desk.law.Goals as goal

pub returns-clause-promises : goal.returns-clause-promises
returns-clause-promises g c =
    subst (λ (d : DeskView). TellsPromises d.log.told) c.self.view_is
    (told_promises c.self.inside.log.is.told c.self.invariant.history c.self.invariant.told c.self.invariant.legal
    c.every_legal_history_is_fifo.ensures c.every_legal_history_has_causes.ensures c.every_legal_history_is_answered.ensures
    c.every_stream_keeps_its_window.ensures)

pub returns-clause-sound : goal.returns-clause-sound
returns-clause-sound g c = subst IsSound c.self.view_is (sound_of c.self.invariant)
