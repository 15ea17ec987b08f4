use Rattle.std.proofs.Common.{sym, ◌∙◌, refl}
use Rattle.adb_capture.specs.declared.entry.Entry.TheVariants.{Join}
use Rattle.adb_desk.proofs.Staying.{stays_recorded, came_as}
use Rattle.adb_desk.proofs.desk.Desk.try_join.Goals as goal

pub invariant_of-self-in-Ok : goal.invariant_of-self-in-Ok
invariant_of-self-in-Ok g c =
    stays_recorded g.R.Recorder.stands c.self.inside.log.recorder c.keep_still.new.self.recorder
    (record { hub = c.self.inside.hub; log = c.self.inside.log.is }) (Join c.in-Ok.client) c.join.new.self
    c.keep_still.result c.keep_still.new.self.is c.self.invariant (sym c.shut.ensures.shut ∙ c.in_default.is)
    (λ h lawful. (
      refl,
      came_as Join c.in-Ok.client _ c.join.new.self h
          (c.in-Ok.ensures.joined h lawful).1 (c.in-Ok.ensures.joined h lawful).2,
    )) c.keep_still.ensures.keeps c.keep_still.ensures.kept
