use Rattle.std.proofs.Common.{sym, ◌∙◌, refl}
use Rattle.adb_capture.specs.declared.entry.Entry.TheVariants.{Enter}
use Rattle.adb_desk.proofs.Staying.{stays_recorded, came_as}
use Rattle.adb_desk.proofs.desk.Desk.try_enter.Goals as goal

pub invariant_of-self-in-Ok : goal.invariant_of-self-in-Ok
invariant_of-self-in-Ok g c =
    stays_recorded g.R.Recorder.stands c.self.inside.log.recorder c.keep_still.new.self.recorder
    (record { hub = c.self.inside.hub; log = c.self.inside.log.is }) (Enter c.in-Ok.client c.args.port) c.enter.new.self
    c.keep_still.result c.keep_still.new.self.is c.self.invariant (sym c.shut.ensures.shut ∙ c.in_default.is)
    (λ h lawful. (
      refl,
      came_as (λ n. Enter n c.args.port) c.in-Ok.client _ c.enter.new.self h
          (c.in-Ok.ensures.entered h lawful).1 (c.in-Ok.ensures.entered h lawful).2,
    )) c.keep_still.ensures.keeps c.keep_still.ensures.kept
