use Rattle.std.proofs.Common.{sym, ◌∙◌, refl, rules, subst}
use Rattle.adb_capture.specs.declared.entry.Entry.TheVariants.{Attach}
use Rattle.adb_desk.specs.Desk.{DeskView, Draws}
use Rattle.adb_desk.proofs.Staying.{stays_recorded, came_as, attach_drawn}
use Rattle.adb_desk.proofs.desk.Desk.try_attach.Goals.{in-Err-keep_attach, in-Ok-keep_attach}
use Rattle.adb_desk.proofs.desk.Desk.try_attach.Goals as goal

pub invariant_of-self-in-Ok-attach : goal.invariant_of-self-in-Ok-attach
invariant_of-self-in-Ok-attach g c =
    let link = c.in-Ok-attach.link in
    stays_recorded g.R.Recorder.stands c.self.inside.log.recorder c.keep_attach.new.log.recorder
    (record { hub = c.self.inside.hub; log = c.self.inside.log.is }) (Attach link c.args.kind c.args.serial.now) c.attach.new.self
    c.keep_attach.result c.keep_attach.new.log.is c.self.invariant (sym c.shut.ensures.shut ∙ c.in_default.is)
    (λ h lawful. (
      refl,
      came_as (λ n. Attach n c.args.kind c.args.serial.now) link _ c.attach.new.self h
          (c.in-Ok-attach.ensures.attached h lawful).1 (c.in-Ok-attach.ensures.attached h lawful).2,
    )) c.keep_attach.ensures.keeps c.keep_attach.ensures.kept

pub returns-after-keep_attach-clause-attach : goal.returns-after-keep_attach-clause-attach
returns-after-keep_attach-clause-attach g c = elim c.match-keep_attach.branch [
  | in-Err-keep_attach w ↦ search rules
  | in-Ok-keep_attach w ↦
      subst (λ (v : DeskView). Draws v (λ n. Attach n c.args.kind c.args.serial.now) c.match-keep_attach.result
      (record { hub = c.attach.new.self; log = c.keep_attach.new.log.is })) c.self.view_is
      (rw w.result-is (attach_drawn (record { hub = c.self.inside.hub; log = c.self.inside.log.is }) c.args.kind c.args.serial.now
      c.in-Ok-attach.link c.attach.new.self c.keep_attach.new.log.is c.keep_attach.result w.in-Ok-keep_attach.is
      (sym c.shut.ensures.shut ∙ c.in_default.is) c.in-Ok-attach.ensures.attached c.keep_attach.ensures.keeps))
]
