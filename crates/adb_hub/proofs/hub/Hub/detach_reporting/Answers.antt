use Rattle.std.proofs.Common.{ℕ, ◌≤◌, ◌∷◌, sym, subst}
use Rattle.adb_capture.specs.declared.entry.Entry.TheVariants.{Detach}
use Rattle.adb_history.specs.Kept.{Kept, IsLawful}
use Rattle.adb_hub.proofs.Reported.{reported}
use Rattle.adb_hub.proofs.Steps.{open_link, detach_called, called_sound, called_lawful, called_allowed}
use Rattle.adb_hub.proofs.hub.Hub.detach_reporting.Goals as goal

pub invariant_of-self : goal.invariant_of-self
invariant_of-self c =
    let t = c.self.inside.tables in
    let named = open_link t c.args.self.now c.self.view_is c.args.link c.ranges.link.fits c.in_ok-look_for_link.ensures in
    called_sound (Detach c.args.link c.args.cause) t c.detach.new.tables
    (detach_called c.args.link t c.detach.new.tables c.self.invariant c.args.cause named (c.detach.ensures.made c.args.cause))

pub returns-clause-detached : goal.returns-clause-detached
returns-clause-detached c h lawful =
    let t = c.self.inside.tables in
    let named = open_link t c.args.self.now c.self.view_is c.args.link c.ranges.link.fits c.in_ok-look_for_link.ensures in
    let called = detach_called c.args.link t c.detach.new.tables c.self.invariant c.args.cause named (c.detach.ensures.made c.args.cause) in
    let before = subst (λ (k : Kept). IsLawful k h) (sym c.self.view_is) lawful in
    let after = called_lawful (Detach c.args.link c.args.cause) t c.detach.new.tables called h before in (
      called_allowed (Detach c.args.link c.args.cause) t c.detach.new.tables called h before,
      after,
      c.link_life.ensures (Detach c.args.link c.args.cause ∷ h) after,
    )

pub returns-clause-reports : goal.returns-clause-reports
returns-clause-reports c h lawful =
    let t = c.self.inside.tables in
    let before = subst (λ (k : Kept). IsLawful k h) (sym c.self.view_is) lawful in
    let places = subst (λ (n : ℕ). n ≤ c.reserve.new.self.spare) c.len.ensures.count c.in_ok-reserve.ensures.ok in
    reported (Detach c.args.link c.args.cause) t c.args.ends.now c.reserve.new.self c.detach.new.ends c.self.invariant
    c.reserve.ensures.list places (c.detach.ensures.told c.args.cause) h before
