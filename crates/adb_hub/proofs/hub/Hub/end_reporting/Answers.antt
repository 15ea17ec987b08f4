use Rattle.std.proofs.Common.{ℕ, ◌≤◌, ◌∷◌, sym, subst}
use Rattle.adb_capture.specs.declared.entry.Entry.TheVariants.{End}
use Rattle.adb_history.specs.Kept.{Kept, IsLawful}
use Rattle.adb_hub.proofs.Reported.{reported}
use Rattle.adb_hub.proofs.Steps.{open_client, end_called, called_sound, called_lawful, called_allowed}
use Rattle.adb_hub.proofs.hub.Hub.end_reporting.Goals as goal

pub invariant_of-self : goal.invariant_of-self
invariant_of-self c =
    let t = c.self.inside.tables in
    let named = open_client t c.args.self.now c.self.view_is c.args.client c.ranges.client.fits c.in_ok-look_for_client.ensures in
    called_sound (End c.args.client c.args.cause) t c.end.new.tables
    (end_called c.args.client t c.end.new.tables c.self.invariant c.args.cause named c.end.ensures.made)

pub returns-clause-ended : goal.returns-clause-ended
returns-clause-ended c h lawful =
    let t = c.self.inside.tables in
    let named = open_client t c.args.self.now c.self.view_is c.args.client c.ranges.client.fits c.in_ok-look_for_client.ensures in
    let called = end_called c.args.client t c.end.new.tables c.self.invariant c.args.cause named c.end.ensures.made in
    let before = subst (λ (k : Kept). IsLawful k h) (sym c.self.view_is) lawful in
    let after = called_lawful (End c.args.client c.args.cause) t c.end.new.tables called h before in (
      called_allowed (End c.args.client c.args.cause) t c.end.new.tables called h before,
      after,
      c.client_life.ensures (End c.args.client c.args.cause ∷ h) after,
    )

pub returns-clause-reports : goal.returns-clause-reports
returns-clause-reports c h lawful =
    let t = c.self.inside.tables in
    let before = subst (λ (k : Kept). IsLawful k h) (sym c.self.view_is) lawful in
    let places = subst (λ (n : ℕ). n ≤ c.reserve.new.self.spare) c.len.ensures.count c.in_ok-reserve.ensures.ok in
    reported (End c.args.client c.args.cause) t c.args.ends.now c.reserve.new.self c.end.new.ends c.self.invariant c.reserve.ensures.list
    places c.end.ensures.told h before
