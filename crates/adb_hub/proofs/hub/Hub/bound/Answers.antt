use Rattle.std.proofs.Common.{◌∷◌, sym, subst}
use Rattle.adb_capture.specs.declared.entry.Entry.TheVariants.{Bound}
use Rattle.adb_history.specs.Kept.{Kept, IsLawful}
use Rattle.adb_hub.proofs.Steps.{open_client, bound_called, called_sound, called_lawful, called_allowed}
use Rattle.adb_hub.proofs.hub.Hub.bound.Goals as goal

pub invariant_of-self-2 : goal.invariant_of-self-2
invariant_of-self-2 c =
    let t = c.self.inside.tables in
    let named = open_client t c.args.self.now c.self.view_is c.args.client c.ranges.client.fits c.in_ok-look_for_client.ensures in
    called_sound (Bound c.args.client c.args.port) t c.bound.new.tables
    (bound_called c.args.client t c.bound.new.tables c.self.invariant c.args.port c.ranges.port.fits named c.in_ok-bound.ensures.made)

pub returns-clause-bound : goal.returns-clause-bound
returns-clause-bound c h lawful =
    let t = c.self.inside.tables in
    let named = open_client t c.args.self.now c.self.view_is c.args.client c.ranges.client.fits c.in_ok-look_for_client.ensures in
    let called = bound_called c.args.client t c.bound.new.tables c.self.invariant c.args.port c.ranges.port.fits named
    c.in_ok-bound.ensures.made in
    let before = subst (λ (k : Kept). IsLawful k h) (sym c.self.view_is) lawful in
    let after = called_lawful (Bound c.args.client c.args.port) t c.bound.new.tables called h before in (
      called_allowed (Bound c.args.client c.args.port) t c.bound.new.tables called h before,
      after,
      c.client_life.ensures (Bound c.args.client c.args.port ∷ h) after,
    )
