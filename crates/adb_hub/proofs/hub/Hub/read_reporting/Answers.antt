use Rattle.std.proofs.Common.{ℕ, ◌≤◌, ◌∷◌, ◌<◌, sym, subst, arith}
use Rattle.std.proofs.lemmas.List.Elements.{All-from_get_or}
use Rattle.adb_capture.specs.declared.entry.Entry.TheVariants.{Read}
use Rattle.adb_history.specs.Kept.{Kept, IsLawful}
use Rattle.adb_hub.proofs.Reported.{reported}
use Rattle.adb_hub.proofs.Steps.{open_client, read_called, called_sound, called_lawful, called_allowed}
use Rattle.adb_hub.proofs.hub.Hub.read_reporting.Goals as goal

pub invariant_of-self-2 : goal.invariant_of-self-2
invariant_of-self-2 c =
    let t = c.self.inside.tables in
    let named = open_client t c.args.self.now c.self.view_is c.args.client c.ranges.client.fits c.in_ok-look_for_client.ensures in
    let are = All-from_get_or (λ b. b < 256) c.args.piece.now 0 (λ i within. omega (arith, c.type_inv.piece i)) in
    called_sound (Read c.args.client c.args.piece.now) t c.read.new.tables
    (read_called c.args.client t c.read.new.tables c.self.invariant c.args.piece.now are named c.in_ok-read.ensures.made)

pub returns-clause-read : goal.returns-clause-read
returns-clause-read c h lawful =
    let t = c.self.inside.tables in
    let named = open_client t c.args.self.now c.self.view_is c.args.client c.ranges.client.fits c.in_ok-look_for_client.ensures in
    let are = All-from_get_or (λ b. b < 256) c.args.piece.now 0 (λ i within. omega (arith, c.type_inv.piece i)) in
    let called = read_called c.args.client t c.read.new.tables c.self.invariant c.args.piece.now are named c.in_ok-read.ensures.made in
    let before = subst (λ (k : Kept). IsLawful k h) (sym c.self.view_is) lawful in
    let after = called_lawful (Read c.args.client c.args.piece.now) t c.read.new.tables called h before in (
      called_allowed (Read c.args.client c.args.piece.now) t c.read.new.tables called h before,
      after,
      c.client_life.ensures (Read c.args.client c.args.piece.now ∷ h) after,
    )

pub returns-clause-reports : goal.returns-clause-reports
returns-clause-reports c h lawful =
    let t = c.self.inside.tables in
    let before = subst (λ (k : Kept). IsLawful k h) (sym c.self.view_is) lawful in
    let places = subst (λ (n : ℕ). n ≤ c.reserve.new.self.spare) c.len.ensures.count c.in_ok-reserve.ensures.ok in
    reported (Read c.args.client c.args.piece.now) t c.args.ends.now c.reserve.new.self c.read.new.ends c.self.invariant
    c.reserve.ensures.list places c.in_ok-read.ensures.told h before
