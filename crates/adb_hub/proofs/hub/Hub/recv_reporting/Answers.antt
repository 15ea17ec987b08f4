use Rattle.std.proofs.Common.{ℕ, ◌≤◌, ◌∷◌, ◌<◌, sym, subst, arith}
use Rattle.std.proofs.lemmas.List.Elements.{All-from_get_or}
use Rattle.adb_capture.specs.declared.entry.Entry.TheVariants.{Recv}
use Rattle.adb_history.specs.Kept.{Kept, IsLawful}
use Rattle.adb_hub.proofs.Reported.{reported}
use Rattle.adb_hub.proofs.Steps.{open_link, recv_called, called_sound, called_lawful, called_allowed}
use Rattle.adb_hub.proofs.hub.Hub.recv_reporting.Goals as goal

pub invariant_of-self-2 : goal.invariant_of-self-2
invariant_of-self-2 c =
    let t = c.self.inside.tables in
    let named = open_link t c.args.self.now c.self.view_is c.args.link c.ranges.link.fits c.in_ok-look_for_link.ensures in
    let are = All-from_get_or (λ b. b < 256) c.args.piece.now 0 (λ i within. omega (arith, c.type_inv.piece i)) in
    called_sound (Recv c.args.link c.args.piece.now) t c.recv.new.tables
    (recv_called c.args.link t c.recv.new.tables c.self.invariant c.args.piece.now are named c.in_ok-recv.ensures.made)

pub returns-clause-received : goal.returns-clause-received
returns-clause-received c h lawful =
    let t = c.self.inside.tables in
    let named = open_link t c.args.self.now c.self.view_is c.args.link c.ranges.link.fits c.in_ok-look_for_link.ensures in
    let are = All-from_get_or (λ b. b < 256) c.args.piece.now 0 (λ i within. omega (arith, c.type_inv.piece i)) in
    let called = recv_called c.args.link t c.recv.new.tables c.self.invariant c.args.piece.now are named c.in_ok-recv.ensures.made in
    let before = subst (λ (k : Kept). IsLawful k h) (sym c.self.view_is) lawful in
    let after = called_lawful (Recv c.args.link c.args.piece.now) t c.recv.new.tables called h before in (
      called_allowed (Recv c.args.link c.args.piece.now) t c.recv.new.tables called h before,
      after,
      c.link_life.ensures (Recv c.args.link c.args.piece.now ∷ h) after,
    )

pub returns-clause-reports : goal.returns-clause-reports
returns-clause-reports c h lawful =
    let t = c.self.inside.tables in
    let before = subst (λ (k : Kept). IsLawful k h) (sym c.self.view_is) lawful in
    let places = subst (λ (n : ℕ). n ≤ c.reserve.new.self.spare) c.len.ensures.count c.in_ok-reserve.ensures.ok in
    reported (Recv c.args.link c.args.piece.now) t c.args.ends.now c.reserve.new.self c.recv.new.ends c.self.invariant
    c.reserve.ensures.list places c.in_ok-recv.ensures.told h before
