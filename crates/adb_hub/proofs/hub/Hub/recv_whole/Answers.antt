use Rattle.std.proofs.Common.{◌∷◌, sym, subst}
use Rattle.adb_capture.specs.declared.entry.Entry.TheVariants.{Recv}
use Rattle.adb_history.specs.Kept.{Kept, IsLawful}
use Rattle.adb_hub.proofs.Steps.{open_link, recv_called, called_sound, called_lawful, called_allowed}
use Rattle.adb_hub.proofs.hub.Hub.recv_whole.Goals as goal

pub invariant_of-self-2 : goal.invariant_of-self-2
invariant_of-self-2 c =
    let t = c.self.inside.tables in
    let named = open_link t c.args.self.now c.self.view_is c.args.link c.ranges.link.fits c.in_ok-look_for_link.ensures in
    called_sound (Recv c.args.link c.args.packet.now) t c.recv_whole.new.tables
    (recv_called c.args.link t c.recv_whole.new.tables c.self.invariant c.args.packet.now
    (rw c.as_slice.ensures at c.are_bytes.ensures) named
    c.in_ok-recv_whole.ensures.made)

pub returns-clause-received : goal.returns-clause-received
returns-clause-received c h lawful =
    let t = c.self.inside.tables in
    let named = open_link t c.args.self.now c.self.view_is c.args.link c.ranges.link.fits c.in_ok-look_for_link.ensures in
    let called = recv_called c.args.link t c.recv_whole.new.tables c.self.invariant c.args.packet.now
    (rw c.as_slice.ensures at c.are_bytes.ensures) named
    c.in_ok-recv_whole.ensures.made in
    let before = subst (λ (k : Kept). IsLawful k h) (sym c.self.view_is) lawful in
    let after = called_lawful (Recv c.args.link c.args.packet.now) t c.recv_whole.new.tables called h before in (
      called_allowed (Recv c.args.link c.args.packet.now) t c.recv_whole.new.tables called h before,
      after,
      c.link_life.ensures (Recv c.args.link c.args.packet.now ∷ h) after,
    )
