use Rattle.std.proofs.Common.{◌≡◌, refl, sym, subst, ap, ◌∙◌}
use Rattle.std.specs.Prelude.{IfOk}
use Rattle.adb_wire.specs.Deframing.{Deframing}
use Rattle.adb_history.specs.Kept.{Kept, kept, IsLawful}
use Rattle.adb_history.specs.Rows.{State}
use Rattle.adb_hub_tables.specs.declared.tables.Tables.{Tables}
use Rattle.adb_hub.specs.Completing.{packets_on}
use Rattle.adb_hub.proofs.Completed.{same_sound, same_state}
use Rattle.adb_hub.proofs.Standing.{stands_for}
use Rattle.adb_hub.proofs.hub.Hub.packets.Goals as goal

pub packets-requires : goal.packets-requires
packets-requires c = c.self.invariant.fit.read_out c.args.link

pub invariant_of-self : goal.invariant_of-self
invariant_of-self c =
    let old = c.self.inside.tables in
    let new : Tables = record old { links = c.packets.new.links } in
    same_sound old new refl c.packets.ensures.stays c.self.invariant

pub returns-clause-packets : goal.returns-clause-packets
returns-clause-packets c h lawful =
    let is = stands_for c.self.inside.tables h c.self.invariant (subst (λ (k : Kept). IsLawful k h) (sym c.self.view_is) lawful) in
    subst (λ (s : State). IfOk c.packets.result (λ (cut : Deframing). cut.given ≡ packets_on (s.links c.args.link) c.args.piece.now)) is
    c.packets.ensures.packets

pub returns-clause-same : goal.returns-clause-same
returns-clause-same c =
    let old = c.self.inside.tables in
    let new : Tables = record old { links = c.packets.new.links } in
    ap kept (same_state old new refl c.packets.ensures.stays) ∙ c.self.view_is
