use Rattle.std.proofs.Common.{ℕ, ◌+◌, ◌∷◌, ◌≡◌, ◌<◌, ◌^◌, false, sym, ◌∙◌, ap, subst, arith}
use Rattle.std.proofs.lemmas.List.Elements.{All-from_get_or}
use Rattle.adb_capture.specs.declared.entry.Entry.TheVariants.{Attach}
use Rattle.adb_history.specs.Kept.{Kept, kept, IsLawful}
use Rattle.adb_history.specs.Machine.{state}
use Rattle.adb_history.specs.Rows.{State}
use Rattle.adb_hub_tables.specs.Fit.{Makes}
use Rattle.adb_hub_tables.specs.Tables.{state_of}
use Rattle.adb_hub.proofs.Standing.{stands_for}
use Rattle.adb_hub.proofs.Steps.{Called, plugged_by, attach_called, called_sound, called_lawful, called_allowed}
use Rattle.adb_hub.proofs.hub.Hub.attach.Goals as goal

called : (c : goal.In_ok-attach)
    → Called (Attach (c.self.inside.tables.devices.drawn + 1) c.args.kind c.args.serial.now) c.self.inside.tables c.attach.new.tables
called c =
    let t = c.self.inside.tables in
    let are = All-from_get_or (λ b. b < 256) c.args.serial.now 0 (λ i within. omega (arith, c.type_inv.serial i)) in
    let going : t.stopped ≡ false = ap (λ (k : Kept). k.stopped) c.self.view_is ∙ (sym c.is_stopped.ensures ∙ c.if-is_stopped.false) in
    let range : t.devices.drawn + 1 < 2 ^ 32 = subst (λ (n : ℕ). n < 2 ^ 32) c.in_ok-attach.ensures.id c.in_ok-attach.ensures.fits in
    attach_called c.args.kind c.args.serial.now t c.attach.new.tables c.self.invariant
    (plugged_by c.args.serial.now t c.in_ok-attach.field-0 range are going _ c.in_ok-attach.ensures.refused)
    (subst (λ (n : ℕ). Makes (Attach n c.args.kind c.args.serial.now) t c.attach.new.tables) c.in_ok-attach.ensures.id
    c.in_ok-attach.ensures.made)

pub invariant_of-self-2 : goal.invariant_of-self-2
invariant_of-self-2 c =
    let t = c.self.inside.tables in
    called_sound (Attach (t.devices.drawn + 1) c.args.kind c.args.serial.now) t c.attach.new.tables (called c)

pub returns-clause-attached : goal.returns-clause-attached
returns-clause-attached c h lawful =
    let t = c.self.inside.tables in
    let e = Attach (t.devices.drawn + 1) c.args.kind c.args.serial.now in
    let before = subst (λ (k : Kept). IsLawful k h) (sym c.self.view_is) lawful in
    let is : t.devices.drawn + 1 ≡ (state h).devices.drawn + 1 =
    ap (λ (s : State). s.devices.drawn + 1) (stands_for t h c.self.invariant before) in (
      called_allowed e t c.attach.new.tables (called c) h before,
      subst (λ (k : ℕ). IsLawful (kept (state_of c.attach.new.tables)) (Attach k c.args.kind c.args.serial.now ∷ h)) is
          (called_lawful e t c.attach.new.tables (called c) h before),
      c.in_ok-attach.ensures.id ∙ is,
    )
