use Rattle.std.proofs.Common.{ℕ, ◌+◌, ◌≡◌, false, Result, sym, ◌∙◌, ap, subst}
use Rattle.std.proofs.lemmas.Bool.{eqb-true}
use Rattle.adb_capture.specs.declared.entry.Entry.TheVariants.{Attach}
use Rattle.adb_history.specs.Kept.{Kept}
use Rattle.adb_history.specs.Machine.{state}
use Rattle.adb_entries.specs.declared.refused.Refused.{Refused}
use Rattle.adb_entries.specs.Machine.{Applies}
use Rattle.adb_entries.proofs.Attaching.{attach_applies, err_lawful}
use Rattle.adb_entries.proofs.applying.attach.Goals as goal

pub returns-clause-applied : goal.returns-clause-applied
returns-clause-applied c h lawful =
    let going : (state h).stopped ≡ false = sym (ap (λ (k : Kept). k.stopped) lawful.seen) ∙ c.requires in
    let drawn : c.plugged.result ≡ (state h).devices.drawn = c.plugged.ensures ∙ ap (λ (k : Kept). k.devices.drawn) lawful.seen in
    let is : c.args.link ≡ (state h).devices.drawn + 1 =
    eqb-true c.args.link (c.plugged.result + 1) (sym c.is_next.ensures ∙ c.if-not-is_next.false) ∙ ap (λ (n : ℕ). n + 1) drawn in
    let made = attach_applies h c.args.kind c.args.serial.now c.attach.new.self going c.attach.result (c.attach.ensures.attached h lawful)
    (err_lawful h c.args.hub.now c.attach.new.self c.attach.result c.attach.ensures.err lawful) in
    subst (λ (n : ℕ). Applies h (Attach n c.args.kind c.args.serial.now) c.came.result c.attach.new.self) (sym is)
    (subst (λ (r : Result (Unit {0}) Refused). Applies h
    (Attach ((state h).devices.drawn + 1) c.args.kind c.args.serial.now) r c.attach.new.self)
    (sym c.came.ensures) made)
