use Rattle.std.proofs.Common.{ℕ, ◌≡◌, ◌∙◌, Option, Result, sym, ap, subst, max}
use Rattle.std.specs.Prelude.{IfOk}
use Rattle.std.specs.declared.alloc.AllocError.{AllocError}
use Rattle.adb_capture.specs.declared.entry.Entry.TheVariants.{Put}
use Rattle.adb_history.specs.Rows.{State}
use Rattle.adb_hub.specs.Answers.{Hands, offered_to}
use Rattle.adb_check.specs.declared.verdict.Rule.{Rule}
use Rattle.adb_check.specs.Judging.{Takes}
use Rattle.adb_check.proofs.HandedOut.{asked_for, put_taken}
use Rattle.adb_check.proofs.taking.put.Goals as goal

pub returns-clause-taken : goal.returns-clause-taken
returns-clause-taken c h lawful =
    let asked : c.max.result ≡ asked_for c.args.bytes.now = c.max.ensures ∙ ap (λ (n : ℕ). max n 1) c.len.ensures in
    let hands = subst (λ (n : ℕ). Hands (Put c.args.client) n
    (λ (s : State). offered_to s.devices (s.clients c.args.client)) c.put.result h c.args.hub.now c.put.new.self)
    asked (c.put.ensures.put h lawful) in
    subst (λ (r : Result (Option Rule) AllocError). IfOk r (λ broken. Takes broken (Put c.args.client c.args.bytes.now) h c.put.new.self))
    (sym c.broken_by.ensures) (put_taken h c.args.hub.now c.put.new.self c.args.client c.args.bytes.now c.put.result hands)
