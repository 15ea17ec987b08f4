use Rattle.std.proofs.Common.{ℕ, ◌≡◌, ◌∙◌, Option, Result, sym, ap, subst, max}
use Rattle.std.specs.Prelude.{IfOk}
use Rattle.std.specs.declared.alloc.AllocError.{AllocError}
use Rattle.adb_capture.specs.declared.entry.Entry.TheVariants.{Send}
use Rattle.adb_history.specs.Rows.{State}
use Rattle.adb_hub.specs.Answers.{Hands, due_on}
use Rattle.adb_check.specs.declared.verdict.Rule.{Rule}
use Rattle.adb_check.specs.Judging.{Takes}
use Rattle.adb_check.proofs.HandedOut.{asked_for, sent_taken}
use Rattle.adb_check.proofs.taking.send.Goals as goal

pub returns-clause-taken : goal.returns-clause-taken
returns-clause-taken c h lawful =
    let asked : c.max.result ≡ asked_for c.args.bytes.now = c.max.ensures ∙ ap (λ (n : ℕ). max n 1) c.len.ensures in
    let hands = subst
    (λ (n : ℕ). Hands (Send c.args.link) n (λ (s : State). due_on (s.links c.args.link)) c.send.result h
    c.args.hub.now c.send.new.self)
    asked (c.send.ensures.sent h lawful) in
    subst (λ (r : Result (Option Rule) AllocError). IfOk r (λ broken. Takes broken (Send c.args.link c.args.bytes.now) h c.send.new.self))
    (sym c.broken_by.ensures) (sent_taken h c.args.hub.now c.send.new.self c.args.link c.args.bytes.now c.send.result hands)
