use Rattle.std.proofs.Common.{refl, sym, subst}
use Rattle.std.specs.Prelude.{OnOk}
use Rattle.adb_capture.specs.declared.entry.Entry.TheVariants.{Join, Enter, Bound, Attach}
use Rattle.adb_capture.specs.declared.lent.Lent.{Lent}
use Rattle.adb_capture.specs.Lent.{entry_lent}
use Rattle.adb_entries.specs.Machine.{ReportsApplied}
use Rattle.adb_entries.proofs.Endless.{none_applied, on_ok, on_applied}
use Rattle.adb_entries.proofs.applying.apply_reporting.Goals as goal

pub returns-in-Join-clause-reports : goal.returns-in-Join-clause-reports
returns-in-Join-clause-reports c = λ h lawful.
    let ends = c.args.ends.now in
    let e = Join c.in-Join.client in
    subst (λ (l : Lent). OnOk c.join.result (ReportsApplied (entry_lent l) h ends ends)) (sym c.in-Join.is)
    (on_ok c.join.result (ReportsApplied e h ends ends) (none_applied e h ends (c.others_end_no_stream.ensures e h lawful.legal refl)))

pub returns-in-Enter-clause-reports : goal.returns-in-Enter-clause-reports
returns-in-Enter-clause-reports c = λ h lawful.
    let ends = c.args.ends.now in
    let e = Enter c.in-Enter.client c.in-Enter.port in
    subst (λ (l : Lent). OnOk c.enter.result (ReportsApplied (entry_lent l) h ends ends)) (sym c.in-Enter.is)
    (on_ok c.enter.result (ReportsApplied e h ends ends) (none_applied e h ends (c.others_end_no_stream.ensures e h lawful.legal refl)))

pub returns-in-Bound-clause-reports : goal.returns-in-Bound-clause-reports
returns-in-Bound-clause-reports c = λ h lawful.
    let ends = c.args.ends.now in
    let e = Bound c.in-Bound.client c.in-Bound.port in
    subst (λ (l : Lent). OnOk c.lived-in-Bound.result (ReportsApplied (entry_lent l) h ends ends)) (sym c.in-Bound.is)
    (on_ok c.lived-in-Bound.result (ReportsApplied e h ends ends)
    (none_applied e h ends (c.others_end_no_stream.ensures e h lawful.legal refl)))

pub returns-in-Attach-clause-reports : goal.returns-in-Attach-clause-reports
returns-in-Attach-clause-reports c = λ h lawful.
    let ends = c.args.ends.now in
    let e = Attach c.in-Attach.link c.in-Attach.kind c.in-Attach.serial.now in
    subst (λ (l : Lent). OnOk c.attach.result (ReportsApplied (entry_lent l) h ends ends)) (sym c.in-Attach.is)
    (on_ok c.attach.result (ReportsApplied e h ends ends) (none_applied e h ends (c.others_end_no_stream.ensures e h lawful.legal refl)))

pub returns-in-Read-clause-reports : goal.returns-in-Read-clause-reports
returns-in-Read-clause-reports c = λ h lawful.
    subst (λ (l : Lent). OnOk c.lived.result (ReportsApplied (entry_lent l) h c.args.ends.now c.read_reporting.new.ends)) (sym c.in-Read.is)
    (on_applied c.read_reporting.result c.lived.result _ c.lived.ensures (c.read_reporting.ensures.reports h lawful))

pub returns-in-End-clause-reports : goal.returns-in-End-clause-reports
returns-in-End-clause-reports c = λ h lawful.
    subst (λ (l : Lent). OnOk c.lived-in-End.result
    (ReportsApplied (entry_lent l) h c.args.ends.now c.end_reporting.new.ends)) (sym c.in-End.is)
    (on_applied c.end_reporting.result c.lived-in-End.result _ c.lived-in-End.ensures (c.end_reporting.ensures.reports h lawful))

pub returns-in-Recv-clause-reports : goal.returns-in-Recv-clause-reports
returns-in-Recv-clause-reports c = λ h lawful.
    subst (λ (l : Lent). OnOk c.lived-in-Recv.result
    (ReportsApplied (entry_lent l) h c.args.ends.now c.recv_reporting.new.ends)) (sym c.in-Recv.is)
    (on_applied c.recv_reporting.result c.lived-in-Recv.result _ c.lived-in-Recv.ensures (c.recv_reporting.ensures.reports h lawful))

pub returns-in-Detach-clause-reports : goal.returns-in-Detach-clause-reports
returns-in-Detach-clause-reports c = λ h lawful.
    subst (λ (l : Lent). OnOk c.lived-in-Detach.result
    (ReportsApplied (entry_lent l) h c.args.ends.now c.detach_reporting.new.ends)) (sym c.in-Detach.is)
    (on_applied c.detach_reporting.result c.lived-in-Detach.result _ c.lived-in-Detach.ensures
    (c.detach_reporting.ensures.reports h lawful))
