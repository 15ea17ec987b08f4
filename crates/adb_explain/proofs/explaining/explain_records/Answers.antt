use Rattle.std.proofs.Common.{subst}
use Rattle.std.proofs.lemmas.Result.{err_from_is_err_and}
use Rattle.adb_check.specs.Formed.{formed, history_of}
use Rattle.adb_replay.specs.Keeping.{Out}
use Rattle.adb_entry_lines.specs.declared.payload.Payloads.{Payloads}
use Rattle.adb_explain.specs.Explaining.{KeepsAll}
use Rattle.adb_explain.proofs.WrittenOut.{kept_none}
use Rattle.adb_explain.proofs.explaining.explain_records.Goals as goal

pub returns-in_err-reader-clause-keeps : goal.returns-in_err-reader-clause-keeps
returns-in_err-reader-clause-keeps g c all had was has =
    let passed = err_from_is_err_and c.from_residual.result c.from_residual.ensures.1 in
    let out : Out = (g.K.Sink.written c.args.sink.now, c.args.output.now) in
    rw (passed.1, passed.2) (kept_none c.args.payloads (history_of (formed all)) had out has c.requires)

pub returns-clause-keeps : goal.returns-clause-keeps
returns-clause-keeps g c all had was has =
    let out : Out = (g.K.Sink.written c.explain_all.new.sink, c.explain_all.new.output) in
    subst (λ (p : Payloads). KeepsAll c.explain_all.result p (formed all) had out) c.new-explainer.ensures.payloads
    (c.explain_all.ensures.keeps all had was has)
