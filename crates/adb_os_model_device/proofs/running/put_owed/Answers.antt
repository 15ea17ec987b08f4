use Rattle.std.proofs.Common.{◌∙◌, ℕ, length, ap}
use Rattle.adb_os_model_device.proofs.Turns.{goes_nowhere, runs_out, puts_all, is_refused}
use Rattle.adb_os_model_device.proofs.running.put_owed.Goals as goal

pub returns-then-due-eq0-clause-runs : goal.returns-then-due-eq0-clause-runs
returns-then-due-eq0-clause-runs g c = λ input. goes_nowhere c.args.daemon.now input c.args.output.now

pub returns-in_default-clause-runs : goal.returns-in_default-clause-runs
returns-in_default-clause-runs g c = λ input. runs_out c.args.daemon.now input c.args.output.now

pub returns-in-Ok-put-clause-runs : goal.returns-in-Ok-put-clause-runs
returns-in-Ok-put-clause-runs g c = λ input.
    puts_all c.args.daemon.now input c.args.output.now c.in-Ok.chunk (length c.out-due.result.now) c.taken.new.self c.put.new.self
    (c.in-Ok.ensures ∙ c.out.ensures) (ap (length {A = ℕ}) c.out-due.ensures) c.in-Ok-put.ensures c.taken.ensures.done

pub returns-in-Err-clause-runs : goal.returns-in-Err-clause-runs
returns-in-Err-clause-runs g c = λ input.
    is_refused c.args.daemon.now input c.args.output.now c.in-Err.chunk c.put.new.self
    (c.in-Err.ensures.0 ∙ c.in-Ok.ensures ∙ c.out.ensures)
    c.in-Err.ensures.1
