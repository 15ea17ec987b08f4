use Rattle.std.specs.Prelude.{true, is_some, List, ℕ}
use Rattle.std.proofs.Common.{◌≡◌, ◌∙◌, refl, sym, subst}
use Rattle.adb_device_streams.proofs.Syncing.{at_err}
use Rattle.adb_device_streams.specs.Asked.{service_of}
use Rattle.adb_script.specs.Lines.{asked_of}
use Rattle.adb_local.proofs.Exchanges.{is_known}
use Rattle.adb_local.proofs.session.start_session.Goals as goal

pub start_text-requires-clause-known : goal.start_text-requires-clause-known
start_text-requires-clause-known c =
    subst (λ (x : List ℕ). is_some (service_of x) ≡ true) (sym (c.as_slice.ensures ∙ c.in_ok-service.ensures))
    (is_known (asked_of c.args.line.now))

pub returns-in_err-service-clause-kept : goal.returns-in_err-service-clause-kept
returns-in_err-service-clause-kept c = at_err _ c.from_residual.result refl

pub returns-in_err-text-clause-kept : goal.returns-in_err-text-clause-kept
returns-in_err-text-clause-kept c = at_err _ c.from_residual-in_err-text.result refl

pub returns-in_err-session-clause-kept : goal.returns-in_err-session-clause-kept
returns-in_err-session-clause-kept c = at_err _ c.from_residual-in_err-session.result c.in_err-session.ensures.kept
