use Rattle.std.proofs.Common.{refl}
use Rattle.adb_device_streams.proofs.Syncing.{at_err}
use Rattle.adb_local.proofs.echoing.start_stream.Goals as goal

pub returns-in_err-text-clause-kept : goal.returns-in_err-text-clause-kept
returns-in_err-text-clause-kept c = at_err _ c.from_residual.result refl

pub returns-in_err-session-clause-kept : goal.returns-in_err-session-clause-kept
returns-in_err-session-clause-kept c = at_err _ c.from_residual-in_err-session.result c.in_err-session.ensures.kept
