use Rattle.adb_remote.proofs.Modes.{may_send}
use Rattle.adb_remote.proofs.pushing.begun.Goals as goal

pub spelled-requires : goal.spelled-requires
spelled-requires c = may_send c.args.path.now c.in_ok-path.path c.in_ok-mode.mode c.requires c.in_ok-path.ensures c.in_ok-mode.ensures
