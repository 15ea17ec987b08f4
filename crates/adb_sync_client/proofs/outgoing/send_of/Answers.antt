use Rattle.adb_sync_client.proofs.Modes.{may_send}
use Rattle.adb_sync_client.proofs.outgoing.send_of.Goals as goal

pub spelled-requires : goal.spelled-requires
spelled-requires c =
    may_send c.args.path.now c.in_ok-path.path c.in_ok-mode.mode c.args.mode c.requires c.in_ok-path.ensures
    c.ranges.mode.fits c.in_ok-mode.ensures
