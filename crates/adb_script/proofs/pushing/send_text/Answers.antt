use Rattle.adb_script.proofs.Requests.{send_is_ask}
use Rattle.adb_script.proofs.pushing.send_text.Goals as goal

pub write_ask-requires : goal.write_ask-requires
write_ask-requires c =
    send_is_ask c.args.path.now c.in_ok-path.path c.in_ok-mode.mode c.args.mode c.requires c.in_ok-path.ensures
    c.ranges.mode.fits c.in_ok-mode.ensures
