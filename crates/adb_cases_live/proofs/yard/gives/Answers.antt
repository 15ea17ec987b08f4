use denote.Exit.{no}
use denote.Param.Send.{arg_send, param_send}
use Rattle.std.specs.contracts.marker.Brand as brand
use Rattle.adb_os_record.proofs.Sent.{live_send}
use Rattle.adb_cases_live.proofs.yard.gives.Goals as goal

pub opens-requires-send-Y-Keeper : goal.opens-requires-send-Y-Keeper
opens-requires-send-Y-Keeper g c κs within =
    param_send _ _ (arg_send _ no _ (live_send _ brand.the_row _ _ c.type_bounds.send-W))
