use Rattle.std.proofs.Common.{◌≡◌, true, false, sym, ◌∙◌, refl}
use denote.Exit.{no}
use denote.Param.Send.{arg_send, param_send}
use Rattle.std.specs.contracts.marker.Brand as brand
use Rattle.adb_os_record.proofs.Sent.{live_send}
use Rattle.adb_serving.proofs.Record.{flag_of}
use Rattle.adb_serving.proofs.serving.serve_unrecorded.Goals as goal

pub run-ran-requires-clause-records : goal.run-ran-requires-clause-records
run-ran-requires-clause-records g c = λ κs lives serves asked is.
    let flag : asked.records ≡ false = flag_of _ asked false is c.requires.unasked in
    (λ on. (let clash : true ≡ false = sym on ∙ flag in cc), λ off. refl)

pub returns-clause-serves : goal.returns-clause-serves
returns-clause-serves g c asked is =
    let served = c.run-ran.ensures.serves asked is in
    (served.end, served.tells)

pub run-ran-requires-send-Y-Keeper : goal.run-ran-requires-send-Y-Keeper
run-ran-requires-send-Y-Keeper g c κs within =
    param_send _ _ (arg_send _ no _ (live_send _ brand.the_row _ _ c.type_bounds.send-W))

pub returns-clause-usage : goal.returns-clause-usage
returns-clause-usage g c none = c.run-ran.ensures.usage c.requires.serve none
