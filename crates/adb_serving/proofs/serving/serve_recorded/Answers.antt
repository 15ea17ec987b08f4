use Rattle.std.proofs.Common.{◌≡◌, true, false, sym, ap, subst, ◌∙◌}
use denote.Exit.{no}
use denote.Param.{param}
use denote.Param.Send.{arg_send, param_send}
use Rattle.adb_os_record.proofs.Sent.{live_send}
use Rattle.adb_os_record.specs.Live.{IsUnused}
use Rattle.adb_os_record.specs.Written.{PipeSinkView}
use Rattle.adb_asking.specs.Telling.{seen}
use Rattle.adb_words.specs.Serve.{serve_of}
use Rattle.adb_words.specs.Words.{texts}
use Rattle.adb_serving.proofs.Live.{serve_ended}
use Rattle.adb_serving.proofs.Record.{asked_of, flag_of}
use Rattle.adb_serving.proofs.serving.serve_recorded.Goals as goal

pub run-status-requires-clause-records : goal.run-status-requires-clause-records
run-status-requires-clause-records g c = λ κs lives serves asked is.
    let flag : asked.records ≡ true = flag_of _ asked true is c.requires.asked in
    let put = ap (λ (s : PipeSinkView). s.put) c.new-into.ensures ∙ c.requires.begun.0 in
    let sound = ap (λ (s : PipeSinkView). s.faults) c.new-into.ensures in
    (λ on. subst IsUnused (sym c.new-yard.ensures.1) (put, sound), λ off. (let clash : true ≡ false = sym flag ∙ off in cc))

pub returns-clause-serves : goal.returns-clause-serves
returns-clause-serves g c asked is =
    let served = c.run-status.ensures.serves asked is in
    serve_ended (seen g.N.Sink.steady g.N.Sink.faults g.N.Sink.written) c.run-status.result.status
    c.settle_record.result.status c.args.note.now
    c.run-status.new.note c.settle_record.new.note asked.port (served.end, served.tells) c.settle_record.ensures.ended

pub returns-clause-record : goal.returns-clause-record
returns-clause-record g c =
    let asked = asked_of (serve_of (texts c.args.words.now)) c.requires.asked in
    c.settle_record.ensures.record (c.run-status.ensures.kept asked.0 asked.1)

pub run-status-requires-send-Y-Keeper : goal.run-status-requires-send-Y-Keeper
run-status-requires-send-Y-Keeper g c κs within =
    param_send _ _ (arg_send _ no _ (live_send _ (param 1 g.row.B) _ _ c.type_bounds.send-W))
