use Rattle.std.proofs.Common.{◌≡◌, Some, ap, sym, ◌∙◌, inl, refl}
use Rattle.adb_asking.specs.Telling.{seen}
use Rattle.adb_words.specs.Serve.{Serving, serving}
use Rattle.adb_server.specs.declared.server.Served.TheVariants as served
use Rattle.adb_replay.proofs.Counting.{counts_first}
use Rattle.adb_top.proofs.Served.{serves_of}
use Rattle.adb_top.proofs.Kept.{kept_by_status}
use Rattle.adb_top.proofs.serving.run_serve.Goals as goal

pub returns-in-Ok-clause-serves : goal.returns-in-Ok-clause-serves
returns-in-Ok-clause-serves g c asked is =
    let both : Some (serving c.in-Ok.asked) ≡ Some asked = sym c.in-Ok.ensures.serve ∙ is in
    let same : serving c.in-Ok.asked ≡ asked = cc in
    serves_of (seen g.N.Sink.steady g.N.Sink.faults g.N.Sink.written) asked c.in-Ok.asked.port
    c.serve-ended.result.served c.say_ended.result.status
    (g.Y.Yard.steady c.args.yard) (g.Y.Yard.lasting c.args.yard) c.args.note.now c.serve-ended.new.note c.say_ended.new.note
    (ap (λ (s : Serving). s.port) same) c.serve-ended.ensures.record c.serve-ended.ensures.door c.serve-ended.ensures.lasting
    c.serve-ended.ensures.announced c.serve-ended.ensures.counts c.say_ended.ensures.tells

pub returns-in-Ok-clause-kept : goal.returns-in-Ok-clause-kept
returns-in-Ok-clause-kept g c asked is =
    rw c.say_ended.ensures.recorder
    (kept_by_status g.Y.Keeper.Recorder.stands g.Y.Keeper.Recorder.faults c.serve-ended.result.served c.say_ended.result.status
    c.serve-ended.result.recorder c.say_ended.ensures.tells.own c.serve-ended.ensures.kept)

pub serve-ended-requires-clause-records : goal.serve-ended-requires-clause-records
serve-ended-requires-clause-records g c = λ κs lives. c.requires.records _ c.in-Ok.ensures.serve

pub returns-clause-serves : goal.returns-clause-serves
returns-clause-serves g c asked is =
    rw c.bare-in-Err-OutOfMemory.ensures.status
    (serves_of (seen g.N.Sink.steady g.N.Sink.faults g.N.Sink.written) asked asked.port served.OutOfMemory
    c.say_served.result (g.Y.Yard.steady c.args.yard) (g.Y.Yard.lasting c.args.yard) c.args.note.now c.args.note.now
    c.say_served.new.note refl (λ s end. (let clash : served.OutOfMemory ≡ served.RecordFault = end in cc))
    (λ s end. (let clash : served.OutOfMemory ≡ served.DoorFault = end in cc))
    (λ s end. (let clash : served.OutOfMemory ≡ served.Done = end in cc)) (inl refl)
    (counts_first g.N.Sink.steady g.N.Sink.faults c.args.note.now) c.say_served.ensures)
