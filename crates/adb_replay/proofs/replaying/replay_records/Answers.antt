use Rattle.std.proofs.Common.{◌≡◌, false, refl, sym, ◌∙◌, None}
use Rattle.std.proofs.lemmas.Result.{err_from_is_err_and}
use Rattle.adb_capture_reader.specs.Reading.{passed}
use Rattle.adb_replay.specs.Replay.{Moment, moment}
use Rattle.adb_replay.proofs.Counting.{counts_first, counts_then}
use Rattle.adb_replay.proofs.Records.{Turn, starts, replaying_first, replaying_on, awaits_as, passes}
use Rattle.adb_replay.proofs.RecordEnds.{replaying_over, replaying_killed, replaying_stopped, replaying_lost, read_elsewhere}
use Rattle.adb_replay.proofs.replaying.replay_records.Goals as goal

pub returns-in_err-size-clause-replays : goal.returns-in_err-size-clause-replays
returns-in_err-size-clause-replays g c =
    let passed = err_from_is_err_and c.from_residual.result c.from_residual.ensures.1 in
    let first : Moment = moment c.args.reader.now (g.S.Source.left c.args.source.now)
    (g.K.Sink.written c.args.sink.now, c.args.output.now) in
    let now : Moment = moment c.loop-reader.reader (g.S.Source.left c.loop-reader.source)
    (g.K.Sink.written c.loop-reader.sink, c.loop-reader.output) in
    let new : Moment = moment c.await_next.new.self (g.S.Source.left c.await_next.new.source)
    (g.K.Sink.written c.loop-reader.sink, c.loop-reader.output) in
    rw (passed.1, passed.2) (replaying_stopped {first = first} {now = now} new c.in_err-size.field-0.0 refl
    c.in_err-size.ensures.answers (sym c.is_stopped.ensures ∙ c.loop-reader-test.true) c.loop-reader.invariant.replaying)

pub loop-reader-init : goal.loop-reader-init
loop-reader-init g c =
    let first : Moment = moment c.args.reader.now (g.S.Source.left c.args.source.now)
    (g.K.Sink.written c.args.sink.now, c.args.output.now) in
    record {
      replaying = replaying_first first c.new-hub.result (starts c.new-hub.result c.new-hub.ensures)
          c.requires.sound c.requires.opened c.requires.few;
      reads_counted = counts_first g.S.Source.steady g.S.Source.faults c.args.source.now;
      writes_counted = counts_first g.K.Sink.steady g.K.Sink.faults c.args.sink.now;
    }

pub loop-reader-preserved : goal.loop-reader-preserved
loop-reader-preserved g c =
    let first : Moment = moment c.args.reader.now (g.S.Source.left c.args.source.now)
    (g.K.Sink.written c.args.sink.now, c.args.output.now) in
    let now : Moment = moment c.loop-reader.reader (g.S.Source.left c.loop-reader.source)
    (g.K.Sink.written c.loop-reader.sink, c.loop-reader.output) in
    let new : Moment = moment c.pass.new.self (g.S.Source.left c.await_next.new.source)
    (g.K.Sink.written c.replay_record.new.sink, c.replay_record.new.output) in
    let p = passes now new c.await_next.new.self c.in_ok-size.field-0 c.in-Some.size c.first.result c.in-Some.is c.first.ensures
    c.pass.ensures c.in_ok-size.ensures.answers c.in_ok-size.ensures.ok
    (c.in_ok-size.ensures.little c.loop-reader.invariant.replaying.few) in
    let turn : Turn = record { now = now; new = new; offset = c.first.result.0; entry = c.first.result.1; given = p.gives } in
    let running : c.loop-reader.hub.stopped ≡ false = sym c.is_stopped.ensures ∙ c.loop-reader-test.true in
    record {
      replaying = replaying_on {first = first} turn c.replay_record.new.hub p.ready running c.in_ok-replay_record.ensures.replays
          p.few c.loop-reader.invariant.replaying;
      reads_counted = counts_then g.S.Source.steady g.S.Source.faults c.args.source.now c.loop-reader.source
          c.await_next.new.source {g = false}
          c.loop-reader.invariant.reads_counted (c.in_ok-size.ensures.counts c.loop-reader.invariant.replaying.sound);
      writes_counted = counts_then g.K.Sink.steady g.K.Sink.faults c.args.sink.now c.loop-reader.sink c.replay_record.new.sink {g = false}
          c.loop-reader.invariant.writes_counted c.in_ok-replay_record.ensures.counts;
    }

pub returns-in_err-replay_record-clause-replays : goal.returns-in_err-replay_record-clause-replays
returns-in_err-replay_record-clause-replays g c =
    let passed_on = err_from_is_err_and c.from_residual-in_err-replay_record.result c.from_residual-in_err-replay_record.ensures.1 in
    let first : Moment = moment c.args.reader.now (g.S.Source.left c.args.source.now)
    (g.K.Sink.written c.args.sink.now, c.args.output.now) in
    let now : Moment = moment c.loop-reader.reader (g.S.Source.left c.loop-reader.source)
    (g.K.Sink.written c.loop-reader.sink, c.loop-reader.output) in
    let new : Moment = moment (passed c.in-Some.size c.await_next.new.self) (g.S.Source.left c.await_next.new.source)
    (g.K.Sink.written c.replay_record.new.sink, c.replay_record.new.output) in
    let p = passes now new c.await_next.new.self c.in_ok-size.field-0 c.in-Some.size c.first.result c.in-Some.is c.first.ensures
    refl c.in_ok-size.ensures.answers c.in_ok-size.ensures.ok (c.in_ok-size.ensures.little c.loop-reader.invariant.replaying.few) in
    let turn : Turn = record { now = now; new = new; offset = c.first.result.0; entry = c.first.result.1; given = p.gives } in
    let running : c.loop-reader.hub.stopped ≡ false = sym c.is_stopped.ensures ∙ c.loop-reader-test.true in
    rw (passed_on.1, passed_on.2)
    (read_elsewhere c.await_next.new.self
    (replaying_lost {first = first} turn c.replay_record.new.hub c.in_err-replay_record.field-0.0 running
    c.in_err-replay_record.ensures.replays c.loop-reader.invariant.replaying))

pub returns-in_default-clause-replays : goal.returns-in_default-clause-replays
returns-in_default-clause-replays g c =
    let first : Moment = moment c.args.reader.now (g.S.Source.left c.args.source.now)
    (g.K.Sink.written c.args.sink.now, c.args.output.now) in
    let now : Moment = moment c.loop-reader.reader (g.S.Source.left c.loop-reader.source)
    (g.K.Sink.written c.loop-reader.sink, c.loop-reader.output) in
    let new : Moment = moment c.await_next.new.self (g.S.Source.left c.await_next.new.source)
    (g.K.Sink.written c.loop-reader.sink, c.loop-reader.output) in
    replaying_over {first = first} {now = now} new refl
    (awaits_as now c.await_next.new.self new.left c.in_ok-size.field-0 None c.in_default.is c.in_ok-size.ensures.answers)
    c.in_ok-size.ensures.ok.2 (sym c.is_stopped.ensures ∙ c.loop-reader-test.true) c.loop-reader.invariant.replaying

pub returns-clause-replays : goal.returns-clause-replays
returns-clause-replays g c =
    let first : Moment = moment c.args.reader.now (g.S.Source.left c.args.source.now)
    (g.K.Sink.written c.args.sink.now, c.args.output.now) in
    let now : Moment = moment c.loop-reader.reader (g.S.Source.left c.loop-reader.source)
    (g.K.Sink.written c.loop-reader.sink, c.loop-reader.output) in
    replaying_killed {first = first} {now = now} (sym c.is_stopped.ensures ∙ c.loop-reader-test.false) c.loop-reader.invariant.replaying
