use Rattle.std.proofs.Common.{◌≡◌, false, Err, None, refl, ap, subst}
use Rattle.std.proofs.lemmas.Result.{err_from_is_err_and}
use Rattle.adb_outside.specs.Outside.{Counts}
use Rattle.adb_capture_reader.specs.Reading.{Reading, Opens}
use Rattle.adb_replay.specs.Keeping.{is_read_fault}
use Rattle.adb_replay.specs.Replay.{Moment, moment}
use Rattle.adb_replay.proofs.Outputs.{write_fault_of}
use Rattle.adb_replay.proofs.Counting.{counts_then}
use Rattle.adb_replay.proofs.Captures.{opened_first, capture_replayed, capture_lost, capture_unopened, capture_unread}
use Rattle.adb_replay.proofs.replaying.replay.Goals as goal

pub returns-in_err-open-clause-replays : goal.returns-in_err-open-clause-replays
returns-in_err-open-clause-replays g c =
    let passed = err_from_is_err_and c.from_residual-in_err-open.result c.from_residual-in_err-open.ensures.1 in
    rw (passed.1, passed.2) (capture_unopened c.open.new.self (g.S.Source.left c.args.source.now) (g.S.Source.left c.open.new.source)
    (g.K.Sink.written c.args.sink.now) c.in_err-open.field-0.0
    (subst (λ (r : Reading). r.failed ≡ None → Opens r (g.S.Source.left c.args.source.now) c.open.new.self
    (g.S.Source.left c.open.new.source)
    (Err c.in_err-open.field-0.0)) c.in_ok-reader.ensures c.in_err-open.ensures.ahead refl))

pub returns-in_err-write_out-clause-replays : goal.returns-in_err-write_out-clause-replays
returns-in_err-write_out-clause-replays g c =
    let passed = err_from_is_err_and c.from_residual-in_err-write_out.result c.from_residual-in_err-write_out.ensures.1 in
    let first : Moment = moment c.open.new.self (g.S.Source.left c.open.new.source)
    (g.K.Sink.written c.args.sink.now, c.in_ok-output.output) in
    let last : Moment = moment c.replay_records-ended.new.reader (g.S.Source.left c.replay_records-ended.new.source)
    (g.K.Sink.written c.replay_records-ended.new.sink, c.replay_records-ended.new.output) in
    let opened = opened_first _ (g.S.Source.left c.args.source.now) first c.in_ok-reader.ensures c.in_ok-open.ensures.offset
    c.in_ok-open.ensures.ahead c.in_ok-open.ensures.ok.2 c.in_ok-output.ensures in
    rw (passed.1, passed.2, write_fault_of c.in_err-write_out.field-0.0 c.in_err-write_out.ensures.fault)
    (capture_lost (g.S.Source.left c.args.source.now) (g.K.Sink.written c.write_out.new.sink) first last
    c.replay_records-ended.result opened
    c.replay_records-ended.ensures.replays c.in_err-write_out.ensures.out (λ none. ap g.K.Sink.written (c.write_out.ensures.nothing none)))

pub returns-clause-replays : goal.returns-clause-replays
returns-clause-replays g c =
    let first : Moment = moment c.open.new.self (g.S.Source.left c.open.new.source)
    (g.K.Sink.written c.args.sink.now, c.in_ok-output.output) in
    let last : Moment = moment c.replay_records-ended.new.reader (g.S.Source.left c.replay_records-ended.new.source)
    (g.K.Sink.written c.replay_records-ended.new.sink, c.replay_records-ended.new.output) in
    let opened = opened_first _ (g.S.Source.left c.args.source.now) first c.in_ok-reader.ensures c.in_ok-open.ensures.offset
    c.in_ok-open.ensures.ahead c.in_ok-open.ensures.ok.2 c.in_ok-output.ensures in
    capture_replayed (g.S.Source.left c.args.source.now) (g.K.Sink.written c.write_out.new.sink) first last
    c.replay_records-ended.result opened
    c.replay_records-ended.ensures.replays
    c.in_ok-write_out.ensures.out (λ none. ap g.K.Sink.written (c.write_out.ensures.nothing none))

pub returns-in_err-write_out-clause-reads : goal.returns-in_err-write_out-clause-reads
returns-in_err-write_out-clause-reads g c =
    let passed = err_from_is_err_and c.from_residual-in_err-write_out.result c.from_residual-in_err-write_out.ensures.1 in
    let opens = subst
    (λ (r : Reading). r.failed ≡ None → Counts g.S.Source.steady g.S.Source.faults c.args.source.now
    c.open.new.source false)
    c.in_ok-reader.ensures c.in_ok-open.ensures.counts refl in
    rw (passed.1, passed.2, write_fault_of c.in_err-write_out.field-0.0 c.in_err-write_out.ensures.fault) (
      is_read_fault c.replay_records-ended.result,
      counts_then g.S.Source.steady g.S.Source.faults c.args.source.now c.open.new.source
          c.replay_records-ended.new.source {g = is_read_fault c.replay_records-ended.result} opens c.replay_records-ended.ensures.reads,
    )

pub returns-in_err-output-clause-replays : goal.returns-in_err-output-clause-replays
returns-in_err-output-clause-replays g c =
    let passed = err_from_is_err_and c.from_residual-in_err-output.result c.from_residual-in_err-output.ensures.1 in rw (passed.1, passed.2)
    (capture_unread _ _ _)
