use Rattle.std.proofs.Common.{Option, inl, refl, subst, reverse}
use Rattle.adb_recorder.specs.Recording.{SinkRecording}
use Rattle.adb_os_record.specs.Live.{Keeps, live_faults}
use Rattle.adb_os_record.specs.Written.{PipeSinkView}
use Rattle.adb_top.specs.Kept.{KeepsRecord}
use Rattle.adb_serving.proofs.Record.{drops, keeps_sink, recorded_of, serves_history}
use Rattle.adb_serving.proofs.serving.settle_record.Goals as goal

pub returns-in_default-clause-record : goal.returns-in_default-clause-record
returns-in_default-clause-record g c = λ keeps.
    drops Keeps live_faults g.R.Sink.written _ c.args.status
    (subst (λ (o : Option (Option (SinkRecording PipeSinkView))). KeepsRecord Keeps live_faults c.args.status o) c.in_default.is keeps)

pub returns-in_default-end_record-clause-record : goal.returns-in_default-end_record-clause-record
returns-in_default-end_record-clause-record g c = λ keeps.
    keeps_sink g.R.Sink.written _ c.ended.result (λ is. (let off = (c.ended.ensures.done is).1 in cc))

pub returns-clause-record : goal.returns-clause-record
returns-clause-record g c = λ keeps.
    let back = subst
    (λ (o : Option (Option (SinkRecording PipeSinkView))). KeepsRecord Keeps live_faults c.args.status o)
    c.in-Some.is keeps in
    let k = recorded_of Keeps live_faults c.args.status c.in-Some.recorder back in
    record {
      done = λ is. refl;
      fault = λ is. inl refl;
      given = λ had at_first.
          inl (serves_history Keeps live_faults c.in-Some.recorder k.0 had _ c.in-Some-end_record.field-0.whole
          (live_faults c.in-Some.recorder) c.ended-2.result
          (c.in-Some-end_record.ensures (reverse k.0.history) k.0.kept had at_first)
          (λ is. (let both = c.ended-2.ensures.done is in (both.1, k.1 both.0))));
    }
