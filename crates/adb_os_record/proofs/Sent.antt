-- The recorder of a live server may go to another thread.
use denote.RattleType.{RattleType}
use denote.Param.Send.{IsSend, plain_send, recorded_send, struct_send, view_send}
use denote.Struct.Declared.{shape}
use Rattle.std.proofs.Common.{rules}
use Rattle.std.specs.declared.sync.Wait as wait
use Rattle.std.proofs.option.Option.TheSendSync as option
use Rattle.adb_outside.specs.declared.sink.Sink as outside
use Rattle.adb_recorder.specs.contracts.sink_recorder.SinkRecorder as keeper
use Rattle.adb_recorder.specs.contracts.sink_recorder.SinkRecorder.TheInside as kept
use Rattle.adb_os_record.specs.declared.pipe_sink.Named as named
use Rattle.adb_os_record.specs.contracts.live.LiveRecorder as recorder
use Rattle.adb_os_record.specs.contracts.live.LiveRecorder.TheInside as inside
use Rattle.adb_os_record.specs.contracts.pipe_sink.PipeSink as sink
use Rattle.adb_os_record.specs.contracts.pipe_sink.PipeSinkSink.TheImpl as impl
use Rattle.adb_os_record.proofs.pipe_sink.PipeSink.TheSendSync as sink_sent

-- A recorder over a sink may go where the sink may go: the snapshot of the sink has no bytes.
recorder_send : (T : RattleType) (g : outside.Ghosts T.Denot) → IsSend T → IsSend (keeper.the_row T g)
recorder_send T g s =
    view_send (kept.the_row T g) _ _ _ _
    (recorded_send (kept.the_field T g).row _ _ (kept.the_type T g).to_one
    (struct_send (shape (kept.the_type T g)) (search rules, (s, (plain_send _ _ _ _ _, (plain_send _ _ _ _ _, tt))))))

pub live_send : (T U : RattleType) (g : wait.Ghosts T.Denot) (h : named.Ghosts U.Denot) → IsSend T → IsSend (recorder.the_row T U g h)
live_send T U g h s =
    view_send (inside.the_row T U g h) _ _ _ _
    (recorded_send (inside.the_field T U g h).row _ _ (inside.the_type T U g h).to_one
    (struct_send (shape (inside.the_type T U g h)) (
      option.the_field_send _ (recorder_send (sink.the_row T U h)
          (impl.ghosts T U g impl.no_dict h impl.no_dict impl.no_dict) (sink_sent.the_send T U h s)),
      tt,
    )))
