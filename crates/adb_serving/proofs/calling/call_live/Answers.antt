use Rattle.std.proofs.Common.{ℕ, ◌≡◌, subst}
use denote.Exit.{no}
use denote.Param.Send.{arg_send, param_send}
use Rattle.std.specs.contracts.marker.Brand as brand
use Rattle.adb_os_record.proofs.Sent.{live_send}
use Rattle.adb_asking.specs.Telling.{seen}
use Rattle.adb_top.specs.Tools.{RunsTool}
use Rattle.adb_serving.specs.Live.{live_yard}
use Rattle.adb_serving.proofs.Live.{tool_live, tool_starved}
use Rattle.adb_serving.proofs.calling.call_live.Goals as goal

pub returns-in_default-clause-tool : goal.returns-in_default-clause-tool
returns-in_default-clause-tool g c =
    tool_starved (seen g.N.Sink.steady g.N.Sink.faults g.N.Sink.written) c.args.note.now c.say_out_of_memory.new.note
    c.say_out_of_memory.result
    c.say_out_of_memory.ensures.status c.say_out_of_memory.ensures.told c.say_out_of_memory.ensures.counts c.args.words.now
    (seen g.S.Source.steady g.S.Source.faults g.S.Source.left) (seen g.K.Sink.steady g.K.Sink.faults g.K.Sink.written)
    c.args.source.now c.args.sink.now

pub returns-clause-tool : goal.returns-clause-tool
returns-clause-tool g c =
    let none : c.new-yard.result.faults ≡ 0 = c.new-yard.ensures.0 in
    let called = c.run-ran.ensures.tools c.requires.serves c.requires.tool in
    let live = tool_live _ _ _ _ c.args.source.now c.run-ran.new.source c.args.sink.now c.run-ran.new.sink c.args.note.now
    c.run-ran.new.note c.new-yard.result c.args.words.now c.run-ran.result.status called in
    subst
    (λ (count : ℕ). RunsTool c.args.words.now (seen g.S.Source.steady g.S.Source.faults g.S.Source.left)
    (seen g.K.Sink.steady g.K.Sink.faults g.K.Sink.written) (seen g.N.Sink.steady g.N.Sink.faults g.N.Sink.written)
    live_yard c.args.source.now
    c.run-ran.new.source c.args.sink.now c.run-ran.new.sink c.args.note.now c.run-ran.new.note count c.run-ran.result.status) none live

pub run-ran-requires-send-Y-Keeper : goal.run-ran-requires-send-Y-Keeper
run-ran-requires-send-Y-Keeper g c κs within =
    param_send _ _ (arg_send _ no _ (live_send _ brand.the_row _ _ c.type_bounds.send-W))
