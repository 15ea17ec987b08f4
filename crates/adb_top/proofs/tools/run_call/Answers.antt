use Rattle.std.proofs.Common.{subst}
use Rattle.adb_asking.specs.Telling.{seen}
use Rattle.adb_top.specs.Usage.{SaysUsage}
use Rattle.adb_top.proofs.Calls.{unheard}
use Rattle.adb_top.proofs.tools.run_call.Goals as goal

pub returns-clause-tool : goal.returns-clause-tool
returns-clause-tool g c = record {
  end = c.run_tool-end.result;
  mid = c.run_tool-end.new.note;
  yard_new = c.run_tool-end.new.yard;
  usage = c.run_tool-end.ensures.usage;
  command = c.run_tool-end.ensures.words;
  untouched = c.run_tool-end.ensures.untouched;
  calls = c.run_tool-end.ensures.calls;
  tells = c.say_end.ensures;
}

pub returns-clause-unheard : goal.returns-clause-unheard
returns-clause-unheard g c none =
    let still = c.run_tool-end.ensures.untouched none in
    let said = unheard c.run_tool-end.result c.say_end.result (seen g.N.Sink.steady g.N.Sink.faults g.N.Sink.written)
    c.run_tool-end.new.note c.say_end.new.note (c.run_tool-end.ensures.usage none) c.say_end.ensures in (
      subst (λ (m : _). SaysUsage c.say_end.result (seen g.N.Sink.steady g.N.Sink.faults g.N.Sink.written) m c.say_end.new.note)
          still.2 said,
      still.0,
      still.1,
    )
