use Rattle.std.proofs.Common.{refl, ◌∙◌}
use Rattle.adb_outside.specs.Tables.{at}
use Rattle.adb_run_load.proofs.SentUp.{wrote_on}
use Rattle.adb_run_load.proofs.up.Up.sent_slice.Goals as goal

pub returns : goal.returns
returns c = record {
  here = λ fed read.
      wrote_on fed c.args.bytes.now c.args.link c.in_ok-written.written c.args.self.now _ (at c.args.link c.begin.new.links.entries)
      (at c.args.link c.written_on.new.links.entries) (c.in_ok-begin.ensures.here fed read) c.in_ok-written.ensures.here refl
      c.saturating_add-self.ensures;
  others = λ t other. c.in_ok-written.ensures.others t other ∙ c.in_ok-begin.ensures.others t other;
}
