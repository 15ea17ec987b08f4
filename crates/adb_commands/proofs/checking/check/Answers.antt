use Rattle.std.proofs.Common.{◌∙◌}
use Rattle.adb_check.specs.Formed.{formed}
use Rattle.adb_commands.proofs.Checks.{comes_to, line_lost}
use Rattle.adb_commands.proofs.checking.check.Goals as goal

pub returns-in-All-clause-judges : goal.returns-in-All-clause-judges
returns-in-All-clause-judges g c = λ all was.
    comes_to c.in_ok-judgement.judgement (formed all) (g.S.Source.left c.judge_capture.new.source)
    (c.in_ok-judgement.ensures.judges all was)

pub returns-clause-line : goal.returns-clause-line
returns-clause-line g c = λ all had was has.
    line_lost c.in_ok-judgement.judgement (formed all) _ had c.as_slice.result.now c.in-Failed.taken _
    (c.in_ok-judgement.ensures.judges all was)
    (c.as_slice.ensures ∙ c.in_ok-line.ensures.line) (c.in-Failed.ensures.told had has)
