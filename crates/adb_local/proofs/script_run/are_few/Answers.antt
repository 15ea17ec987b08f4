use Rattle.std.specs.Prelude.{length}
use Rattle.std.proofs.Common.{List, ap, arith}
use Rattle.std.proofs.lemmas.List.{length-map}
use Rattle.adb_script.specs.Lines.{Line, seen}
use Rattle.adb_local.proofs.script_run.are_few.Goals as goal

pub returns : goal.returns
returns c =
    let long = length-map c.lines.result.now seen in
    let same = ap (λ (lines : List Line). length lines) c.lines.ensures.lines in
    let few = c.lines.ensures.few in
    omega (arith, long, same, few)
