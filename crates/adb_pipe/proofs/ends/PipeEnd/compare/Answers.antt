use Rattle.std.proofs.Common.{◌++◌, sym, ap, subst, ◌∙◌}
use Rattle.adb_pipe.specs.Ends.{EndView, InView}
use Rattle.adb_pipe.specs.Rule.{AreInOrder, chunks_in}
use Rattle.adb_pipe.specs.declared.rule.View.{View}
use Rattle.adb_pipe.proofs.Rules.{held}
use Rattle.adb_pipe.proofs.ends.PipeEnd.compare.Goals as goal

pub returns-clause-front : goal.returns-clause-front
returns-clause-front g c =
    let items = c.learn_as.ensures.rule.0 in
    let order = subst (λ (v : View). AreInOrder v items) c.absorb.ensures.rule c.learn_as.ensures.rule.1 in (
      chunks_in items,
      ap (λ (e : EndView). e.put) (sym c.self.view_is) ∙ held items _ _ order
          ∙ ap (λ (t : InView). t.taken ++ chunks_in items) c.input.view_is,
    )
