use Rattle.std.proofs.Common.{◌≡◌, ℕ, ◌∙◌, List, [], subst, sym}
use Rattle.adb_trees.specs.Trees.{AreNamed, Reads}
use Rattle.adb_files.specs.Entries.{Entry}
use Rattle.adb_trees.proofs.AllNamed.{all_named_few}
use Rattle.adb_trees.proofs.Readings.{no_bytes, read_all}
use Rattle.adb_trees.proofs.reading.read_tree.Goals as goal

pub returns-clause-named : goal.returns-clause-named
returns-clause-named c =
    let none : c.loop-rest.rest.now ≡ [] = no_bytes c.loop-rest.rest.now (sym c.is_empty.ensures ∙ c.loop-rest-test.false) in
    let all = subst (λ (rest : List ℕ). Reads c.args.script.now rest c.loop-rest.lines c.loop-rest.tree) none c.loop-rest.invariant in
    subst (λ (files : List Entry). AreNamed files) (sym c.into_files.ensures)
    (all_named_few c.args.script.now c.loop-rest.tree (read_all c.args.script.now c.loop-rest.lines c.loop-rest.tree all))
