use Rattle.std.proofs.Common.{◌∙◌, ap, refl, sym, List}
use Rattle.adb_files.specs.Entries.{Entry}
use Rattle.adb_files.specs.Files.{next_path}
use Rattle.adb_trees.specs.NamedTree.{named_entry}
use Rattle.adb_trees.proofs.Shadows.{next_path-kept}
use Rattle.adb_trees.proofs.named.NamedTree.next_path.Goals as goal

pub returns : goal.returns
returns c =
    c.next_path.ensures.path ∙ (sym (next_path-kept named_entry (λ e. refl) c.args.after.now c.self.inside.kept)
    ∙ ap (λ (files : List Entry). next_path c.args.after.now files) c.self.view_is)
