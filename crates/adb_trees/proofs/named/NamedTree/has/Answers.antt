use Rattle.std.proofs.Common.{◌∙◌, ap, is_some, refl, sym, List}
use Rattle.adb_files.specs.Entries.{Entry}
use Rattle.adb_files.specs.Files.{file_at}
use Rattle.adb_files.proofs.Lookups.{is_some_copied}
use Rattle.adb_trees.specs.NamedTree.{named_entry}
use Rattle.adb_trees.proofs.Shadows.{is_some-kept}
use Rattle.adb_trees.proofs.named.NamedTree.has.Goals as goal

pub returns : goal.returns
returns c =
    c.is_some.ensures ∙ (sym (is_some_copied c.get.result) ∙ (ap is_some c.get.ensures.file
    ∙ (sym (is_some-kept named_entry (λ e. refl) c.args.path.now c.self.inside.kept)
    ∙ ap (λ (files : List Entry). is_some (file_at c.args.path.now files)) c.self.view_is)))
