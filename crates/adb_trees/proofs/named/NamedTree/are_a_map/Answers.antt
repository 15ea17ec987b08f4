use Rattle.std.proofs.Common.{arith, refl, subst}
use Rattle.adb_files.specs.Files.{IsFileMap}
use Rattle.adb_trees.specs.NamedTree.{named_entry}
use Rattle.adb_trees.proofs.Shadows.{is_map-kept}
use Rattle.adb_trees.proofs.named.NamedTree.are_a_map.Goals as goal

pub returns : goal.returns
returns c =
    let room = c.self.invariant.room in
    subst IsFileMap c.self.view_is
    (is_map-kept named_entry (λ e. refl) c.self.inside.kept c.get.ensures.files.modes c.get.ensures.files.times
    (omega (arith, room)) c.get.ensures.files)
