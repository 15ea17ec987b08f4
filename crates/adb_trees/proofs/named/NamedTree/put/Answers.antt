use Rattle.std.proofs.Common.{◌≡◌, ◌+◌, ◌<◌, ◌≤◌, ◌∙◌, IfOk, List, OnErr, length, subst, sym}
use Rattle.adb_files.specs.Entries.{Entry}
use Rattle.adb_files.specs.Files.{total}
use Rattle.adb_script.specs.declared.script.TheConstants.{MAX_LINES}
use Rattle.adb_trees.specs.NamedTree.{named_files}
use Rattle.adb_trees.specs.Trees.{PutsLine}
use Rattle.adb_trees.specs.declared.tree.TheConstants.{MAX_TREE}
use Rattle.adb_trees.proofs.Kept.{named_put, same_named, still_kept}
use Rattle.adb_trees.proofs.named.NamedTree.put.Goals as goal

pub invariant_of-self : goal.invariant_of-self
invariant_of-self c =
    let room = subst (λ (files : List Entry). total files + c.args.line.now.size ≤ MAX_TREE) (sym c.self.view_is) c.requires.room in
    let few = subst (λ (files : List Entry). length files < MAX_LINES) (sym c.self.view_is) c.requires.few in
    still_kept c.args.line.now c.in_ok-bytes.bytes c.self.inside.kept
    (c.in_ok-bytes.ensures ∙ c.size_bytes.ensures.bytes) c.size_bytes.ensures.size
    c.self.invariant c.as_slice.ensures.short room few c.put_file.result c.as_slice.result.now c.put_file.new.files c.as_slice.ensures.bytes
    c.put_file.ensures.put c.put_file.ensures.err

pub returns-clause-put : goal.returns-clause-put
returns-clause-put c =
    let room = subst (λ (files : List Entry). total files + c.args.line.now.size ≤ MAX_TREE) (sym c.self.view_is) c.requires.room in
    let few = subst (λ (files : List Entry). length files < MAX_LINES) (sym c.self.view_is) c.requires.few in
    let new : List Entry = named_files c.put_file.new.files in
    subst (λ (old : List Entry). IfOk c.put_file.result (λ put. PutsLine put c.args.line.now old new)) c.self.view_is
    (named_put c.args.line.now c.in_ok-bytes.bytes c.self.inside.kept
    (c.in_ok-bytes.ensures ∙ c.size_bytes.ensures.bytes) c.size_bytes.ensures.size
    c.self.invariant c.as_slice.ensures.short room few c.put_file.result c.as_slice.result.now c.put_file.new.files c.as_slice.ensures.bytes
    c.put_file.ensures.put)

pub returns-clause-err : goal.returns-clause-err
returns-clause-err c =
    let new : List Entry = named_files c.put_file.new.files in
    subst (λ (old : List Entry). OnErr c.put_file.result (new ≡ old)) c.self.view_is
    (same_named c.put_file.result c.self.inside.kept c.put_file.new.files c.put_file.ensures.err)
