use Rattle.std.proofs.Common.{◌≡◌, ◌≤◌, ◌+◌, ◌∙◌, false, List, ℕ, Some, ap, subst, sym}
use Rattle.std.specs.Prelude.{is_some, nat_lt}
use Rattle.std.proofs.lemmas.Bool.{ltb-false}
use Rattle.adb_files.specs.Entries.{Entry}
use Rattle.adb_files.specs.Files.{file_at, total}
use Rattle.adb_trees.specs.Trees.{Takes, Tree, behind}
use Rattle.adb_trees.specs.declared.tree.TheConstants.{MAX_TREE}
use Rattle.adb_trees.proofs.Taking.{line_refused, line_taken, room_after}
use Rattle.adb_trees.proofs.tree.Tree.take_file.Goals as goal

pub returns-then-not-branch : goal.returns-then-not-branch
returns-then-not-branch c =
    let after : Tree = record { files = c.put.new.self; size = c.self.inside.size } in
    subst (λ (t : Tree). Takes false (behind t (Some c.args.line.now)) t after) c.self.view_is
    (line_refused c.self.inside.files c.put.new.self c.self.inside.size c.args.line.now _ c.if-not-branch.true c.in_ok-put.ensures.put)

pub returns : goal.returns
returns c =
    let after : Tree = record { files = c.put.new.self; size = c.self.inside.size + c.args.line.now.size } in
    let free : is_some (file_at c.args.line.now.path c.args.self.now.files) ≡ false =
    ap (λ (path : List ℕ). is_some (file_at path c.args.self.now.files)) (sym c.as_slice.ensures.bytes)
    ∙ (sym c.has.ensures ∙ c.if-has.false) in
    let room : nat_lt MAX_TREE (c.args.self.now.size + c.args.line.now.size) ≡ false = sym c.is_too_much.ensures ∙ c.if-is_too_much.false in
    subst (λ (t : Tree). behind t (Some c.args.line.now) ≡ Some after) c.self.view_is
    (line_taken c.self.inside.files c.put.new.self c.self.inside.size c.args.line.now _ c.if-not-branch.false c.in_ok-put.ensures.put
    (subst (λ (t : Tree). is_some (file_at c.args.line.now.path t.files) ≡ false) (sym c.self.view_is) free)
    (subst (λ (t : Tree). nat_lt MAX_TREE (t.size + c.args.line.now.size) ≡ false) (sym c.self.view_is) room))

pub invariant_of-self : goal.invariant_of-self
invariant_of-self c =
    (subst (λ (files : List Entry). total files ≤ c.self.inside.size) (sym c.in_err-put.ensures.err) c.self.invariant.0, c.self.invariant.1)

pub invariant_of-self-2 : goal.invariant_of-self-2
invariant_of-self-2 c =
    let room : nat_lt MAX_TREE (c.args.self.now.size + c.args.line.now.size) ≡ false = sym c.is_too_much.ensures ∙ c.if-is_too_much.false in
    let inside = subst (λ (t : Tree). nat_lt MAX_TREE (t.size + c.args.line.now.size) ≡ false) (sym c.self.view_is) room in (
      room_after c.self.inside.files c.put.new.self c.self.inside.size c.args.line.now c.in_ok-put.field-0
          c.if-not-branch.false c.in_ok-put.ensures.put
          c.self.invariant.0,
      ltb-false MAX_TREE (c.self.inside.size + c.args.line.now.size) inside,
    )
