use Rattle.std.proofs.Common.{◌≡◌, ◌≤◌, ◌∙◌, ap, is_some, false, true, length, option_map, refl, subst, sym, List, Some, IfOk}
use Rattle.std.proofs.lemmas.Bool.{true≢false}
use Rattle.adb_files.specs.declared.file.File.{File}
use Rattle.adb_files.specs.Entries.{Entry}
use Rattle.adb_files.specs.Files.{file_at}
use Rattle.adb_script.specs.declared.word.TheConstants.{MAX_WORD}
use Rattle.adb_sync_client.specs.Texts.{push_text}
use Rattle.adb_trees.specs.NamedTree.{named_entry, named_file}
use Rattle.adb_trees.proofs.Kept.{found}
use Rattle.adb_trees.proofs.Shadows.{file_at-kept, is_some-kept}
use Rattle.adb_trees.proofs.named.NamedTree.push_text.Goals as goal

pub text_of-requires-clause-path : goal.text_of-requires-clause-path
text_of-requires-clause-path c =
    found (λ (e : Entry). length e.path ≤ MAX_WORD) c.args.path.now c.self.inside.kept c.in-Some.file.now
    c.self.invariant.words (sym c.in-Some.ensures.file)

pub text_of-requires-clause-size : goal.text_of-requires-clause-size
text_of-requires-clause-size c =
    found (λ (e : Entry). length e.file.bytes ≡ 4) c.args.path.now c.self.inside.kept c.in-Some.file.now
    c.self.invariant.sizes (sym c.in-Some.ensures.file)

pub unreachable-requires : goal.unreachable-requires
unreachable-requires c =
    let there = subst (λ (files : List Entry). is_some (file_at c.args.path.now files) ≡ true) (sym c.self.view_is) c.requires in
    let none : is_some (file_at c.args.path.now c.self.inside.kept) ≡ false = ap is_some (sym c.in-None.ensures.file) in
    true≢false (sym there ∙ (is_some-kept named_entry (λ e. refl) c.args.path.now c.self.inside.kept ∙ none))

pub returns : goal.returns
returns c file is =
    let kept : File = c.in-Some.file.now in
    let here : Some (named_file kept) ≡ Some file =
    ap (option_map named_file) c.in-Some.ensures.file
    ∙ (sym (file_at-kept named_entry (λ e. refl) named_file (λ e. refl) c.args.path.now c.self.inside.kept)
    ∙ (ap (λ (files : List Entry). file_at c.args.path.now files) c.self.view_is ∙ is)) in
    let same : named_file kept ≡ file = cc in
    subst (λ (f : File). IfOk c.text_of.result (λ text. text ≡ push_text c.args.path.now f.mode f.mtime f.bytes)) same c.text_of.ensures
