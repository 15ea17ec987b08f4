-- The file of a line is taken behind a tree, or it is refused.
use Rattle.std.proofs.Common.{ℕ, ◌+◌, ◌≡◌, ◌≤◌, ◌||◌, arith, Bool, true, false, cond, not, List, Option, Some, None, refl, ◌∙◌, ap, sym}
use Rattle.std.proofs.Common.{subst}
use Rattle.std.specs.Prelude.{is_some, nat_lt}
use Rattle.adb_files.specs.declared.file.FileError.{FileError}
use Rattle.adb_files.specs.Entries.{Entry}
use Rattle.adb_files.specs.Files.{file_at, put_refusal, total, with_file}
use Rattle.adb_files.specs.Paths.{is_path}
use Rattle.adb_files.proofs.Lookups.{granted}
use Rattle.adb_files.proofs.Rising.{total-with}
use Rattle.adb_script.proofs.Patterns.{length_pattern}
use Rattle.adb_trees.specs.declared.line.FileLine.{FileLine}
use Rattle.adb_trees.specs.declared.tree.TheConstants.{MAX_TREE}
use Rattle.adb_trees.proofs.Kept.{less_without}
use Rattle.adb_trees.specs.Trees.{Tree, PutsLine, Takes, behind, file_of, is_refused, with_line}

by_name : (form named large refused : Bool) → (named || large) ≡ true → (not form || named || large || refused) ≡ true
by_name true true large refused is = refl
by_name false true large refused is = refl
by_name true false true refused is = refl
by_name false false true refused is = refl
by_name form false false refused is = absurd (cc)

by_put : (form named large : Bool) → (not form || named || large || true) ≡ true
by_put true true large = refl
by_put false named large = refl
by_put true false true = refl
by_put true false false = refl

by_none : (form named large refused : Bool) → form ≡ true → (named || large) ≡ false → refused ≡ false
    → (not form || named || large || refused) ≡ false
by_none true false false false f n r = refl
by_none form true large refused f n r = absurd (cc)
by_none form false true refused f n r = absurd (cc)
by_none false false false refused f n r = absurd (cc)
by_none form named large true f n r = absurd (cc)

module _ (tree : Tree) (line : FileLine) where
  abbrev refusal : Option FileError
  refusal = put_refusal tree.files line.path line.size

  abbrev named : Bool
  named = is_some (file_at line.path tree.files)

  abbrev large : Bool
  large = nat_lt MAX_TREE (tree.size + line.size)

  refused : is_refused tree line ≡ true → None ≡ behind tree (Some line)
  refused is = sym (ap (λ (t : Bool). cond t None (Some (with_line tree line))) is)

  -- by its name, or for too many bytes
  pub refused_before : (new : Tree) → (named || large) ≡ true → new ≡ tree → Takes false (behind tree (Some line)) tree new
  refused_before new is same = (sym (refused (by_name (is_path line.path) named large (is_some refusal) is)), same)

  pub refused_put : (new : Tree) → is_some refusal ≡ true → new ≡ tree → Takes false (behind tree (Some line)) tree new
  refused_put new is same =
      let all : is_refused tree line ≡ true =
      ap (λ (t : Bool). not (is_path line.path) || named || large || t) is ∙ by_put (is_path line.path) named large in
      (sym (refused all), same)

  pub taken : (new : Tree) → (named || large) ≡ false → refusal ≡ None → new ≡ with_line tree line
      → Takes true (behind tree (Some line)) tree new
  taken new free put is =
      let none : is_refused tree line ≡ false =
      by_none (is_path line.path) named large (is_some refusal) (granted tree.files line.path line.size put).form free (ap is_some put) in
      ap (λ (t : Bool). cond t None (Some (with_line tree line))) none ∙ ap Some (sym is)

-- ---- the file of a line is put
module _ (files new : List Entry) (size : ℕ) (line : FileLine) where
  abbrev tree_before : Tree
  tree_before = record { files = files; size = size }

  pub line_refused : (put : Bool) → put ≡ false → PutsLine put line files new
      → Takes false (behind tree_before (Some line)) tree_before (record { files = new; size = size })
  line_refused put is p =
      let no_put = subst (λ (b : Bool). PutsLine b line files new) is p in
      refused_put tree_before line (record { files = new; size = size }) no_put.0
      (ap (λ (fs : List Entry). record { files = fs; size = size }) no_put.1)

  pub line_taken : (put : Bool) → put ≡ true → PutsLine put line files new → is_some (file_at line.path files) ≡ false
      → nat_lt MAX_TREE (size + line.size) ≡ false
      → Takes true (behind tree_before (Some line)) tree_before (record { files = new; size = size + line.size })
  line_taken put is p free room =
      let done = subst (λ (b : Bool). PutsLine b line files new) is p in
      taken tree_before line (record { files = new; size = size + line.size })
      (ap (λ (t : Bool). t || nat_lt MAX_TREE (size + line.size)) free ∙ room) done.0
      (ap (λ (fs : List Entry). record { files = fs; size = size + line.size }) done.1)

  -- the files have no more bytes than are counted
  pub room_after : (put : Bool) → put ≡ true → PutsLine put line files new → total files ≤ size → total new ≤ size + line.size
  room_after put is p counted =
      let done = subst (λ (b : Bool). PutsLine b line files new) is p in
      let all : total new ≡ total (with_file line.path (file_of line) files) = ap total done.1 in
      omega (arith, all, total-with line.path (file_of line) files, length_pattern 0 line.size, less_without line.path files, counted)
