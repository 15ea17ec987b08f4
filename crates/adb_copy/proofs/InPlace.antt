-- Behind a push each file of the tree is in its place, and all else is as before.
use Rattle.std.proofs.Common.{ℕ, ◌≡◌, Bool, true, false, cond, List, [], ◌∷◌, filter, length, Option, Some, None, refl, sym, ◌∙◌, ap, subst}
use Rattle.std.specs.Option.{option_or}
use Rattle.std.specs.Prelude.{bytes_eq, option_map}
use Rattle.std.specs.List.{find}
use Rattle.std.specs.Ordering.{is_lt}
use Rattle.std.specs.declared.cmp.Ordering.{Ordering}
use Rattle.std.specs.declared.cmp.Ordering.TheVariants.{Less, Equal, Greater}
use Rattle.std.proofs.lemmas.List.Folds.{find-append}
use Rattle.std.proofs.lemmas.Slice.Eq.{bytes_eq-Decides}
use Rattle.adb_files.specs.declared.file.File.{File}
use Rattle.adb_files.specs.declared.file.FileError.{FileError}
use Rattle.adb_files.specs.Entries.{Entry}
use Rattle.adb_files.specs.Files.{IsFileMap, IsRising, before, behind, file_at, put_refusal, with_file}
use Rattle.adb_files.specs.Paths.{path_cmp}
use Rattle.adb_files.proofs.Lookups.{apart_by_order, same_by_test}
use Rattle.adb_files.proofs.Order.{greater_back, less_back, same_path}
use Rattle.adb_files.proofs.Rising.{entry_of, less_from_test}
use Rattle.adb_copy.specs.Trees.{Pushed, all_pushed, pushed, pushed_by}
use Rattle.adb_copy.proofs.Splits.{are_behind, none_found, rising_left}

abbrev has : List ℕ → Entry → Bool
has path entry = bytes_eq entry.path path

-- what is looked for among the files that a filter keeps, where it keeps all that pass, or none
find_kept : (test keep : Entry → Bool) → ((x : Entry) → test x ≡ true → keep x ≡ true) → (files : List Entry)
    → find test (filter keep files) ≡ find test files
find_kept test keep says [] = refl
find_kept test keep says (x ∷ files) = go (test x) refl (keep x) refl (find_kept test keep says files)
  where
    go : (t : Bool) → test x ≡ t → (k : Bool) → keep x ≡ k → find test (filter keep files) ≡ find test files
        → find test (cond k (x ∷ filter keep files) (filter keep files)) ≡ cond t (Some x) (find test files)
    go t is true kept more =
        ap (λ (b : Bool). cond b (Some x) (find test (filter keep files))) is ∙ ap (λ (o : Option Entry). cond t (Some x) o) more
    go true is false kept more = let clash = says x is in absurd (cc)
    go false is false kept more = more

find_dropped : (test keep : Entry → Bool) → ((x : Entry) → keep x ≡ true → test x ≡ false) → (files : List Entry)
    → find test (filter keep files) ≡ None
find_dropped test keep says [] = refl
find_dropped test keep says (x ∷ files) = go (keep x) refl (find_dropped test keep says files)
  where
    go : (k : Bool) → keep x ≡ k → find test (filter keep files) ≡ None
        → find test (cond k (x ∷ filter keep files) (filter keep files)) ≡ None
    go true kept more = ap (λ (t : Bool). cond t (Some x) (find test (filter keep files))) (says x kept) ∙ more
    go false kept more = more

module _ (path : List ℕ) (file : File) (files : List Entry) where
  abbrev parts : List ℕ → Option Entry
  parts other =
      option_or (find (has other) (before path files))
      (cond (bytes_eq path other) (Some (entry_of path file)) (find (has other) (behind path files)))

  in_parts : (other : List ℕ) → find (has other) (with_file path file files) ≡ parts other
  in_parts other = find-append (has other) (before path files) (entry_of path file ∷ behind path files)

  stored_here : file_at path (with_file path file files) ≡ Some file
  stored_here =
      let none : find (has path) (before path files) ≡ None = find_dropped (has path) (λ (x : Entry). is_lt (path_cmp x.path path))
      (λ x is. apart_by_order x.path path Less refl (less_from_test (path_cmp x.path path) is)) files in
      ap (option_map (λ (x : Entry). x.file)) (in_parts path
      ∙ (ap (λ (o : Option Entry). option_or o
      (cond (bytes_eq path path) (Some (entry_of path file)) (find (has path) (behind path files)))) none
      ∙ ap (λ (t : Bool). cond t (Some (entry_of path file)) (find (has path) (behind path files))) (same_by_test path path refl)))

  -- a file of another path stands on its own side
  same_side : (other : List ℕ) (x : Entry) → has other x ≡ true → x.path ≡ other
  same_side other x is = (bytes_eq-Decides x.path other).0 is

  kept_else : (other : List ℕ) → bytes_eq path other ≡ false → file_at other (with_file path file files) ≡ file_at other files
  kept_else other apart =
      ap (option_map (λ (x : Entry). x.file)) (in_parts other
      ∙ (ap (λ (t : Bool). option_or (find (has other) (before path files))
      (cond t (Some (entry_of path file)) (find (has other) (behind path files)))) apart
      ∙ go (path_cmp other path) refl))
    where
      is_before : Entry → Bool
      is_before x = is_lt (path_cmp x.path path)

      is_behind : Entry → Bool
      is_behind x = is_lt (path_cmp path x.path)

      -- a test fails where its order is another
      fails : (x : Entry) (o : Ordering) → path_cmp x.path path ≡ o → (path_cmp other path ≡ o → ⊥) → has other x ≡ false
      fails x o is differs = flip (has other x) refl
        where
          flip : (t : Bool) → has other x ≡ t → has other x ≡ false
          flip false e = e
          flip true e = absurd (differs (sym (ap (λ (p : List ℕ). path_cmp p path) (same_side other x e)) ∙ is))

      go : (o : Ordering) → path_cmp other path ≡ o
          → option_or (find (has other) (before path files)) (find (has other) (behind path files)) ≡ find (has other) files
      go Less is =
          let front = find_kept (has other) is_before
          (λ x same. ap (λ (p : List ℕ). is_lt (path_cmp p path)) (same_side other x same) ∙ ap is_lt is) files in
          let back = find_dropped (has other) is_behind
          (λ x more. fails x Greater (greater_back path x.path (less_from_test (path_cmp path x.path) more))
          (λ e. let clash = sym is ∙ e in absurd (cc)))
          files in
          ap (λ (o : Option Entry). option_or o (find (has other) (behind path files))) front
          ∙ (ap (λ (o : Option Entry). option_or (find (has other) files) o) back ∙ or_none (find (has other) files))
        where
          or_none : (o : Option Entry) → option_or o None ≡ o
          or_none None = refl
          or_none (Some x) = refl
      go Equal is =
          let same = same_path other path is in
          let clash = same_by_test path other (sym same) in absurd (cc)
      go Greater is =
          let front = find_dropped (has other) is_before
          (λ x less. fails x Less (less_from_test (path_cmp x.path path) less) (λ e. let clash = sym is ∙ e in absurd (cc))) files in
          let back = find_kept (has other) is_behind
          (λ x same. ap (λ (p : List ℕ). is_lt (path_cmp path p)) (same_side other x same) ∙ ap is_lt (less_back other path is)) files in
          ap (λ (o : Option Entry). option_or o (find (has other) (behind path files))) front ∙ back

in_place : (tree files new : List Entry) → IsRising tree → pushed files tree ≡ all_pushed new → (path : List ℕ)
    → file_at path new ≡ option_or (file_at path tree) (file_at path files)
in_place [] files new up is path = ap (file_at path) (sym (ap (λ (p : Pushed). p.files) is))
in_place (e ∷ more) files new up is path =
    go (put_refusal files e.path (length e.file.bytes)) is
    (λ stored. in_place more (with_file e.path e.file files) new (rising_left e more up) stored path)
  where
    now : List Entry
    now = with_file e.path e.file files

    here : (t : Bool) → bytes_eq e.path path ≡ t → option_or (file_at path more) (file_at path now)
        ≡ option_or (file_at path (e ∷ more)) (file_at path files)
    here true is =
        let same : e.path ≡ path = (bytes_eq-Decides e.path path).0 is in
        let none : file_at path more ≡ None = subst (λ (p : List ℕ). file_at p more ≡ None) same
        (none_found e.path more (are_behind [] e more up)) in
        let stored : file_at path now ≡ Some e.file =
        subst (λ (p : List ℕ). file_at p now ≡ Some e.file) same (stored_here e.path e.file files) in
        let first : file_at path (e ∷ more) ≡ Some e.file =
        ap (λ (t : Bool). option_map (λ (x : Entry). x.file) (cond t (Some e) (find (has path) more))) is in
        ap (λ (o : Option File). option_or o (file_at path now)) none
        ∙ (stored ∙ sym (ap (λ (o : Option File). option_or o (file_at path files)) first))
    here false is =
        let first : file_at path (e ∷ more) ≡ file_at path more =
        ap (λ (t : Bool). option_map (λ (x : Entry). x.file) (cond t (Some e) (find (has path) more))) is in
        ap (λ (o : Option File). option_or (file_at path more) o) (kept_else e.path e.file files path is)
        ∙ sym (ap (λ (o : Option File). option_or o (file_at path files)) first)

    go : (o : Option FileError) → pushed_by o files e (λ stored. pushed stored more) ≡ all_pushed new
        → (pushed now more ≡ all_pushed new → file_at path new ≡ option_or (file_at path more) (file_at path now))
        → file_at path new ≡ option_or (file_at path (e ∷ more)) (file_at path files)
    go None is rest = rest is ∙ here (bytes_eq e.path path) refl
    go (Some refusal) is rest = let clash = ap (λ (p : Pushed). p.refused) is in absurd (cc)

pub are_in_place : (tree files new : List Entry) → IsFileMap tree → pushed files tree ≡ all_pushed new → (path : List ℕ)
    → file_at path new ≡ option_or (file_at path tree) (file_at path files)
are_in_place tree files new map = in_place tree files new map.rising
