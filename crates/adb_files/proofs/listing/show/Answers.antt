use Rattle.std.proofs.Common.{ℕ, ◌+◌, ◌≡◌, ◌∙◌, ◌++◌, ap, sym, subst, arith, refl, List, take, length, true, Some, None, codes}
use Rattle.std.specs.BTreeMap.{insert_entry}
use Rattle.adb_files.specs.Entries.{Entry}
use Rattle.adb_files.specs.declared.stat.Stat.{Stat}
use Rattle.adb_files.specs.Paths.{path_cmp, is_below, inside}
use Rattle.adb_files.specs.Places.{BeginsAt}
use Rattle.adb_files.specs.Listing.{stat_of, directory_stat, rest_below, slash_in, named}
use Rattle.adb_files.proofs.Shown.{LiesBelow, shown_file, shown_directory, named-insert, rest_is, front_is}
use Rattle.adb_files.proofs.listing.show.Goals as goal

pub returns-in_ok-insert-in-None : goal.returns-in_ok-insert-in-None
returns-in_ok-insert-in-None c =
    let entry = c.index-slots-at.result in
    let directory = c.args.directory.now in
    let rest = rest_is directory c.slash_behind.result.now entry.path c.path-path.result.now c.slash_behind.ensures c.path-path.ensures in
    let none : slash_in (rest_below directory entry.path) ≡ None = ap slash_in (sym rest) ∙ (sym c.slash_in.ensures ∙ c.in-None.is) in
    let below : is_below directory entry.path ≡ true = ap (λ (e : Entry). is_below directory e.path)
    c.index-slots-at.is ∙ c.requires.below entry in
    let here = c.index-slots-at.is in
    let lies : LiesBelow directory c.args.slots.now c.args.at =
    record { entry = entry; within = c.requires.within; here = here; below = below } in
    let shown = shown_file directory c.args.slots.now c.args.at lies none in
    let key : c.in_ok-from_slice-in-None.field-0.items ≡ rest_below directory entry.path =
    c.in_ok-from_slice-in-None.ensures.items ∙ rest in
    let old = named c.args.found.now.entries in
    record {
      onward = omega arith;
      within = omega (arith, c.requires.within);
      found = λ is.
          ap named c.in_ok-insert-in-None.ensures.entries
          ∙ (named-insert _ (λ x y. refl) c.args.found.now.entries c.in_ok-from_slice-in-None.field-0 c.of.result
          ∙ (ap (λ (k : List ℕ). insert_entry path_cmp old k c.of.result) key
          ∙ (ap (λ (v : Stat). insert_entry path_cmp old (rest_below directory entry.path) v) (c.of.ensures ∙ ap stat_of c.file.ensures)
          ∙ (ap (λ (es : List (List ℕ × Stat)). insert_entry path_cmp es (rest_below directory entry.path)
          (stat_of entry.file)) is ∙ sym shown))));
    }

pub returns-in_ok-insert-in-Some : goal.returns-in_ok-insert-in-Some
returns-in_ok-insert-in-Some c =
    let entry = c.index-slots-at.result in
    let directory = c.args.directory.now in
    let i = c.in-Some.length in
    let rest = rest_is directory c.slash_behind.result.now entry.path c.path-path.result.now c.slash_behind.ensures c.path-path.ensures in
    let found : slash_in (rest_below directory entry.path) ≡ Some i = ap slash_in (sym rest) ∙ (sym c.slash_in.ensures ∙ c.in-Some.is) in
    let below : is_below directory entry.path ≡ true = ap (λ (e : Entry). is_below directory e.path)
    c.index-slots-at.is ∙ c.requires.below entry in
    let front = front_is directory c.slash_behind.result.now entry.path c.path-path.result.now i
    c.slash_behind.ensures c.path-path.ensures in
    let begins : BeginsAt (take (length (inside directory) + i) entry.path ++ codes "0") c.args.slots.now c.first_from.result = subst
    (λ (q : List ℕ). BeginsAt (q ++ codes "0") c.args.slots.now c.first_from.result) front c.first_from.ensures in
    let here = c.index-slots-at.is in
    let lies : LiesBelow directory c.args.slots.now c.args.at =
    record { entry = entry; within = c.requires.within; here = here; below = below } in
    let shown = shown_directory directory c.args.slots.now c.args.at c.first_from.result i lies c.requires.files.rising begins found in
    let key : c.in_ok-from_slice-in-Some.field-0.items ≡ take i (rest_below directory entry.path) = c.in_ok-from_slice-in-Some.ensures.items
    ∙ ap (take i) rest in
    let old = named c.args.found.now.entries in
    record {
      onward = shown.0;
      within = begins.within;
      found = λ is.
          ap named c.in_ok-insert-in-Some.ensures.entries
          ∙ (named-insert _ (λ x y. refl) c.args.found.now.entries c.in_ok-from_slice-in-Some.field-0 c.directory.result
          ∙ (ap (λ (k : List ℕ). insert_entry path_cmp old k c.directory.result) key
          ∙ (ap (λ (v : Stat). insert_entry path_cmp old (take i (rest_below directory entry.path)) v) c.directory.ensures
          ∙ (ap (λ (es : List (List ℕ × Stat)). insert_entry path_cmp es (take i (rest_below directory entry.path))
          directory_stat) is ∙ sym shown.1))));
    }
