-- What the files of a part of the map show of a directory.
use Rattle.std.specs.Prelude.{ℕ, ◌+◌, ◌-◌, ◌≡◌, ◌≢◌, ◌<◌, ◌≤◌, ◌==◌, cond, true, false, List, [], ◌∷◌, ◌++◌, length, take, drop, filter}
use Rattle.std.specs.Prelude.{fold}
use Rattle.std.specs.Prelude.{slice_index_or, Option, Some, None, Vec, nat_eq, codes, refl, zero, suc}
use Rattle.std.proofs.Common.{add-zero, ◌⊎◌, inl, inr, ◌∙◌, ap, sym, subst, arith, Ordering}
use Rattle.std.specs.Ordering.{match_ordering}
use Rattle.std.specs.declared.cmp.Ordering.TheVariants.{Less, Equal, Greater}
use Rattle.std.specs.Cmp.Lexicographic.{pointwise}
use Rattle.std.specs.BTreeMap.{insert_entry}
use Rattle.std.specs.List.{starts_with, AllWithin}
use Rattle.std.proofs.lemmas.Bool.{cases_order, eqb-true, false_from_ne_true}
use Rattle.std.proofs.lemmas.List.{get_or_read, get_or-drop, get_or-take, append-nil, take_rest, length-append, length-take, length-drop}
use Rattle.std.proofs.lemmas.List.{take-append-drop}
use Rattle.std.proofs.lemmas.List.Elements.{filter_more, filter-append}
use Rattle.std.proofs.lemmas.List.Sums.{fold-append}
use Rattle.std.proofs.lemmas.List.Quantifiers.{position-Some}
use Rattle.adb_files.specs.Entries.{Entry}
use Rattle.adb_files.specs.declared.stat.Stat.{Stat}
use Rattle.adb_files.specs.Paths.{path_cmp, slash_behind, inside, is_below}
use Rattle.adb_files.specs.Files.{IsRising}
use Rattle.adb_files.specs.Places.{BeginsAt, AllBefore}
use Rattle.adb_files.specs.Listing.{stat_of, directory_stat, rest_below, slash_in, part_at, stat_at, with_shown, shown_in, named}
use Rattle.adb_files.proofs.Order.{path_cmp-same}
use Rattle.adb_files.proofs.Places.{earlier_less}
use Rattle.adb_files.proofs.Lookups.{no_entry}
use Rattle.adb_files.proofs.Below.{not_less, below_slash, begins_between}
use Rattle.adb_files.proofs.Siblings.{front_less, front_between, Alike, alike_fronts, slash_alike, alike_drop, alike_take}

-- a map by names is a map by the bytes of the names
pub named-insert : {A : Type 0} (cmp : Vec ℕ A → Vec ℕ A → Ordering) → ((x y : Vec ℕ A) → cmp x y ≡ path_cmp x.items y.items)
    → (es : List (Vec ℕ A × Stat)) (k : Vec ℕ A) (v : Stat) → named (insert_entry cmp es k v) ≡ insert_entry path_cmp (named es) k.items v
named-insert cmp says [] k v = refl
named-insert {A} cmp says (e ∷ es) k v =
    go (cmp k e.0) (named-insert cmp says es k v)
    ∙ ap (λ (o : Ordering). match_ordering o ((k.items, v) ∷ (e.0.items, e.1) ∷ named es) ((e.0.items, v) ∷ named es)
    ((e.0.items, e.1) ∷ insert_entry path_cmp (named es) k.items v)) (says k e.0)
  where
    go : (o : Ordering) → named (insert_entry cmp es k v) ≡ insert_entry path_cmp (named es) k.items v
        → named (match_ordering o ((k, v) ∷ e ∷ es) ((e.0, v) ∷ es) (e ∷ insert_entry cmp es k v)) ≡ match_ordering o
        ((k.items, v) ∷ (e.0.items, e.1) ∷ named es) ((e.0.items, v) ∷ named es)
        ((e.0.items, e.1) ∷ insert_entry path_cmp (named es) k.items v)
    go Less rest = refl
    go Equal rest = refl
    go Greater rest = ap (λ (xs : List (List ℕ × Stat)). (e.0.items, e.1) ∷ xs) rest

-- to put the same again changes nothing
insert-insert : (es : List (List ℕ × Stat)) (k : List ℕ) (v : Stat)
    → insert_entry path_cmp (insert_entry path_cmp es k v) k v ≡ insert_entry path_cmp es k v
insert-insert [] k v =
    ap (λ o. match_ordering o ((k, v) ∷ (k, v) ∷ []) ((k, v) ∷ []) ((k, v) ∷ insert_entry path_cmp [] k v))
    (path_cmp-same k)
insert-insert (e ∷ es) k v = go (path_cmp k e.0) refl (insert-insert es k v)
  where
    go : (o : Ordering) → path_cmp k e.0 ≡ o → insert_entry path_cmp (insert_entry path_cmp es k v) k v ≡ insert_entry path_cmp es k v
        → insert_entry path_cmp
        (match_ordering o ((k, v) ∷ e ∷ es) ((e.0, v) ∷ es) (e ∷ insert_entry path_cmp es k v)) k v
        ≡ match_ordering o ((k, v) ∷ e ∷ es)
        ((e.0, v) ∷ es) (e ∷ insert_entry path_cmp es k v)
    go Less is rest =
        ap (λ o. match_ordering o ((k, v) ∷ (k, v) ∷ e ∷ es) ((k, v) ∷ e ∷ es)
        ((k, v) ∷ insert_entry path_cmp (e ∷ es) k v)) (path_cmp-same k)
    go Equal is rest = ap (λ o. match_ordering o ((k, v) ∷ (e.0, v) ∷ es) ((e.0, v) ∷ es) ((e.0, v) ∷ insert_entry path_cmp es k v)) is
    go Greater is rest =
        ap (λ o. match_ordering o ((k, v) ∷ e ∷ insert_entry path_cmp es k v) ((e.0, v) ∷ insert_entry path_cmp es k v)
        (e ∷ insert_entry path_cmp (insert_entry path_cmp es k v) k v)) is
        ∙ ap (λ (xs : List (List ℕ × Stat)). e ∷ xs) rest

-- one more file below the directory
one_more : (directory : List ℕ) (files : List Entry) (k : ℕ) (d : Entry) → k < length files
    → is_below directory (slice_index_or files k d).path ≡ true
    → shown_in directory (take (k + 1) files) ≡ with_shown directory (shown_in directory (take k files)) (slice_index_or files k d)
one_more directory files k d h below =
    let p = λ (e : Entry). is_below directory e.path in
    let e = slice_index_or files k d in
    ap (fold (with_shown directory) []) (filter_more p files k d h ∙ ap (λ t. filter p (take k files) ++ cond t (e ∷ []) []) below)
    ∙ fold-append (with_shown directory) [] (filter p (take k files)) (e ∷ [])

-- A file of the map that lies below the directory.
pub record LiesBelow (directory : List ℕ) (files : List Entry) (at : ℕ) : Type 0 where
  pub entry : Entry
  pub within : at < length files
  pub here : entry ≡ slice_index_or files at entry
  pub below : is_below directory entry.path ≡ true

-- one that lies in the directory itself
pub shown_file : (directory : List ℕ) (files : List Entry) (at : ℕ) (lies : LiesBelow directory files at)
    → slash_in (rest_below directory lies.entry.path) ≡ None
    → shown_in directory (take (at + 1) files)
    ≡ insert_entry path_cmp (shown_in directory (take at files)) (rest_below directory lies.entry.path) (stat_of lies.entry.file)
shown_file directory files at lies none =
    let e = lies.entry in
    let rest = rest_below directory e.path in
    one_more directory files at e lies.within (ap (λ (x : Entry). is_below directory x.path) (sym lies.here) ∙ lies.below)
    ∙ (ap (with_shown directory (shown_in directory (take at files))) (sym lies.here)
    ∙ ap (λ (o : Option ℕ). insert_entry path_cmp (shown_in directory (take at files)) (part_at o rest) (stat_at o e.file)) none)

-- files that all show the same
many_more : (directory name : List ℕ) (files : List Entry) (at count : ℕ) → at + count < length files
    → ((k : ℕ) → at ≤ k → k ≤ at + count → (is_below directory (slice_index_or files k no_entry).path ≡ true) ×
    ((found : List (List ℕ × Stat)) → with_shown directory found (slice_index_or files k no_entry)
    ≡ insert_entry path_cmp found name directory_stat))
    → shown_in directory (take (at + count + 1) files) ≡ insert_entry path_cmp (shown_in directory (take at files)) name directory_stat
many_more directory name files at zero h each =
    let first = each at (omega arith) (omega arith) in
    ap (λ n. shown_in directory (take (n + 1) files)) (add-zero at)
    ∙ (one_more directory files at no_entry (omega arith) first.0 ∙ first.1 (shown_in directory (take at files)))
many_more directory name files at (suc count) h each =
    let last = each (at + suc count) (omega arith) (omega arith) in
    let before : shown_in directory (take (at + suc count) files)
    ≡ insert_entry path_cmp (shown_in directory (take at files)) name directory_stat = ap
    (λ n. shown_in directory (take n files)) (omega arith) ∙ many_more directory name files at count (omega arith)
    (λ k l m. each k l (omega arith)) in
    one_more directory files (at + suc count) no_entry h last.0
    ∙ (last.1 (shown_in directory (take (at + suc count) files))
    ∙ (ap (λ (found : List (List ℕ × Stat)). insert_entry path_cmp found name directory_stat) before
    ∙ insert-insert (shown_in directory (take at files)) name directory_stat))

-- what a path shows that is alike up to the end of a further directory's name
alike_shows : (directory : List ℕ) (x e : Entry) (i : ℕ) → is_below directory e.path ≡ true
    → slash_in (rest_below directory e.path) ≡ Some i
    → Alike (length (inside directory) + (i + 1)) x.path e.path
    → (is_below directory x.path ≡ true) × ((found : List (List ℕ × Stat))
    → with_shown directory found x ≡ insert_entry path_cmp found (take i (rest_below directory e.path)) directory_stat)
alike_shows directory x e i below found alike =
    let n = length (inside directory) in
    let rests = alike_drop n (i + 1) x.path e.path alike in
    let slash = slash_alike (rest_below directory x.path) (rest_below directory e.path) i found rests in (
      ap (pointwise nat_eq (inside directory)) (alike_take (n + (i + 1)) n x.path e.path (omega arith) alike) ∙ below,
      λ shown.
          ap (λ (o : Option ℕ). insert_entry path_cmp shown (part_at o (rest_below directory x.path)) (stat_at o x.file)) slash
          ∙ ap (λ (name : List ℕ). insert_entry path_cmp shown name directory_stat)
          (alike_take (i + 1) i (rest_below directory x.path) (rest_below directory e.path) (omega arith) rests),
    )

-- all the files that lie in one further directory
pub shown_directory : (directory : List ℕ) (files : List Entry) (at next i : ℕ) (lies : LiesBelow directory files at) → IsRising files
    → BeginsAt (take (length (inside directory) + i) lies.entry.path ++ codes "0") files next
    → slash_in (rest_below directory lies.entry.path) ≡ Some i
    → (at < next) × (shown_in directory (take next files)
    ≡ insert_entry path_cmp (shown_in directory (take at files)) (take i (rest_below directory lies.entry.path)) directory_stat)
shown_directory directory files at next i lies rising begins slash = (onward, all)
  where
    e : Entry
    e = lies.entry

    ends : (i < length (rest_below directory e.path)) × (slice_index_or (rest_below directory e.path) i 0 ≡ 47)
    ends = let p = position-Some (λ byte. byte == 47) (rest_below directory e.path) i 0 slash in
        (p.0, eqb-true (slice_index_or (rest_below directory e.path) i 0) 47 p.1)

    long : length (inside directory) + i < length e.path
    long = omega (arith, ends.0, length-drop (length (inside directory)) e.path)

    goes_on : starts_with nat_eq e.path ((take (length (inside directory) + i) e.path) ++ codes "/") ≡ true
    goes_on = below_slash e.path (length (inside directory) + i) long (sym (get_or-drop (length (inside directory)) e.path i 0) ∙ ends.1)

    at_is : (d : Entry) → e ≡ slice_index_or files at d
    at_is d = get_or_read files at e lies.within lies.here d

    onward : at < next
    onward = go (cases_order at next)
      where
        less : path_cmp (slice_index_or files at e).path ((take (length (inside directory) + i) e.path) ++ codes "0") ≡ Less
        less = ap (λ (x : Entry). path_cmp x.path ((take (length (inside directory) + i) e.path) ++ codes "0")) (sym lies.here)
            ∙ front_less (take (length (inside directory) + i) e.path) e.path goes_on

        go : (at ≡ next) ⊎ ((at < next) ⊎ (next < at)) → at < next
        go (inl s) = absurd (begins.others at e (omega arith) lies.within less)
        go (inr (inl l)) = l
        go (inr (inr l)) = absurd (begins.others at e (omega arith) lies.within less)

    begins_there : (k : ℕ) → at ≤ k → k < next → starts_with nat_eq (slice_index_or files k no_entry).path
        ((take (length (inside directory) + i) e.path) ++ codes "/") ≡ true
    begins_there k l m = go (cases_order at k)
      where
        go : (at ≡ k) ⊎ ((at < k) ⊎ (k < at)) → starts_with nat_eq (slice_index_or files k no_entry).path
            ((take (length (inside directory) + i) e.path) ++ codes "/") ≡ true
        go (inl s) = subst (λ (j : ℕ). starts_with nat_eq (slice_index_or files j no_entry).path
            ((take (length (inside directory) + i) e.path) ++ codes "/") ≡ true) s
            (ap (λ (x : Entry). starts_with nat_eq x.path
            ((take (length (inside directory) + i) e.path) ++ codes "/")) (sym (at_is no_entry)) ∙ goes_on)
        go (inr (inl f)) = front_between (take (length (inside directory) + i) e.path) e.path (slice_index_or files k no_entry).path goes_on
            (ap (λ (x : Entry). path_cmp x.path (slice_index_or files k no_entry).path) (at_is no_entry)
            ∙ earlier_less files rising at k no_entry f (omega (arith, m, begins.within))) (begins.less k no_entry (omega arith) m)
        go (inr (inr f)) = absurd (omega arith)

    alike : (k : ℕ) → at ≤ k → k < next → Alike (length (inside directory) + (i + 1)) (slice_index_or files k no_entry).path e.path
    alike k l m =
        let a = alike_fronts (take (length (inside directory) + i) e.path) (slice_index_or files k no_entry).path
        e.path (begins_there k l m) goes_on in
        subst (λ (j : ℕ). Alike j (slice_index_or files k no_entry).path e.path)
        (omega (arith, long, length-take (length (inside directory) + i) e.path)) a

    ends_at : at + (next - at - 1) + 1 ≡ next
    ends_at = omega (arith, onward)

    all : shown_in directory (take next files)
        ≡ insert_entry path_cmp (shown_in directory (take at files)) (take i (rest_below directory e.path)) directory_stat
    all =
        ap (λ j. shown_in directory (take j files)) (sym ends_at)
        ∙ many_more directory (take i (rest_below directory e.path)) files at (next - at - 1) (omega (arith, ends_at, begins.within))
        (λ k l m. alike_shows directory (slice_index_or files k no_entry) e i lies.below slash (alike k l (omega (arith, m, ends_at))))

-- past the last file below the directory nothing more is shown
pub shown_all : (directory : List ℕ) (files : List Entry) (at : ℕ) → IsRising files → at ≤ length files
    → AllWithin (λ e. path_cmp e.path (inside directory) ≢ Less) files at (length files)
    → ((d : Entry) → at < length files → is_below directory (slice_index_or files at d).path ≡ false)
    → shown_in directory (take at files) ≡ shown_in directory files
shown_all directory files at rising h others stop = ap (fold (with_shown directory) []) same
  where
    fails : (k : ℕ) (d : Entry) → at ≤ k → k < length files → is_below directory (slice_index_or files k d).path ≡ false
    fails k d l m = go (cases_order at k)
      where
        go : (at ≡ k) ⊎ ((at < k) ⊎ (k < at)) → is_below directory (slice_index_or files k d).path ≡ false
        go (inl s) = subst (λ (j : ℕ). is_below directory (slice_index_or files j d).path ≡ false) s (stop d (omega arith))
        go (inr (inl f)) = false_from_ne_true _ (λ t. let is = begins_between (inside directory) (slice_index_or files at d).path
            (slice_index_or files k d).path (others at d (omega arith) (omega arith))
            (earlier_less files rising at k d f m) t in let not = stop d
            (omega arith) in cc)
        go (inr (inr f)) = absurd (omega arith)

    none : (xs : List Entry) → ((k : ℕ) (d : Entry) → k < length xs → is_below directory (slice_index_or xs k d).path ≡ false)
        → filter (λ (e : Entry). is_below directory e.path) xs ≡ []
    none [] each = refl
    none (x ∷ xs) each =
        ap (λ t. cond t (x ∷ filter (λ (e : Entry). is_below directory e.path) xs)
        (filter (λ (e : Entry). is_below directory e.path) xs))
        (each 0 x (omega arith)) ∙ none xs (λ k d l. each (suc k) d (omega arith))

    same : filter (λ (e : Entry). is_below directory e.path) (take at files) ≡ filter (λ (e : Entry). is_below directory e.path) files
    same =
        sym (append-nil (filter (λ (e : Entry). is_below directory e.path) (take at files)))
        ∙ (ap (λ (xs : List Entry). filter (λ (e : Entry). is_below directory e.path) (take at files) ++ xs)
        (sym (none (drop at files) (λ k d l. ap (λ (e : Entry). is_below directory e.path) (get_or-drop at files k d)
        ∙ fails (at + k) d (omega arith) (omega (arith, l, length-drop at files)))))
        ∙ (sym (filter-append (λ (e : Entry). is_below directory e.path) (take at files) (drop at files))
        ∙ ap (filter (λ (e : Entry). is_below directory e.path)) (take-append-drop at files)))

-- a path in code: past a directory and its slash, and up to a place behind them
size_is : (directory slash : List ℕ) → slash ≡ slash_behind directory → length directory + length slash ≡ length (inside directory)
size_is directory slash behind = omega (arith, ap length behind, length-append directory (slash_behind directory))

pub rest_is : (directory slash path p : List ℕ) → slash ≡ slash_behind directory → p ≡ path
    → take (length p - (length directory + length slash)) (drop (length directory + length slash) p) ≡ rest_below directory path
rest_is directory slash path p behind same =
    take_rest p (length directory + length slash)
    ∙ (ap (λ n. drop n p) (size_is directory slash behind) ∙ ap (drop (length (inside directory))) same)

pub front_is : (directory slash path p : List ℕ) (i : ℕ) → slash ≡ slash_behind directory → p ≡ path
    → take (length directory + length slash + i) p ≡ take (length (inside directory) + i) path
front_is directory slash path p i behind same =
    ap (λ n. take (n + i) p) (size_is directory slash behind) ∙ ap (take (length (inside directory) + i)) same

-- the files before a directory's slash show nothing of it
pub shown_none : (directory : List ℕ) (files : List Entry) (i : ℕ) → i ≤ length files → AllBefore (inside directory) files i
    → shown_in directory (take i files) ≡ []
shown_none directory files i h less = ap (fold (with_shown directory) []) (none (take i files) each)
  where
    none : (xs : List Entry) → ((k : ℕ) (d : Entry) → k < length xs → is_below directory (slice_index_or xs k d).path ≡ false)
        → filter (λ (e : Entry). is_below directory e.path) xs ≡ []
    none [] fails = refl
    none (x ∷ xs) fails =
        ap (λ t. cond t (x ∷ filter (λ (e : Entry). is_below directory e.path) xs)
        (filter (λ (e : Entry). is_below directory e.path) xs))
        (fails 0 x (omega arith)) ∙ none xs (λ k d l. fails (suc k) d (omega arith))

    each : (k : ℕ) (d : Entry) → k < length (take i files) → is_below directory (slice_index_or (take i files) k d).path ≡ false
    each k d l =
        let within : k < i = omega (arith, l, length-take i files) in
        ap (λ (e : Entry). is_below directory e.path) (get_or-take i files k d within)
        ∙ not_less (slice_index_or files k d).path (inside directory) (less k d (omega arith) within)
