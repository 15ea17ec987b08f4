-- A directory makes place for its entries.
use Rattle.std.proofs.Common.{ℕ, ◌+◌, ◌≡◌, ◌≢◌, ◌<◌, ◌≤◌, ◌&&◌, ◌||◌, Bool, true, false, cond, not, ltb, List, [], ◌∷◌, ◌++◌, length}
use Rattle.std.proofs.Common.{filter, map, Option, Some, None, inl, inr}
use Rattle.std.proofs.Common.{refl, ◌∙◌, ap, sym, subst, arith}
use Rattle.std.specs.Prelude.{codes, bytes_eq, nat_eq}
use Rattle.std.specs.List.{AllByRecursion, list_all, list_any, starts_with, position_or_len}
use Rattle.std.proofs.lemmas.Bool.{and_parts, and_from, false_from_ne_true}
use Rattle.std.proofs.lemmas.Bool.Decides.{nat_tests}
use Rattle.std.proofs.lemmas.List.{length-append}
use Rattle.std.proofs.lemmas.Slice.Eq.{bytes_eq-Decides}
use Rattle.adb_sync.specs.declared.answer.Dirent.{Dirent}
use Rattle.adb_files.specs.Entries.{Entry}
use Rattle.adb_files.specs.declared.stat.Stat.{Stat}
use Rattle.adb_files.specs.Files.{IsFileMap, file_at, is_directory}
use Rattle.adb_files.specs.Listing.{dirent_of, listing, name_below, part_at, rest_below, shown_in, slash_in, stat_at}
use Rattle.adb_files.specs.Paths.{is_path, is_name, is_below, inside, parts_of}
use Rattle.adb_files.proofs.Lookups.{same_by_test, apart_by_test}
use Rattle.adb_copy.specs.declared.found.Found.{Found}
use Rattle.adb_copy.specs.Pulling.{directories}
use Rattle.adb_copy.specs.Waiting.{IsThere, Walks, found_in, owed, reaches, waits}
use Rattle.adb_copy.proofs.PullCounts.{all_among, all_append, all_fail, all_from_among, all_front, any_from_among, file_among}
use Rattle.adb_copy.proofs.PullCounts.{none_from_among, one, same_filter, split_count}
use Rattle.adb_copy.proofs.PullDirectories.{IsRootOrHasFile, directories_have_files, directory_counted, directory_form, path_starts}
use Rattle.adb_copy.proofs.PullListing.{IsAmong, IsShownBy, Shown, has_name, shown_alone, shown_once, shown_there}
use Rattle.adb_copy.proofs.PullPaths.{HasNoSlash, eq_front, first_clean, first_is, first_of, in_parts, is_deeper, is_slash, reaches_child}
use Rattle.adb_copy.proofs.PullPaths.{reaches_no_child, reaches_up, starts_long}
use Rattle.adb_copy.proofs.PullSteps.{first_part, form_of, forms, here_gone, name_some, one_part, others_wait_not, parts_below, plain_of}
use Rattle.adb_copy.proofs.PullSteps.{plains, reaches_same, times, times_append, wait_before, waits_append}

or_false : (t : Bool) → (t || false) ≡ t
or_false true = refl
or_false false = refl

or_right : (a b : Bool) → b ≡ true → (a || b) ≡ true
or_right true b h = refl
or_right false b h = h

-- ---- lists of entries
module _ {X Y : Type 0} (t : Y → Bool) (f : X → Y) where
  count_map : (xs : List X) → length (filter t (map f xs)) ≡ length (filter (λ x. t (f x)) xs)
  count_map [] = refl
  count_map (x ∷ xs) = go (t (f x)) (count_map xs)
    where
      go : (b : Bool) → length (filter t (map f xs)) ≡ length (filter (λ x. t (f x)) xs)
          → length (cond b (f x ∷ filter t (map f xs)) (filter t (map f xs)))
          ≡ length (cond b (x ∷ filter (λ x. t (f x)) xs) (filter (λ x. t (f x)) xs))
      go true more = omega (arith, more)
      go false more = more

  any_map : (xs : List X) → list_any t (map f xs) ≡ list_any (λ x. t (f x)) xs
  any_map [] = refl
  any_map (x ∷ xs) = ap (λ (b : Bool). t (f x) || b) (any_map xs)

same_any : {X : Type 0} (t u : X → Bool) (xs : List X) → AllByRecursion (λ x. t x ≡ u x) xs → list_any t xs ≡ list_any u xs
same_any t u [] all = refl
same_any t u (x ∷ xs) all =
    ap (λ (b : Bool). b || list_any t xs) all.0 ∙ ap (λ (b : Bool). u x || b) (same_any t u xs all.1)

all_map : {X Y : Type 0} (P : Y → Type 0) (f : X → Y) (xs : List X) → AllByRecursion (λ x. P (f x)) xs → AllByRecursion P (map f xs)
all_map P f [] all = tt
all_map P f (x ∷ xs) all = (all.0, all_map P f xs all.1)

-- ---- a name in a directory
pub record IsNameIn (name : List ℕ) : Type 0 where
  pub clean : HasNoSlash name
  pub form : is_name name ≡ true
  pub some : 0 < length name

without_slash : (rest : List ℕ) → HasNoSlash rest → slash_in rest ≡ None
without_slash rest clean =
    ap (λ (t : Bool). cond t (Some (position_or_len is_slash rest)) None)
    (past (position_or_len is_slash rest) (length rest) (all rest clean))
  where
    all : (rest : List ℕ) → HasNoSlash rest → position_or_len is_slash rest ≡ length rest
    all [] clean = refl
    all (b ∷ rest) clean =
        let more = all rest clean.1 in
        ap (λ (t : Bool). cond (not t) (1 + position_or_len is_slash rest) 0) clean.0 ∙ omega (arith, more)

    past : (n m : ℕ) → n ≡ m → ltb n m ≡ false
    past n m h = grind (arith, nat_tests)

module _ (files : List Entry) (ok : IsFileMap files) (directory : List ℕ) (there : is_directory files directory ≡ true) where
  form : is_path directory ≡ true
  form = directory_form files directory there

  abbrev pub shown : List Shown
  shown = shown_in directory files

  apart_from : (e : Entry) → IsAmong e files → directory ≢ e.path
  apart_from e among same =
      let plain = all_among (λ (x : Entry). is_directory files x.path ≡ false) e files (plains files ok) among in
      let clash = sym there ∙ (ap (is_directory files) same ∙ plain) in cc

  names_of : (root starts names : Bool) → root ≡ false → (root || (starts && names)) ≡ true → names ≡ true
  names_of true starts names plain h = absurd (cc)
  names_of false true names plain h = h
  names_of false false names plain h = absurd (cc)

  -- what a file shows there is a name
  pub name_in : (e : Entry) → IsAmong e files → is_below directory e.path ≡ true → IsNameIn (name_below directory e.path)
  name_in e among below =
      let rest = rest_below directory e.path in
      let is : e.path ≡ inside directory ++ rest = in_parts e.path (inside directory) below in
      let names : list_all is_name (parts_of e.path) ≡ true =
      names_of (bytes_eq e.path (codes "/")) (starts_with nat_eq e.path (codes "/"))
      (list_all is_name (parts_of e.path)) (plain_of files ok e among).plain
      (form_of files ok e among) in
      let here = (parts_below directory rest form).1 (sym (ap (λ (p : List ℕ). list_all is_name (parts_of p)) is) ∙ names) in
      let p = first_part rest in
      let good : is_name (first_of rest) ≡ true =
      (and_parts (is_name (first_of rest)) (list_all is_name p.others) (sym (ap (list_all is_name) p.is) ∙ here)).0 in
      subst IsNameIn (sym (first_is rest)) (record { clean = first_clean rest; form = good; some = name_some (first_of rest) good })

  pub names_in : AllByRecursion (λ (s : Shown). IsNameIn s.0) shown
  names_in = all_from_among (λ (s : Shown). IsNameIn s.0) shown
      (λ s here. let h = all_among (IsShownBy directory files) s shown (shown_alone directory files) here in
      subst IsNameIn (sym h.name) (name_in h.entry h.among h.below))

  -- ---- its entries
  abbrev pub entries : List Found
  entries = map (found_in directory) (map dirent_of shown)

  abbrev pub reach_by : List ℕ → Shown → Bool
  reach_by path s = reaches (inside directory ++ s.0) path

  times_is : (path : List ℕ) → times entries path ≡ length (filter (reach_by path) shown)
  times_is path =
      count_map (λ (f : Found). reaches f.path path) (found_in directory) (map dirent_of shown)
      ∙ count_map (λ (d : Dirent). reaches (inside directory ++ d.name) path) dirent_of shown

  waits_is : (path : List ℕ) → waits entries path ≡ list_any (reach_by path) shown
  waits_is path =
      any_map (λ (f : Found). reaches f.path path) (found_in directory) (map dirent_of shown)
      ∙ any_map (λ (d : Dirent). reaches (inside directory ++ d.name) path) dirent_of shown

  by_name : (path : List ℕ) → is_below directory path ≡ true
      → AllByRecursion (λ (s : Shown). reach_by path s ≡ has_name (name_below directory path) s) shown
  by_name path below = all_from_among (λ (s : Shown). reach_by path s ≡ has_name (name_below directory path) s) shown
      (λ s here. let h = all_among (λ (x : Shown). IsNameIn x.0) s shown names_in here
      in reaches_child directory s.0 path h.clean h.some below)

  by_none : (path : List ℕ) → is_below directory path ≡ false → AllByRecursion (λ (s : Shown). reach_by path s ≡ false) shown
  by_none path below = all_from_among (λ (s : Shown). reach_by path s ≡ false) shown (λ s here. reaches_no_child directory s.0 path below)

  -- what its entries reach lies below it, and one of them reaches it
  times_below : (path : List ℕ) → times entries path ≤ one (is_below directory path)
  times_below path = go (is_below directory path) refl
    where
      go : (t : Bool) → is_below directory path ≡ t → times entries path ≤ one t
      go true below =
          let few = shown_once directory (name_below directory path) files in
          omega (
            arith,
            few,
            times_is path,
            ap (λ (ss : List Shown). length ss)
                (same_filter (reach_by path) (has_name (name_below directory path)) shown (by_name path below)),
          )
      go false below = omega (arith, times_is path, all_fail (reach_by path) shown (by_none path below))

  none_up : waits entries directory ≡ false
  none_up = waits_is directory ∙ none_from_among (reach_by directory) shown
      (λ s here. let h = all_among (λ (x : Shown). IsNameIn x.0) s shown names_in here in reaches_up directory s.0 h.some)

  named_there : (path : List ℕ) (e : Entry) → IsAmong e files → is_below directory path ≡ true → is_below directory e.path ≡ true
      → name_below directory e.path ≡ name_below directory path → waits entries path ≡ true
  named_there path e among below here same =
      waits_is path
      ∙ (same_any (reach_by path) (has_name (name_below directory path)) shown (by_name path below)
      ∙ (ap (λ (n : List ℕ). list_any (has_name n) shown) (sym same) ∙ shown_there directory e files among here))

  -- what lies below it waits as it did
  alike_by : (path : List ℕ) → directory ≢ path → (is_below directory path ≡ true → waits entries path ≡ true)
      → waits entries path ≡ reaches directory path
  alike_by path apart here =
      go (is_below directory path) refl ∙ sym (ap (λ (t : Bool). t || is_below directory path) (apart_by_test directory path apart))
    where
      go : (t : Bool) → is_below directory path ≡ t → waits entries path ≡ t
      go true below = here below
      go false below = waits_is path ∙ none_from_among (reach_by path) shown (λ s among. reaches_no_child directory s.0 path below)

  pub file_alike : (e : Entry) → IsAmong e files → waits entries e.path ≡ reaches directory e.path
  file_alike e among = alike_by e.path (apart_from e among) (λ below. named_there e.path e among below below refl)

  root_below : bytes_eq directory (codes "/") ≡ false → is_below directory (codes "/") ≡ true → ⊥
  root_below plain below =
      let fits = starts_long (codes "/") (inside directory) below in
      let whole : inside directory ≡ directory ++ codes "/" = ap (λ (t : Bool). directory ++ cond t (codes "") (codes "/")) plain in
      let some = ap (λ (bs : List ℕ). length bs) (path_starts directory form) in
      absurd (omega (arith, fits, ap (λ (bs : List ℕ). length bs) whole, length-append directory (codes "/"), some))

  root_alike : directory ≢ codes "/" → waits entries (codes "/") ≡ reaches directory (codes "/")
  root_alike apart = alike_by (codes "/") apart (λ below. absurd (root_below (apart_by_test directory (codes "/") apart) below))

  pub directory_alike : (path : List ℕ) → directory ≢ path → IsRootOrHasFile files path → waits entries path ≡ reaches directory path
  directory_alike path apart (inl is) =
      ap (waits entries) is ∙ (root_alike (λ e. apart (e ∙ sym is)) ∙ ap (reaches directory) (sym is))
  directory_alike path apart (inr has) = go (bytes_eq path (codes "/")) refl
    where
      go : (t : Bool) → bytes_eq path (codes "/") ≡ t → waits entries path ≡ reaches directory path
      go true same =
          let is = (bytes_eq-Decides path (codes "/")).0 same in
          ap (waits entries) is ∙ (root_alike (λ e. apart (e ∙ sym is)) ∙ ap (reaches directory) (sym is))
      go false plain = alike_by path apart (λ below. let d = is_deeper directory path has.entry.path plain below has.below in
          named_there path has.entry has.among below d.below d.name)

  -- ---- each is there
  child_form : (name : List ℕ) → IsNameIn name → is_path (inside directory ++ name) ≡ true
  child_form name n =
      let q = inside directory ++ name in
      let starts : starts_with nat_eq q (codes "/") ≡ true =
      ap (λ (d : List ℕ). starts_with nat_eq ((d ++ cond (bytes_eq directory (codes "/")) (codes "") (codes "/")) ++ name) (codes "/"))
      (path_starts directory form) in
      let names = (parts_below directory name form).0 (one_part name n.clean ∙ n.form) in
      or_right (bytes_eq q (codes "/")) (starts_with nat_eq q (codes "/") && list_all is_name (parts_of q))
      (and_from (starts_with nat_eq q (codes "/")) (list_all is_name (parts_of q)) starts names)

  or_other : (a b : Bool) → (a || b) ≡ true → a ≡ false → b ≡ true
  or_other true b h none = absurd (cc)
  or_other false b h none = h

  known_one : (s : Shown) → IsShownBy directory files s → IsThere files (found_in directory (dirent_of s))
  known_one s h = go (slash_in rest) refl
    where
      e : Entry
      e = h.entry

      rest : List ℕ
      rest = rest_below directory e.path

      is : e.path ≡ inside directory ++ rest
      is = in_parts e.path (inside directory) h.below

      n : IsNameIn s.0
      n = subst IsNameIn (sym h.name) (name_in e h.among h.below)

      go : (slash : Option ℕ) → slash_in rest ≡ slash → IsThere files (found_in directory (dirent_of s))
      go None none =
          let name : s.0 ≡ rest = h.name ∙ ap (λ (o : Option ℕ). part_at o rest) none in
          let stat = h.stat ∙ ap (λ (o : Option ℕ). stat_at o e.file) none in
          let path : e.path ≡ inside directory ++ s.0 = is ∙ ap (λ (r : List ℕ). inside directory ++ r) (sym name) in
          inr (record {
            file = e.file;
            there = ap (λ (p : List ℕ). file_at p files) (sym path) ∙ file_among e files ok.rising h.among;
            mode = ap (λ (st : Stat). st.mode) stat;
            mtime = ap (λ (st : Stat). st.mtime) stat;
          })
      go (Some i) some =
          let stat = h.stat ∙ ap (λ (o : Option ℕ). stat_at o e.file) some in
          let q = inside directory ++ s.0 in
          let reached : reaches q e.path ≡ true =
          reaches_child directory s.0 e.path n.clean n.some h.below ∙ same_by_test s.0 (name_below directory e.path) h.name in
          let apart : bytes_eq q e.path ≡ false = false_from_ne_true (bytes_eq q e.path) (λ t. let same = (bytes_eq-Decides s.0 rest).0
          (sym (eq_front (inside directory) s.0 rest) ∙ (ap (bytes_eq q) (sym is) ∙ t)) in
          let none = without_slash rest (subst HasNoSlash same n.clean) in let clash = sym some ∙ none in cc) in
          let below : is_below q e.path ≡ true = or_other (bytes_eq q e.path) (is_below q e.path) reached apart in
          inl (record {
            there = and_from (is_path q) (bytes_eq q (codes "/") || list_any (λ (x : Entry). is_below q x.path) files) (child_form s.0 n)
                (or_right (bytes_eq q (codes "/")) (list_any (λ (x : Entry). is_below q x.path) files)
                (any_from_among (λ (x : Entry). is_below q x.path) e files h.among below));
            mode = ap (λ (st : Stat). st.mode) stat;
          })

  pub entries_known : AllByRecursion (IsThere files) entries
  entries_known = all_map (IsThere files) (found_in directory) (map dirent_of shown)
      (all_map (λ (d : Dirent). IsThere files (found_in directory d)) dirent_of shown
      (all_from_among (λ (s : Shown). IsThere files (found_in directory (dirent_of s))) shown
      (λ s here. known_one s (all_among (IsShownBy directory files) s shown (shown_alone directory files) here))))

-- ---- the step
module _ (files : List Entry) (ok : IsFileMap files) (pending : List Found) (found : Found) (tree : List Entry)
    (w : Walks files (pending ++ found ∷ []) tree) (is : is_directory files found.path ≡ true) where
  abbrev pub within : List Found
  within = entries files ok found.path is

  wait_behind : (path : List ℕ) → waits (pending ++ within) path ≡ (waits pending path || waits within path)
  wait_behind path = waits_append pending within path

  files_alike : AllByRecursion (λ (e : Entry). waits (pending ++ within) e.path ≡ waits (pending ++ found ∷ []) e.path) files
  files_alike = all_from_among (λ (e : Entry). waits (pending ++ within) e.path ≡ waits (pending ++ found ∷ []) e.path) files
      (λ e among. wait_behind e.path
      ∙ (ap (λ (t : Bool). waits pending e.path || t) (file_alike files ok found.path is e among)
      ∙ sym (wait_before files pending found tree w e.path)))

  not_alike : AllByRecursion (λ (e : Entry). not (waits (pending ++ found ∷ []) e.path) ≡ not (waits (pending ++ within) e.path)) files
  not_alike = all_from_among (λ (e : Entry). not (waits (pending ++ found ∷ []) e.path) ≡ not (waits (pending ++ within) e.path)) files
      (λ e among. ap not
      (sym (all_among (λ (x : Entry). waits (pending ++ within) x.path ≡ waits (pending ++ found ∷ []) x.path) e
      files files_alike among)))

  once_still : (path : List ℕ) → times (pending ++ within) path ≤ 1
  once_still path = go (is_below found.path path) refl
    where
      go : (t : Bool) → is_below found.path path ≡ t → times (pending ++ within) path ≤ 1
      go true below =
          let none = others_wait_not files pending found tree w path
          (or_right (bytes_eq found.path path) (is_below found.path path) below) in
          let few = times_below files ok found.path is path in
          omega (arith, none, few, ap one below, times_append pending within path)
      go false below =
          let once = w.once path in
          let few = times_below files ok found.path is path in
          omega (arith, once, few, ap one below, times_append pending within path, times_append pending (found ∷ []) path)

  pub directory_walks : Walks files (pending ++ within) tree
  directory_walks = record {
    known = all_append (IsThere files) pending within (all_front (IsThere files) pending (found ∷ []) w.known)
        (entries_known files ok found.path is);
    once = once_still;
    tree = w.tree
        ∙ same_filter (λ (e : Entry). not (waits (pending ++ found ∷ []) e.path))
        (λ (e : Entry). not (waits (pending ++ within) e.path)) files not_alike;
  }

  counted_one : (d : List ℕ) → IsRootOrHasFile files d
      → one (waits (pending ++ found ∷ []) d) ≡ one (waits (pending ++ within) d) + one (bytes_eq found.path d)
  counted_one d has = go (bytes_eq found.path d) refl
    where
      go : (t : Bool) → bytes_eq found.path d ≡ t → one (waits (pending ++ found ∷ []) d) ≡ one (waits (pending ++ within) d) + one t
      go true equal =
          let same = (bytes_eq-Decides found.path d).0 equal in
          let gone : waits pending d ≡ false = ap (waits pending) (sym same) ∙ here_gone files pending found tree w in
          let before : waits (pending ++ found ∷ []) d ≡ true = wait_before files pending found tree w d
          ∙ (ap (λ (t : Bool). waits pending d || t) (ap (reaches found.path) (sym same) ∙ reaches_same found.path)
          ∙ or_right (waits pending d) true refl) in
          let after : waits (pending ++ within) d ≡ false = wait_behind d
          ∙ (ap (λ (t : Bool). t || waits within d) gone ∙ (ap (waits within) (sym same) ∙ none_up files ok found.path is)) in
          omega (arith, ap one before, ap one after)
      go false other =
          let apart : found.path ≢ d = λ same. let clash = sym other ∙ same_by_test found.path d same in cc in
          let alike : waits (pending ++ within) d ≡ waits (pending ++ found ∷ []) d = wait_behind d
          ∙ (ap (λ (t : Bool). waits pending d || t) (directory_alike files ok found.path is d apart has)
          ∙ sym (wait_before files pending found tree w d)) in
          omega (arith, ap one alike)

  pub directory_owed : owed files (pending ++ found ∷ []) ≡ owed files (pending ++ within) + 1
  directory_owed =
      let places = directories files in
      let alike = same_filter (λ (e : Entry). waits (pending ++ within) e.path)
      (λ (e : Entry). waits (pending ++ found ∷ []) e.path) files files_alike in
      let count = split_count (waits (pending ++ found ∷ [])) (waits (pending ++ within)) (bytes_eq found.path) places
      (all_from_among
      (λ (d : List ℕ). one (waits (pending ++ found ∷ []) d)
      ≡ one (waits (pending ++ within) d) + one (bytes_eq found.path d)) places
      (λ d here. counted_one d (all_among (IsRootOrHasFile files) d places (directories_have_files files (forms files ok)) here))) in
      let once = directory_counted files found.path is in
      omega (arith, count, once, ap (λ (es : List Entry). length es) alike)

  -- what is listed are the entries
  pub listed : map (found_in found.path) (listing found.path files) ≡ within
  listed = ap (λ (t : Bool). map (found_in found.path) (cond t (map dirent_of (shown_in found.path files)) []))
      (directory_form files found.path is)
