-- A walk goes on: a directory makes place for its entries, and a file comes into the tree.
use Rattle.std.proofs.Common.{ℕ, ◌+◌, ◌≡◌, ◌<◌, ◌&&◌, ◌||◌, Bool, true, false, cond, List, [], ◌∷◌, ◌++◌, length, drop, filter, inl, inr}
use Rattle.std.proofs.Common.{refl, ◌∙◌, ap, sym, append_assoc, arith}
use Rattle.std.specs.Prelude.{codes, bytes_eq, nat_eq}
use Rattle.std.specs.List.{AllByRecursion, list_all, list_any, starts_with, slice_split, onto_first}
use Rattle.std.proofs.lemmas.Bool.{and_parts, and_from}
use Rattle.std.proofs.lemmas.List.{length-append}
use Rattle.std.proofs.lemmas.List.Elements.{filter-append, recursion_from_All}
use Rattle.std.proofs.lemmas.List.Folds.{list_all-append, list_any-append}
use Rattle.std.proofs.lemmas.Slice.Eq.{bytes_eq-Decides}
use Rattle.adb_files.specs.Entries.{Entry}
use Rattle.adb_files.specs.Files.{IsFileMap, is_directory}
use Rattle.adb_files.specs.Paths.{is_path, is_name, is_below, inside, parts_of}
use Rattle.adb_files.proofs.Lookups.{same_by_test}
use Rattle.adb_copy.specs.declared.found.Found.{Found}
use Rattle.adb_copy.specs.Waiting.{Walks, reaches, waits}
use Rattle.adb_copy.proofs.PullCounts.{all_among, any_among, none_counted, one}
use Rattle.adb_copy.proofs.PullDirectories.{IsRootOrHasFile, path_starts}
use Rattle.adb_copy.proofs.PullListing.{IsAmong}
use Rattle.adb_copy.proofs.PullPaths.{HasNoSlash, first_of, is_deeper, is_slash, starts_long}

-- ---- names
slash_cut : (xs ys : List ℕ) → list_all is_name (slice_split is_slash (xs ++ 47 ∷ ys))
    ≡ (list_all is_name (slice_split is_slash xs) && list_all is_name (slice_split is_slash ys))
slash_cut xs ys = ap (list_all is_name) (cut xs ys) ∙ list_all-append is_name (slice_split is_slash xs) (slice_split is_slash ys)
  where
    some : (xs : List ℕ) (b : ℕ) (qs : List (List ℕ)) → onto_first b (slice_split is_slash xs ++ qs)
        ≡ onto_first b (slice_split is_slash xs) ++ qs
    some [] b qs = refl
    some (x ∷ xs) b qs = go (is_slash x) (some xs x qs)
      where
        go : (t : Bool) → onto_first x (slice_split is_slash xs ++ qs) ≡ onto_first x (slice_split is_slash xs) ++ qs
            → onto_first b (cond t ([] ∷ slice_split is_slash xs) (onto_first x (slice_split is_slash xs)) ++ qs)
            ≡ onto_first b (cond t ([] ∷ slice_split is_slash xs) (onto_first x (slice_split is_slash xs))) ++ qs
        go true more = refl
        go false more = by (slice_split is_slash xs)
          where
            by : (ps : List (List ℕ)) → onto_first b (onto_first x ps ++ qs) ≡ onto_first b (onto_first x ps) ++ qs
            by [] = refl
            by (p ∷ ps) = refl

    cut : (xs ys : List ℕ) → slice_split is_slash (xs ++ 47 ∷ ys) ≡ slice_split is_slash xs ++ slice_split is_slash ys
    cut [] ys = refl
    cut (x ∷ xs) ys = go (is_slash x) (cut xs ys)
      where
        go : (t : Bool) → slice_split is_slash (xs ++ 47 ∷ ys) ≡ slice_split is_slash xs ++ slice_split is_slash ys
            → cond t ([] ∷ slice_split is_slash (xs ++ 47 ∷ ys)) (onto_first x (slice_split is_slash (xs ++ 47 ∷ ys)))
            ≡ cond t ([] ∷ slice_split is_slash xs) (onto_first x (slice_split is_slash xs)) ++ slice_split is_slash ys
        go true more = ap (λ (ps : List (List ℕ)). [] ∷ ps) more
        go false more = ap (onto_first x) more ∙ some xs x (slice_split is_slash ys)

-- what stands before the first slash is the first part
pub record IsFirstPart (bytes : List ℕ) : Type 0 where
  pub others : List (List ℕ)
  pub is : slice_split is_slash bytes ≡ first_of bytes ∷ others

pub first_part : (bytes : List ℕ) → IsFirstPart bytes
first_part [] = record { others = []; is = refl }
first_part (b ∷ bytes) = go (is_slash b) (first_part bytes) refl
  where
    go : (t : Bool) → IsFirstPart bytes → is_slash b ≡ t → IsFirstPart (b ∷ bytes)
    go true p is = record {
      others = slice_split is_slash bytes;
      is = ap (λ (t : Bool). cond t ([] ∷ slice_split is_slash bytes) (onto_first b (slice_split is_slash bytes))) is
          ∙ sym (ap (λ (t : Bool). cond t [] (b ∷ first_of bytes) ∷ slice_split is_slash bytes) is);
    }
    go false p is = record {
      others = p.others;
      is = ap (λ (t : Bool). cond t ([] ∷ slice_split is_slash bytes) (onto_first b (slice_split is_slash bytes))) is
          ∙ (ap (onto_first b) p.is
          ∙ sym (ap (λ (t : Bool). cond t [] (b ∷ first_of bytes) ∷ p.others) is));
    }

pub one_part : (name : List ℕ) → HasNoSlash name → list_all is_name (slice_split is_slash name) ≡ is_name name
one_part name clean = ap (list_all is_name) (alone name clean) ∙ and_true (is_name name)
  where
    and_true : (t : Bool) → (t && true) ≡ t
    and_true true = refl
    and_true false = refl

    alone : (name : List ℕ) → HasNoSlash name → slice_split is_slash name ≡ name ∷ []
    alone [] clean = refl
    alone (b ∷ name) clean =
        ap (λ (t : Bool). cond t ([] ∷ slice_split is_slash name) (onto_first b (slice_split is_slash name))) clean.0
        ∙ ap (onto_first b) (alone name clean.1)

-- the parts of a path below a directory
pub parts_below : (directory rest : List ℕ) → is_path directory ≡ true
    → (list_all is_name (slice_split is_slash rest) ≡ true → list_all is_name (parts_of (inside directory ++ rest)) ≡ true)
    × (list_all is_name (parts_of (inside directory ++ rest)) ≡ true → list_all is_name (slice_split is_slash rest) ≡ true)
parts_below directory rest form = go (bytes_eq directory (codes "/")) refl
  where
    tail : List ℕ
    tail = drop 1 directory

    starts : directory ≡ 47 ∷ tail
    starts = path_starts directory form

    names : bytes_eq directory (codes "/") ≡ false → list_all is_name (slice_split is_slash tail) ≡ true
    names plain = (and_parts (starts_with nat_eq directory (codes "/")) (list_all is_name (parts_of directory))
        (sym (ap (λ (t : Bool). t || (starts_with nat_eq directory (codes "/") && list_all is_name (parts_of directory))) plain) ∙ form)).1

    go : (t : Bool) → bytes_eq directory (codes "/") ≡ t
        → (list_all is_name (slice_split is_slash rest) ≡ true → list_all is_name (parts_of (inside directory ++ rest)) ≡ true)
        × (list_all is_name (parts_of (inside directory ++ rest)) ≡ true → list_all is_name (slice_split is_slash rest) ≡ true)
    go true is =
        let same = (bytes_eq-Decides directory (codes "/")).0 is in
        let whole : parts_of (inside directory ++ rest) ≡ slice_split is_slash rest =
        ap (λ (d : List ℕ). parts_of (inside d ++ rest)) same in
        (λ h. ap (list_all is_name) whole ∙ h, λ h. sym (ap (list_all is_name) whole) ∙ h)
    go false is =
        let front : inside directory ++ rest ≡ 47 ∷ (tail ++ 47 ∷ rest) =
        ap (λ (t : Bool). (directory ++ cond t (codes "") (codes "/")) ++ rest) is
        ∙ (append_assoc directory (codes "/") rest ∙ ap (λ (d : List ℕ). d ++ 47 ∷ rest) starts) in
        let whole : list_all is_name (parts_of (inside directory ++ rest))
        ≡ (list_all is_name (slice_split is_slash tail) && list_all is_name (slice_split is_slash rest)) =
        ap (λ (p : List ℕ). list_all is_name (parts_of p)) front ∙ slash_cut tail rest in (
          λ h. whole ∙ and_from (list_all is_name (slice_split is_slash tail)) (list_all is_name (slice_split is_slash rest)) (names is) h,
          λ h. (and_parts (list_all is_name (slice_split is_slash tail)) (list_all is_name (slice_split is_slash rest)) (sym whole ∙ h)).1,
        )

pub name_some : (name : List ℕ) → is_name name ≡ true → 0 < length name
name_some [] h = absurd (cc)
name_some (b ∷ name) h = omega arith

-- ---- files of a map
module _ (files : List Entry) (ok : IsFileMap files) where
  pub forms : AllByRecursion (λ (e : Entry). is_path e.path ≡ true) files
  forms = recursion_from_All (λ (e : Entry). is_path e.path ≡ true) files ok.paths

  pub plains : AllByRecursion (λ (e : Entry). is_directory files e.path ≡ false) files
  plains = recursion_from_All (λ (e : Entry). is_directory files e.path ≡ false) files ok.plain

  pub form_of : (e : Entry) → IsAmong e files → is_path e.path ≡ true
  form_of e among = all_among (λ (x : Entry). is_path x.path ≡ true) e files forms among

  -- what is no directory is not the root, and nothing lies below it
  pub record IsPlain (path : List ℕ) : Type 0 where
    pub plain : bytes_eq path (codes "/") ≡ false
    pub none : list_any (λ (x : Entry). is_below path x.path) files ≡ false

  plain_parts : (form root any : Bool) → form ≡ true → (form && (root || any)) ≡ false → (root ≡ false) × (any ≡ false)
  plain_parts form true any is h = absurd (cc)
  plain_parts true false any is h = (refl, h)
  plain_parts false false any is h = absurd (cc)

  pub plain_of : (e : Entry) → IsAmong e files → IsPlain e.path
  plain_of e among =
      let h = plain_parts (is_path e.path) (bytes_eq e.path (codes "/")) (list_any (λ (x : Entry). is_below e.path x.path) files)
      (form_of e among) (all_among (λ (x : Entry). is_directory files x.path ≡ false) e files plains among) in
      record { plain = h.0; none = h.1 }

  -- a file's path reaches its own file alone
  pub reaches_itself : (e x : Entry) → IsAmong e files → IsAmong x files → reaches e.path x.path ≡ bytes_eq e.path x.path
  reaches_itself e x among other =
      ap (λ (t : Bool). bytes_eq e.path x.path || t)
      (any_among (λ (y : Entry). is_below e.path y.path) x files (plain_of e among).none other)
      ∙ or_false (bytes_eq e.path x.path)
    where
      or_false : (t : Bool) → (t || false) ≡ t
      or_false true = refl
      or_false false = refl

  below_root : (e : Entry) → IsAmong e files → is_below e.path (codes "/") ≡ true → ⊥
  below_root e among below =
      let fits = starts_long (codes "/") (inside e.path) below in
      let whole : inside e.path ≡ e.path ++ codes "/" = ap (λ (t : Bool). e.path ++ cond t (codes "") (codes "/"))
      (plain_of e among).plain in
      let some = ap (λ (bs : List ℕ). length bs) (path_starts e.path (form_of e among)) in
      absurd (omega (arith, fits, ap (λ (bs : List ℕ). length bs) whole, length-append e.path (codes "/"), some))

  below_itself : (e : Entry) (d : List ℕ) → IsAmong e files → is_below e.path d ≡ true → IsRootOrHasFile files d → ⊥
  below_itself e d among below (inl is) = below_root e among (ap (is_below e.path) (sym is) ∙ below)
  below_itself e d among below (inr has) = go (bytes_eq d (codes "/")) refl
    where
      go : (t : Bool) → bytes_eq d (codes "/") ≡ t → ⊥
      go true is = below_root e among (ap (is_below e.path) (sym ((bytes_eq-Decides d (codes "/")).0 is)) ∙ below)
      go false is =
          let deeper = is_deeper e.path d has.entry.path is below has.below in
          let none = any_among (λ (y : Entry). is_below e.path y.path) has.entry files (plain_of e among).none has.among in
          let clash = sym none ∙ deeper.below in cc

  -- and no directory
  pub reaches_no_directory : (e : Entry) (d : List ℕ) → IsAmong e files → IsRootOrHasFile files d → reaches e.path d ≡ false
  reaches_no_directory e d among has = go (bytes_eq e.path d) refl (is_below e.path d) refl
    where
      apart : IsRootOrHasFile files d → e.path ≡ d → ⊥
      apart (inl is) same =
          let here : bytes_eq e.path (codes "/") ≡ true = same_by_test e.path (codes "/") (same ∙ is) in
          let clash = sym (plain_of e among).plain ∙ here in cc
      apart (inr h) same =
          let none = any_among (λ (y : Entry). is_below e.path y.path) h.entry files (plain_of e among).none h.among in
          let clash = sym none ∙ (ap (λ (p : List ℕ). is_below p h.entry.path) same ∙ h.below) in cc

      go : (t : Bool) → bytes_eq e.path d ≡ t → (s : Bool) → is_below e.path d ≡ s → (t || s) ≡ false
      go true is s below = absurd (apart has ((bytes_eq-Decides e.path d).0 is))
      go false is true below = absurd (below_itself e d among below has)
      go false is false below = refl

-- ---- what waits
pub waits_append : (xs ys : List Found) (path : List ℕ) → waits (xs ++ ys) path ≡ (waits xs path || waits ys path)
waits_append xs ys path = list_any-append (λ (f : Found). reaches f.path path) xs ys

abbrev pub times : List Found → List ℕ → ℕ
times pending path = length (filter (λ (f : Found). reaches f.path path) pending)

pub times_append : (xs ys : List Found) (path : List ℕ) → times (xs ++ ys) path ≡ times xs path + times ys path
times_append xs ys path =
    ap (λ (fs : List Found). length fs) (filter-append (λ (f : Found). reaches f.path path) xs ys)
    ∙ length-append (filter (λ (f : Found). reaches f.path path) xs) (filter (λ (f : Found). reaches f.path path) ys)

pub waits_one : (f : Found) (path : List ℕ) → waits (f ∷ []) path ≡ reaches f.path path
waits_one f path = or_false (reaches f.path path)
  where
    or_false : (t : Bool) → (t || false) ≡ t
    or_false true = refl
    or_false false = refl

pub times_one : (f : Found) (path : List ℕ) → times (f ∷ []) path ≡ one (reaches f.path path)
times_one f path = go (reaches f.path path)
  where
    go : (t : Bool) → length (cond t (f ∷ []) []) ≡ cond t 1 0
    go true = refl
    go false = refl

-- a path is itself
pub reaches_same : (path : List ℕ) → reaches path path ≡ true
reaches_same path = ap (λ (t : Bool). t || is_below path path) (same_by_test path path refl)

-- of what waits once, and what is taken away, nothing else waits
module _ (files : List Entry) (pending : List Found) (found : Found) (tree : List Entry)
    (w : Walks files (pending ++ found ∷ []) tree) where
  pub others_wait_not : (path : List ℕ) → reaches found.path path ≡ true → times pending path ≡ 0
  others_wait_not path is =
      let once = w.once path in
      omega (arith, once, times_append pending (found ∷ []) path, times_one found path, ap (λ (t : Bool). one t) is)

  pub here_gone : waits pending found.path ≡ false
  here_gone = none_counted (λ (f : Found). reaches f.path found.path) pending (others_wait_not found.path (reaches_same found.path))

  pub wait_before : (path : List ℕ) → waits (pending ++ found ∷ []) path ≡ (waits pending path || reaches found.path path)
  wait_before path = waits_append pending (found ∷ []) path ∙ ap (λ (t : Bool). waits pending path || t) (waits_one found path)
