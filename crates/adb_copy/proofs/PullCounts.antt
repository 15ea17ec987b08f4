-- Filters of files and of paths, and how many they leave.
use Rattle.std.proofs.Common.{ℕ, ◌+◌, ◌≡◌, ◌≢◌, ◌≤◌, ◌||◌, Bool, true, false, cond, List, [], ◌∷◌, ◌++◌, length, filter, map, Some, inl}
use Rattle.std.proofs.Common.{inr}
use Rattle.std.proofs.Common.{refl, ◌∙◌, ap, sym, subst, arith}
use Rattle.std.specs.Prelude.{bytes_eq, option_map}
use Rattle.std.specs.Ordering.{is_lt}
use Rattle.std.specs.declared.cmp.Ordering.TheVariants.{Less, Greater}
use Rattle.std.specs.List.{AllByRecursion, find, list_any}
use Rattle.std.specs.List.Sorted.{IsStrictlySortedBy}
use Rattle.std.proofs.lemmas.List.Sums.{sum_by-cons}
use Rattle.std.proofs.lemmas.Slice.Eq.{bytes_eq-Decides}
use Rattle.adb_files.specs.declared.file.File.{File}
use Rattle.adb_files.specs.Entries.{Entry}
use Rattle.adb_files.specs.Files.{IsRising, file_at, total, with_file}
use Rattle.adb_files.specs.Paths.{path_cmp}
use Rattle.adb_files.proofs.Lookups.{same_by_test, apart_by_order}
use Rattle.adb_files.proofs.Order.{greater_back, path_cmp-same}
use Rattle.adb_files.proofs.Rising.{entry_of}
use Rattle.adb_copy.proofs.PullListing.{IsAmong}

abbrev pub one : Bool → ℕ
one b = cond b 1 0

-- ---- any list
module _ {X : Type 0} where
  pub all_among : (P : X → Type 0) (x : X) (xs : List X) → AllByRecursion P xs → IsAmong x xs → P x
  all_among P x [] all among = absurd among
  all_among P x (y ∷ xs) all (inl same) = subst P (sym same) all.0
  all_among P x (y ∷ xs) all (inr among) = all_among P x xs all.1 among

  pub all_from_among : (P : X → Type 0) (xs : List X) → ((x : X) → IsAmong x xs → P x) → AllByRecursion P xs
  all_from_among P [] each = tt
  all_from_among P (x ∷ xs) each = (each x (inl refl), all_from_among P xs (λ y among. each y (inr among)))

  pub all_append : (P : X → Type 0) (xs ys : List X) → AllByRecursion P xs → AllByRecursion P ys → AllByRecursion P (xs ++ ys)
  all_append P [] ys left right = right
  all_append P (x ∷ xs) ys left right = (left.0, all_append P xs ys left.1 right)

  pub all_front : (P : X → Type 0) (xs ys : List X) → AllByRecursion P (xs ++ ys) → AllByRecursion P xs
  all_front P [] ys all = tt
  all_front P (x ∷ xs) ys all = (all.0, all_front P xs ys all.1)

  pub all_back : (P : X → Type 0) (xs ys : List X) → AllByRecursion P (xs ++ ys) → AllByRecursion P ys
  all_back P [] ys all = all
  all_back P (x ∷ xs) ys all = all_back P xs ys all.1

  pub same_filter : (t u : X → Bool) (xs : List X) → AllByRecursion (λ x. t x ≡ u x) xs → filter t xs ≡ filter u xs
  same_filter t u [] all = refl
  same_filter t u (x ∷ xs) all =
      ap (λ (b : Bool). cond b (x ∷ filter t xs) (filter t xs)) all.0
      ∙ ap (λ (ys : List X). cond (u x) (x ∷ ys) ys) (same_filter t u xs all.1)

  counted : (t : X → Bool) (x : X) (xs : List X) → length (filter t (x ∷ xs)) ≡ one (t x) + length (filter t xs)
  counted t x xs = go (t x)
    where
      go : (b : Bool) → length (cond b (x ∷ filter t xs) (filter t xs)) ≡ one b + length (filter t xs)
      go true = omega arith
      go false = omega arith

  -- what passes one test passes one of two others
  pub split_count : (t u v : X → Bool) (xs : List X) → AllByRecursion (λ x. one (t x) ≡ one (u x) + one (v x)) xs
      → length (filter t xs) ≡ length (filter u xs) + length (filter v xs)
  split_count t u v [] all = refl
  split_count t u v (x ∷ xs) all =
      omega (arith, counted t x xs, counted u x xs, counted v x xs, all.0, split_count t u v xs all.1)

  pub none_counted : (t : X → Bool) (xs : List X) → length (filter t xs) ≡ 0 → list_any t xs ≡ false
  none_counted t [] none = refl
  none_counted t (x ∷ xs) none = go (t x) refl (none_counted t xs)
    where
      go : (b : Bool) → t x ≡ b → (length (filter t xs) ≡ 0 → list_any t xs ≡ false) → (b || list_any t xs) ≡ false
      go true is more = let size = ap (λ (b : Bool). one b) is in absurd (omega (arith, none, size, counted t x xs))
      go false is more = let size = ap (λ (b : Bool). one b) is in more (omega (arith, none, size, counted t x xs))

  pub all_fail : (t : X → Bool) (xs : List X) → AllByRecursion (λ x. t x ≡ false) xs → length (filter t xs) ≡ 0
  all_fail t [] all = refl
  all_fail t (x ∷ xs) all = ap (λ (b : Bool). length (cond b (x ∷ filter t xs) (filter t xs))) all.0 ∙ all_fail t xs all.1

  pub all_pass : (t : X → Bool) (xs : List X) → AllByRecursion (λ x. t x ≡ true) xs → filter t xs ≡ xs
  all_pass t [] all = refl
  all_pass t (x ∷ xs) all =
      ap (λ (b : Bool). cond b (x ∷ filter t xs) (filter t xs)) all.0 ∙ ap (λ (ys : List X). x ∷ ys) (all_pass t xs all.1)

  pub none_pass : (t : X → Bool) (xs : List X) → AllByRecursion (λ x. t x ≡ false) xs → filter t xs ≡ []
  none_pass t [] all = refl
  none_pass t (x ∷ xs) all = ap (λ (b : Bool). cond b (x ∷ filter t xs) (filter t xs)) all.0 ∙ none_pass t xs all.1

  pub any_among : (t : X → Bool) (x : X) (xs : List X) → list_any t xs ≡ false → IsAmong x xs → t x ≡ false
  any_among t x [] none among = absurd among
  any_among t x (y ∷ xs) none among = go (t y) refl none among (any_among t x xs)
    where
      go : (b : Bool) → t y ≡ b → (b || list_any t xs) ≡ false → IsAmong x (y ∷ xs)
          → (list_any t xs ≡ false → IsAmong x xs → t x ≡ false) → t x ≡ false
      go true is h among more = absurd (cc)
      go false is h (inl same) more = ap t same ∙ is
      go false is h (inr among) more = more h among

  pub any_from_among : (t : X → Bool) (x : X) (xs : List X) → IsAmong x xs → t x ≡ true → list_any t xs ≡ true
  any_from_among t x [] among pass = absurd among
  any_from_among t x (y ∷ xs) (inl same) pass = ap (λ (b : Bool). b || list_any t xs) (ap t (sym same) ∙ pass)
  any_from_among t x (y ∷ xs) (inr among) pass = go (t y) (any_from_among t x xs among pass)
    where
      go : (b : Bool) → list_any t xs ≡ true → (b || list_any t xs) ≡ true
      go true more = refl
      go false more = more

  pub none_from_among : (t : X → Bool) (xs : List X) → ((x : X) → IsAmong x xs → t x ≡ false) → list_any t xs ≡ false
  none_from_among t [] each = refl
  none_from_among t (x ∷ xs) each =
      ap (λ (b : Bool). b || list_any t xs) (each x (inl refl)) ∙ none_from_among t xs (λ y among. each y (inr among))

  pub among_of_filter : (t : X → Bool) (x : X) (xs : List X) → IsAmong x (filter t xs) → IsAmong x xs
  among_of_filter t x [] among = absurd among
  among_of_filter t x (y ∷ xs) among = go (t y) among (among_of_filter t x xs)
    where
      go : (b : Bool) → IsAmong x (cond b (y ∷ filter t xs) (filter t xs)) → (IsAmong x (filter t xs) → IsAmong x xs) → IsAmong x (y ∷ xs)
      go true (inl same) more = inl same
      go true (inr among) more = inr (more among)
      go false among more = inr (more among)

-- ---- files whose paths rise
abbrev pub AllBehindPath : List ℕ → List Entry → Type 0
AllBehindPath path files = AllByRecursion (λ (e : Entry). path_cmp path e.path ≡ Less) files

keys_behind : (path : List ℕ) (files : List Entry) → AllByRecursion (λ (p : List ℕ). path_cmp path p ≡ Less)
    (map (λ (e : Entry). e.path) files)
    → AllBehindPath path files
keys_behind path [] all = tt
keys_behind path (e ∷ files) all = (all.0, keys_behind path files all.1)

pub rising_parts : (e : Entry) (files : List Entry) → IsRising (e ∷ files) → AllBehindPath e.path files × IsRising files
unfolding IsStrictlySortedBy
rising_parts e files rising = (keys_behind e.path files rising.0, rising.1)

-- what stands in it is found by its path
pub file_among : (entry : Entry) (files : List Entry) → IsRising files → IsAmong entry files → file_at entry.path files ≡ Some entry.file
file_among entry [] rising among = absurd among
file_among entry (e ∷ files) rising (inl same) =
    ap (λ (b : Bool). option_map (λ (x : Entry). x.file) (cond b (Some e) (find (λ (x : Entry). bytes_eq x.path entry.path) files)))
    (same_by_test e.path entry.path (ap (λ (x : Entry). x.path) (sym same)))
    ∙ ap (λ (x : Entry). Some x.file) (sym same)
file_among entry (e ∷ files) rising (inr among) =
    let parts = rising_parts e files rising in
    let less = all_among (λ (x : Entry). path_cmp e.path x.path ≡ Less) entry files parts.0 among in
    ap (λ (b : Bool). option_map (λ (x : Entry). x.file) (cond b (Some e) (find (λ (x : Entry). bytes_eq x.path entry.path) files)))
    (apart_by_order e.path entry.path Less refl less)
    ∙ file_among entry files parts.1 among

-- and what is found stands in it
pub among_file : (path : List ℕ) (file : File) (files : List Entry) → file_at path files ≡ Some file → IsAmong (entry_of path file) files
among_file path file [] found = absurd (cc)
among_file path file (e ∷ files) found = go (bytes_eq e.path path) refl found (among_file path file files)
  where
    go : (b : Bool) → bytes_eq e.path path ≡ b
        → option_map (λ (x : Entry). x.file) (cond b (Some e) (find (λ (x : Entry). bytes_eq x.path path) files)) ≡ Some file
        → (file_at path files ≡ Some file → IsAmong (entry_of path file) files) → IsAmong (entry_of path file) (e ∷ files)
    go true is h more =
        let same_file : e.file ≡ file = cc in
        let same_path : e.path ≡ path = (bytes_eq-Decides e.path path).0 is in
        inl (λ i. record { path = sym same_path i; file = sym same_file i })
    go false is h more = inr (more h)

-- a path stands in it once
pub path_counted : (entry : Entry) (files : List Entry) → IsRising files → IsAmong entry files
    → length (filter (λ (e : Entry). bytes_eq entry.path e.path) files) ≡ 1
path_counted entry [] rising among = absurd among
path_counted entry (e ∷ files) rising (inl same) =
    let parts = rising_parts e files rising in
    let here : bytes_eq entry.path e.path ≡ true = same_by_test entry.path e.path (ap (λ (x : Entry). x.path) same) in
    let none = all_fail (λ (x : Entry). bytes_eq entry.path x.path) files
    (all_from_among (λ (x : Entry). bytes_eq entry.path x.path ≡ false) files
    (λ x among. apart_by_order entry.path x.path Less refl (ap (λ (y : Entry). path_cmp y.path x.path) same
    ∙ all_among (λ (y : Entry). path_cmp e.path y.path ≡ Less) x files parts.0 among))) in
    ap (λ (b : Bool). length (cond b (e ∷ filter (λ (x : Entry). bytes_eq entry.path x.path) files)
    (filter (λ (x : Entry). bytes_eq entry.path x.path) files))) here
    ∙ omega (arith, none)
path_counted entry (e ∷ files) rising (inr among) =
    let parts = rising_parts e files rising in
    let less = all_among (λ (x : Entry). path_cmp e.path x.path ≡ Less) entry files parts.0 among in
    let other : bytes_eq entry.path e.path ≡ false = apart_by_order entry.path e.path Greater refl (greater_back e.path entry.path less) in
    ap (λ (b : Bool). length (cond b (e ∷ filter (λ (x : Entry). bytes_eq entry.path x.path) files)
    (filter (λ (x : Entry). bytes_eq entry.path x.path) files))) other
    ∙ path_counted entry files parts.1 among

-- a file that two filters tell apart is put between those that the one keeps
module _ (entry : Entry) (keep keeps : Entry → Bool) (left_out : keep entry ≡ false) (kept : keeps entry ≡ true) where
  abbrev is_before : Entry → Bool
  is_before e = is_lt (path_cmp e.path entry.path)

  abbrev is_behind : Entry → Bool
  is_behind e = is_lt (path_cmp entry.path e.path)

  later : (files : List Entry) → AllBehindPath entry.path files → AllByRecursion (λ (e : Entry). keeps e ≡ keep e) files
      → filter is_before (filter keep files) ++ (entry ∷ filter is_behind (filter keep files)) ≡ entry ∷ filter keeps files
  later files all same =
      let some = filter keep files in
      let behind = all_from_among (λ (x : Entry). path_cmp entry.path x.path ≡ Less) some
      (λ x among. all_among (λ (y : Entry). path_cmp entry.path y.path ≡ Less) x files all (among_of_filter keep x files among)) in
      let none = none_pass is_before some (all_from_among (λ (x : Entry). is_before x ≡ false) some
      (λ x among. ap is_lt
      (greater_back entry.path x.path
      (all_among (λ (y : Entry). path_cmp entry.path y.path ≡ Less) x some behind among)))) in
      let back = all_pass is_behind some (all_from_among (λ (x : Entry). is_behind x ≡ true) some
      (λ x among. ap is_lt (all_among (λ (y : Entry). path_cmp entry.path y.path ≡ Less) x some behind among))) in
      ap (λ (xs : List Entry). xs ++ (entry ∷ filter is_behind some)) none
      ∙ (ap (λ (xs : List Entry). entry ∷ xs) back ∙ ap (λ (xs : List Entry). entry ∷ xs) (sym (same_filter keeps keep files same)))

  pub put_between : (files : List Entry) → IsRising files → IsAmong entry files
      → ((e : Entry) → IsAmong e files → e.path ≢ entry.path → keeps e ≡ keep e)
      → with_file entry.path entry.file (filter keep files) ≡ filter keeps files
  put_between [] rising among same = absurd among
  put_between (e ∷ files) rising (inl here) same =
      let parts = rising_parts e files rising in
      let behind = subst (λ (x : Entry). AllBehindPath x.path files) (sym here) parts.0 in
      let others = all_from_among (λ (x : Entry). keeps x ≡ keep x) files (λ x among. same x (inr among) (λ equal. let less = all_among
      (λ (y : Entry). path_cmp entry.path y.path ≡ Less) x files behind among in let self = path_cmp-same entry.path in let clash = sym self
      ∙ (ap (path_cmp entry.path) (sym equal) ∙ less) in absurd (cc))) in
      ap (λ (b : Bool). let some = cond b (e ∷ filter keep files) (filter keep files) in filter is_before some
      ++ (entry ∷ filter is_behind some))
      (ap keep (sym here) ∙ left_out)
      ∙ (later files behind others
      ∙ (ap (λ (x : Entry). x ∷ filter keeps files) here
      ∙ sym (ap (λ (b : Bool). cond b (e ∷ filter keeps files) (filter keeps files)) (ap keeps (sym here) ∙ kept))))
  put_between (e ∷ files) rising (inr among) same =
      let parts = rising_parts e files rising in
      let less = all_among (λ (x : Entry). path_cmp e.path x.path ≡ Less) entry files parts.0 among in
      let apart : e.path ≢ entry.path = λ equal. let self = path_cmp-same e.path in let clash =
      sym self ∙ (ap (path_cmp e.path) equal ∙ less) in cc in
      let before : is_before e ≡ true = ap is_lt less in
      let behind : is_behind e ≡ false = ap is_lt (greater_back e.path entry.path less) in
      let more = put_between files parts.1 among (λ x here. same x (inr here)) in
      go (keep e) before behind more
      ∙ sym (ap (λ (b : Bool). cond b (e ∷ filter keeps files) (filter keeps files)) (same e (inl refl) apart))
    where
      go : (b : Bool) → is_before e ≡ true → is_behind e ≡ false
          → filter is_before (filter keep files) ++ (entry ∷ filter is_behind (filter keep files)) ≡ filter keeps files
          → let some = cond b (e ∷ filter keep files) (filter keep files) in
          filter is_before some ++ (entry ∷ filter is_behind some) ≡ cond b (e ∷ filter keeps files) (filter keeps files)
      go true before behind more =
          let some = filter keep files in
          ap (λ (b : Bool). cond b (e ∷ filter is_before some) (filter is_before some) ++ (entry ∷ filter is_behind (e ∷ some))) before
          ∙ (ap (λ (b : Bool). e ∷ (filter is_before some ++ (entry ∷ cond b (e ∷ filter is_behind some) (filter is_behind some)))) behind
          ∙ ap (λ (xs : List Entry). e ∷ xs) more)
      go false before behind more = more

-- fewer files have no more bytes
pub total_fewer : (keep : Entry → Bool) (files : List Entry) → total (filter keep files) ≤ total files
total_fewer keep [] = omega arith
total_fewer keep (e ∷ files) = go (keep e) (total_fewer keep files)
  where
    size : Entry → ℕ
    size = λ (x : Entry). length x.file.bytes

    go : (b : Bool) → total (filter keep files) ≤ total files
        → total (cond b (e ∷ filter keep files) (filter keep files)) ≤ total (e ∷ files)
    go true more = omega (arith, more, sum_by-cons size e (filter keep files), sum_by-cons size e files)
    go false more = omega (arith, more, sum_by-cons size e files)
