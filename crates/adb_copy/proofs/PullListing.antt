-- What a listing shows: each name once, all that lies below, and nothing else.
use Rattle.std.proofs.Common.{ℕ, ◌≡◌, ◌≤◌, ◌||◌, Bool, true, false, cond, List, [], ◌∷◌, length, filter}
use Rattle.std.proofs.Common.{refl, ◌∙◌, ap, sym, subst, arith, Ordering, ◌⊎◌, inl, inr}
use Rattle.std.specs.Prelude.{bytes_eq, fold}
use Rattle.std.specs.Ordering.{match_ordering}
use Rattle.std.specs.declared.cmp.Ordering.TheVariants.{Less, Equal, Greater}
use Rattle.std.specs.BTreeMap.{insert_entry}
use Rattle.std.specs.List.{AllByRecursion, list_any}
use Rattle.std.proofs.lemmas.Cmp.{nat_list_cmp_total}
use Rattle.std.proofs.lemmas.Slice.Eq.{bytes_eq-Decides}
use Rattle.adb_files.specs.Entries.{Entry}
use Rattle.adb_files.specs.declared.stat.Stat.{Stat}
use Rattle.adb_files.specs.Paths.{path_cmp, is_below}
use Rattle.adb_files.specs.Listing.{name_below, stat_below, with_shown, shown_in}
use Rattle.adb_files.proofs.Lookups.{same_by_test, apart_by_test, apart_by_order}
use Rattle.adb_files.proofs.Order.{same_path, less_back}

abbrev pub Shown : Type 0
Shown = List ℕ × Stat

-- an element of a list
abbrev pub IsAmong : {X : Type 0} → X → List X → Type 0
IsAmong x [] = ⊥
IsAmong x (y ∷ ys) = (x ≡ y) ⊎ IsAmong x ys

-- ---- each name once
abbrev AllAbove : List ℕ → List Shown → Type 0
AllAbove name [] = Unit {0}
AllAbove name (e ∷ es) = (path_cmp name e.0 ≡ Less) × AllAbove name es

abbrev NamesRise : List Shown → Type 0
NamesRise [] = Unit {0}
NamesRise (e ∷ es) = AllAbove e.0 es × NamesRise es

above_on : (a b : List ℕ) (es : List Shown) → path_cmp a b ≡ Less → AllAbove b es → AllAbove a es
above_on a b [] less all = tt
above_on a b (e ∷ es) less all = (nat_list_cmp_total.trans a b e.0 less all.0, above_on a b es less all.1)

above_with : (name k : List ℕ) (v : Stat) (es : List Shown) → path_cmp name k ≡ Less → AllAbove name es
    → AllAbove name (insert_entry path_cmp es k v)
above_with name k v [] less all = (less, tt)
above_with name k v (e ∷ es) less all = go (path_cmp k e.0) (above_with name k v es less all.1)
  where
    go : (o : Ordering) → AllAbove name (insert_entry path_cmp es k v)
        → AllAbove name (match_ordering o ((k, v) ∷ e ∷ es) ((e.0, v) ∷ es) (e ∷ insert_entry path_cmp es k v))
    go Less more = (less, all)
    go Equal more = all
    go Greater more = (all.0, more)

rise_with : (es : List Shown) (k : List ℕ) (v : Stat) → NamesRise es → NamesRise (insert_entry path_cmp es k v)
rise_with [] k v rise = (tt, tt)
rise_with (e ∷ es) k v rise = go (path_cmp k e.0) refl (rise_with es k v rise.1)
  where
    go : (o : Ordering) → path_cmp k e.0 ≡ o → NamesRise (insert_entry path_cmp es k v)
        → NamesRise (match_ordering o ((k, v) ∷ e ∷ es) ((e.0, v) ∷ es) (e ∷ insert_entry path_cmp es k v))
    go Less is more = ((is, above_on k e.0 es is rise.0), rise)
    go Equal is more = rise
    go Greater is more = (above_with e.0 k v es (less_back k e.0 is) rise.0, more)

rise_all : (directory : List ℕ) (files : List Entry) (found : List Shown) → NamesRise found
    → NamesRise (fold (with_shown directory) found files)
rise_all directory [] found rise = rise
rise_all directory (e ∷ files) found rise =
    rise_all directory files (with_shown directory found e) (rise_with found (name_below directory e.path) (stat_below directory e) rise)

abbrev pub has_name : List ℕ → Shown → Bool
has_name name shown = bytes_eq shown.0 name

none_above : (name : List ℕ) (es : List Shown) → AllAbove name es → length (filter (has_name name) es) ≡ 0
none_above name [] all = refl
none_above name (e ∷ es) all =
    let apart : has_name name e ≡ false = apart_by_test e.0 name
    (λ same. let clash = sym (ap (path_cmp name) same) ∙ all.0 in less_self name clash) in
    ap (λ (t : Bool). length (cond t (e ∷ filter (has_name name) es) (filter (has_name name) es))) apart ∙ none_above name es all.1
  where
    less_self : (x : List ℕ) → path_cmp x x ≡ Less → ⊥
    less_self x less = let order = apart_by_order x x Less refl less in let same = same_by_test x x refl in cc

pub once_named : (name : List ℕ) (es : List Shown) → NamesRise es → length (filter (has_name name) es) ≤ 1
once_named name [] rise = omega arith
once_named name (e ∷ es) rise = go (has_name name e) refl (once_named name es rise.1)
  where
    go : (t : Bool) → has_name name e ≡ t → length (filter (has_name name) es) ≤ 1
        → length (cond t (e ∷ filter (has_name name) es) (filter (has_name name) es)) ≤ 1
    go true is more =
        let same = (bytes_eq-Decides e.0 name).0 is in
        let none = none_above name es (subst (λ (n : List ℕ). AllAbove n es) same rise.0) in
        omega (arith, none)
    go false is more = more

pub shown_once : (directory name : List ℕ) (files : List Entry) → length (filter (has_name name) (shown_in directory files)) ≤ 1
shown_once directory name files =
    once_named name (shown_in directory files) (rise_all directory (filter (λ (e : Entry). is_below directory e.path) files) [] tt)

-- ---- all that lies below
or_right : (a b : Bool) → b ≡ true → (a || b) ≡ true
or_right true b h = refl
or_right false b h = h

name_stays : (name : List ℕ) (es : List Shown) (k : List ℕ) (v : Stat) → list_any (has_name name) es ≡ true
    → list_any (has_name name) (insert_entry path_cmp es k v) ≡ true
name_stays name [] k v there = absurd (cc)
name_stays name (e ∷ es) k v there = go (path_cmp k e.0) (name_stays name es k v)
  where
    by : (t : Bool) → (t || list_any (has_name name) es) ≡ true
        → (list_any (has_name name) es ≡ true → list_any (has_name name) (insert_entry path_cmp es k v) ≡ true)
        → (t || list_any (has_name name) (insert_entry path_cmp es k v)) ≡ true
    by true h more = refl
    by false h more = more h

    go : (o : Ordering) → (list_any (has_name name) es ≡ true → list_any (has_name name) (insert_entry path_cmp es k v) ≡ true)
        → list_any (has_name name) (match_ordering o ((k, v) ∷ e ∷ es) ((e.0, v) ∷ es) (e ∷ insert_entry path_cmp es k v)) ≡ true
    go Less more = or_right (bytes_eq k name) (list_any (has_name name) (e ∷ es)) there
    go Equal more = there
    go Greater more = by (has_name name e) there more

name_put : (es : List Shown) (k : List ℕ) (v : Stat) → list_any (has_name k) (insert_entry path_cmp es k v) ≡ true
name_put [] k v = ap (λ (t : Bool). t || false) (same_by_test k k refl)
name_put (e ∷ es) k v = go (path_cmp k e.0) refl (name_put es k v)
  where
    go : (o : Ordering) → path_cmp k e.0 ≡ o → list_any (has_name k) (insert_entry path_cmp es k v) ≡ true
        → list_any (has_name k) (match_ordering o ((k, v) ∷ e ∷ es) ((e.0, v) ∷ es) (e ∷ insert_entry path_cmp es k v)) ≡ true
    go Less is more = ap (λ (t : Bool). t || list_any (has_name k) (e ∷ es)) (same_by_test k k refl)
    go Equal is more = ap (λ (t : Bool). t || list_any (has_name k) es) (same_by_test e.0 k (sym (same_path k e.0 is)))
    go Greater is more = or_right (has_name k e) (list_any (has_name k) (insert_entry path_cmp es k v)) more

stays_all : (directory name : List ℕ) (files : List Entry) (found : List Shown) → list_any (has_name name) found ≡ true
    → list_any (has_name name) (fold (with_shown directory) found files) ≡ true
stays_all directory name [] found there = there
stays_all directory name (e ∷ files) found there =
    stays_all directory name files (with_shown directory found e)
    (name_stays name found (name_below directory e.path) (stat_below directory e) there)

put_all : (directory : List ℕ) (entry : Entry) (files : List Entry) (found : List Shown) → IsAmong entry files
    → list_any (has_name (name_below directory entry.path)) (fold (with_shown directory) found files) ≡ true
put_all directory entry [] found among = absurd among
put_all directory entry (e ∷ files) found (inl same) =
    let name = name_below directory e.path in
    ap (λ (x : Entry). list_any (has_name (name_below directory x.path))
    (fold (with_shown directory) (with_shown directory found e) files)) same
    ∙ stays_all directory name files (with_shown directory found e) (name_put found name (stat_below directory e))
put_all directory entry (e ∷ files) found (inr among) = put_all directory entry files (with_shown directory found e) among

pub among_filter : (test : Entry → Bool) (entry : Entry) (files : List Entry) → IsAmong entry files
    → test entry ≡ true → IsAmong entry (filter test files)
among_filter test entry [] among pass = absurd among
among_filter test entry (e ∷ files) (inl same) pass =
    subst (λ (t : Bool). IsAmong entry (cond t (e ∷ filter test files) (filter test files))) (sym (ap test (sym same) ∙ pass)) (inl same)
among_filter test entry (e ∷ files) (inr among) pass = go (test e) (among_filter test entry files among pass)
  where
    go : (t : Bool) → IsAmong entry (filter test files) → IsAmong entry (cond t (e ∷ filter test files) (filter test files))
    go true more = inr more
    go false more = more

pub shown_there : (directory : List ℕ) (entry : Entry) (files : List Entry) → IsAmong entry files → is_below directory entry.path ≡ true
    → list_any (has_name (name_below directory entry.path)) (shown_in directory files) ≡ true
shown_there directory entry files among below =
    put_all directory entry (filter (λ (e : Entry). is_below directory e.path) files) []
    (among_filter (λ (e : Entry). is_below directory e.path) entry files among below)

-- ---- and nothing else
-- what is shown is what a file below shows
pub record IsShownBy (directory : List ℕ) (files : List Entry) (shown : Shown) : Type 0 where
  pub entry : Entry
  pub among : IsAmong entry files
  pub below : is_below directory entry.path ≡ true
  pub name : shown.0 ≡ name_below directory entry.path
  pub stat : shown.1 ≡ stat_below directory entry

module _ (P : Shown → Type 0) where
  all_with : (es : List Shown) (k : List ℕ) (v : Stat) → AllByRecursion P es → P (k, v) → AllByRecursion P (insert_entry path_cmp es k v)
  all_with [] k v all here = (here, tt)
  all_with (e ∷ es) k v all here = go (path_cmp k e.0) refl (all_with es k v all.1 here)
    where
      go : (o : Ordering) → path_cmp k e.0 ≡ o → AllByRecursion P (insert_entry path_cmp es k v)
          → AllByRecursion P (match_ordering o ((k, v) ∷ e ∷ es) ((e.0, v) ∷ es) (e ∷ insert_entry path_cmp es k v))
      go Less is more = (here, all)
      go Equal is more = (subst (λ (n : List ℕ). P (n, v)) (same_path k e.0 is) here, all.1)
      go Greater is more = (all.0, more)

  all_folded : (directory : List ℕ) (files : List Entry) (found : List Shown) → AllByRecursion P found
      → ((e : Entry) → IsAmong e files → P (name_below directory e.path, stat_below directory e))
      → AllByRecursion P (fold (with_shown directory) found files)
  all_folded directory [] found all each = all
  all_folded directory (e ∷ files) found all each =
      all_folded directory files (with_shown directory found e)
      (all_with found (name_below directory e.path) (stat_below directory e) all (each e (inl refl)))
      (λ x among. each x (inr among))

passed : (test : Entry → Bool) (entry : Entry) (files : List Entry) → IsAmong entry (filter test files)
    → IsAmong entry files × (test entry ≡ true)
passed test entry [] among = absurd among
passed test entry (e ∷ files) among = go (test e) refl among (passed test entry files)
  where
    go : (t : Bool) → test e ≡ t → IsAmong entry (cond t (e ∷ filter test files) (filter test files))
        → (IsAmong entry (filter test files) → IsAmong entry files × (test entry ≡ true)) → IsAmong entry (e ∷ files) × (test entry ≡ true)
    go true is (inl same) more = (inl same, ap test same ∙ is)
    go true is (inr among) more = let h = more among in (inr h.0, h.1)
    go false is among more = let h = more among in (inr h.0, h.1)

pub shown_alone : (directory : List ℕ) (files : List Entry) → AllByRecursion (IsShownBy directory files) (shown_in directory files)
shown_alone directory files =
    all_folded (IsShownBy directory files) directory (filter (λ (e : Entry). is_below directory e.path) files) [] tt
    (λ e among. let h = passed (λ (x : Entry). is_below directory x.path) e files among in
    record { entry = e; among = h.0; below = h.1; name = refl; stat = refl })
