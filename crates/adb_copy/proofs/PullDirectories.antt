-- The directories of files: each once, those in which a file lies, and how many they are.
use Rattle.std.proofs.Common.{ℕ, ◌+◌, ◌*◌, ◌≡◌, ◌≤◌, ◌&&◌, ◌||◌, Bool, true, false, cond, eqb, List, [], ◌∷◌, ◌++◌, length, drop, filter}
use Rattle.std.proofs.Common.{◌⊎◌, inl, inr}
use Rattle.std.proofs.Common.{refl, ◌∙◌, ap, sym, subst, append_assoc, arith}
use Rattle.std.specs.Prelude.{codes, bytes_eq, nat_eq}
use Rattle.std.specs.List.{AllByRecursion, flat_map, list_all, list_any, starts_with, slice_split, onto_first}
use Rattle.std.proofs.lemmas.Bool.{and_parts, eqb-true}
use Rattle.std.proofs.lemmas.List.{length-append, append-nil}
use Rattle.std.proofs.lemmas.List.Elements.{recursion_from_All}
use Rattle.std.proofs.lemmas.List.Folds.{list_any-append}
use Rattle.std.proofs.lemmas.Slice.Eq.{bytes_eq-Decides}
use Rattle.adb_files.specs.Entries.{Entry}
use Rattle.adb_files.specs.Files.{IsFileMap, is_directory}
use Rattle.adb_files.specs.Paths.{is_path, is_name, is_below, inside, parts_of}
use Rattle.adb_files.proofs.Lookups.{same_by_test}
use Rattle.adb_sync_client.specs.declared.request.TheConstants.{MAX_ASKED_PATH}
use Rattle.adb_copy.specs.Pulling.{leading_behind, leading, each_once, directories}
use Rattle.adb_copy.specs.Trees.{AreCopied, IsCopied}
use Rattle.adb_copy.proofs.PullPaths.{is_slash, in_parts, starts_front}
use Rattle.adb_copy.proofs.PullListing.{IsAmong}

-- ---- each once
any_same : (d x : List ℕ) (xs : List (List ℕ)) → bytes_eq d x ≡ true → list_any (bytes_eq d) xs ≡ list_any (bytes_eq x) xs
any_same d x xs is = ap (λ (p : List ℕ). list_any (bytes_eq p) xs) ((bytes_eq-Decides d x).0 is)

pub once_counted : (d : List ℕ) (xs : List (List ℕ)) → length (filter (bytes_eq d) (each_once xs)) ≡ cond (list_any (bytes_eq d) xs) 1 0
once_counted d [] = refl
once_counted d (x ∷ xs) = go (list_any (bytes_eq x) xs) refl (bytes_eq d x) refl (once_counted d xs)
  where
    go : (t : Bool) → list_any (bytes_eq x) xs ≡ t → (s : Bool) → bytes_eq d x ≡ s
        → length (filter (bytes_eq d) (each_once xs)) ≡ cond (list_any (bytes_eq d) xs) 1 0
        → length (filter (bytes_eq d) (cond t (each_once xs) (x ∷ each_once xs))) ≡ cond (s || list_any (bytes_eq d) xs) 1 0
    go true is true same more = more ∙ ap (λ (t : Bool). cond t 1 0) (any_same d x xs same ∙ is)
    go true is false same more = more
    go false is true same more =
        let none : list_any (bytes_eq d) xs ≡ false = any_same d x xs same ∙ is in
        let rest : length (filter (bytes_eq d) (each_once xs)) ≡ 0 = more ∙ ap (λ (t : Bool). cond t 1 0) none in
        ap (λ (t : Bool). length (cond t (x ∷ filter (bytes_eq d) (each_once xs)) (filter (bytes_eq d) (each_once xs)))) same
        ∙ omega (arith, rest)
    go false is false same more =
        ap (λ (t : Bool). length (cond t (x ∷ filter (bytes_eq d) (each_once xs)) (filter (bytes_eq d) (each_once xs)))) same ∙ more

-- ---- the directories in which a file lies are there
or_right : (a b : Bool) → b ≡ true → (a || b) ≡ true
or_right true b h = refl
or_right false b h = h

leads_through : (front x more : List ℕ) → list_any (bytes_eq (front ++ x)) (leading_behind front (x ++ 47 ∷ more)) ≡ true
leads_through front [] more =
    ap (λ (t : Bool). t || list_any (bytes_eq (front ++ [])) (leading_behind (front ++ 47 ∷ []) more))
    (same_by_test (front ++ []) front (append-nil front))
leads_through front (b ∷ x) more =
    go (eqb b 47)
    (subst (λ (p : List ℕ). list_any (bytes_eq p) (leading_behind (front ++ b ∷ []) (x ++ 47 ∷ more)) ≡ true)
    (append_assoc front (b ∷ []) x)
    (leads_through (front ++ b ∷ []) x more))
  where
    rest : List (List ℕ)
    rest = leading_behind (front ++ b ∷ []) (x ++ 47 ∷ more)

    go : (t : Bool) → list_any (bytes_eq (front ++ b ∷ x)) rest ≡ true
        → list_any (bytes_eq (front ++ b ∷ x)) (cond t (front ∷ rest) rest) ≡ true
    go true more = or_right (bytes_eq (front ++ b ∷ x) front) (list_any (bytes_eq (front ++ b ∷ x)) rest) more
    go false more = more

-- what is a path begins with a slash
form_starts : (root starts names : Bool) → (root ≡ true → starts ≡ true) → (root || (starts && names)) ≡ true → starts ≡ true
form_starts true starts names h is = h refl
form_starts false true names h is = refl
form_starts false false names h is = absurd (cc)

pub path_starts : (path : List ℕ) → is_path path ≡ true → path ≡ codes "/" ++ drop 1 path
path_starts path form =
    in_parts path (codes "/")
    (form_starts (bytes_eq path (codes "/")) (starts_with nat_eq path (codes "/"))
    (list_all is_name (parts_of path))
    (λ root. ap (λ (p : List ℕ). starts_with nat_eq p (codes "/")) ((bytes_eq-Decides path (codes "/")).0 root)) form)

below_leads : (d path : List ℕ) → is_path d ≡ true → bytes_eq d (codes "/") ≡ false → is_below d path ≡ true
    → list_any (bytes_eq d) (leading path) ≡ true
below_leads d path form plain below =
    let front : inside d ≡ d ++ codes "/" = ap (λ (t : Bool). d ++ cond t (codes "") (codes "/")) plain in
    let more = drop (length (inside d)) path in
    let tail = drop 1 d in
    let starts : d ≡ 47 ∷ tail = path_starts d form in
    let is : path ≡ 47 ∷ (tail ++ 47 ∷ more) =
    in_parts path (inside d) below
    ∙ (ap (λ (bs : List ℕ). bs ++ more) (front ∙ ap (λ (bs : List ℕ). bs ++ codes "/") starts)
    ∙ append_assoc (47 ∷ tail) (codes "/") more) in
    ap (λ (p : List ℕ). list_any (bytes_eq p) (leading path)) starts
    ∙ (ap (λ (p : List ℕ). list_any (bytes_eq (47 ∷ tail)) (leading p)) is ∙ leads_through (codes "/") tail more)

some_leads : (d : List ℕ) (files : List Entry) → is_path d ≡ true → bytes_eq d (codes "/") ≡ false
    → list_any (λ (entry : Entry). is_below d entry.path) files ≡ true
    → list_any (bytes_eq d) (flat_map (λ (entry : Entry). leading entry.path) files) ≡ true
some_leads d [] form plain some = absurd (cc)
some_leads d (e ∷ files) form plain some =
    list_any-append (bytes_eq d) (leading e.path) (flat_map (λ (entry : Entry). leading entry.path) files)
    ∙ go (is_below d e.path) refl some (some_leads d files form plain)
  where
    below : Entry → Bool
    below = λ (entry : Entry). is_below d entry.path

    rest : List (List ℕ)
    rest = flat_map (λ (entry : Entry). leading entry.path) files

    go : (t : Bool) → is_below d e.path ≡ t → (t || list_any below files) ≡ true
        → (list_any below files ≡ true → list_any (bytes_eq d) rest ≡ true)
        → (list_any (bytes_eq d) (leading e.path) || list_any (bytes_eq d) rest) ≡ true
    go true is h more = ap (λ (t : Bool). t || list_any (bytes_eq d) rest) (below_leads d e.path form plain is)
    go false is h more = or_right (list_any (bytes_eq d) (leading e.path)) (list_any (bytes_eq d) rest) (more h)

by_parts : (form root any : Bool) → (form && (root || any)) ≡ true → (form ≡ true) × ((root ≡ false → any ≡ true))
by_parts true true any h = (refl, λ e. absurd (cc))
by_parts true false any h = (refl, λ e. h)
by_parts false root any h = absurd (cc)

pub directory_form : (files : List Entry) (d : List ℕ) → is_directory files d ≡ true → is_path d ≡ true
directory_form files d is = (by_parts (is_path d) (bytes_eq d (codes "/")) (list_any (λ (entry : Entry). is_below d entry.path) files) is).0

pub directory_counted : (files : List Entry) (d : List ℕ) → is_directory files d ≡ true
    → length (filter (bytes_eq d) (directories files)) ≡ 1
directory_counted files d is =
    let parts = by_parts (is_path d) (bytes_eq d (codes "/")) (list_any (λ (entry : Entry). is_below d entry.path) files) is in
    let rest = flat_map (λ (entry : Entry). leading entry.path) files in
    once_counted d (codes "/" ∷ rest)
    ∙ ap (λ (t : Bool). cond t 1 0) (go (bytes_eq d (codes "/")) refl parts)
  where
    go : (t : Bool) → bytes_eq d (codes "/") ≡ t
        → (is_path d ≡ true) × (t ≡ false → list_any (λ (entry : Entry). is_below d entry.path) files ≡ true)
        → (t || list_any (bytes_eq d) (flat_map (λ (entry : Entry). leading entry.path) files)) ≡ true
    go true same parts = refl
    go false same parts = some_leads d files parts.0 same (parts.1 refl)

-- ---- and no others
-- the root, or what a file lies below
pub record HasFile (files : List Entry) (d : List ℕ) : Type 0 where
  pub starts : starts_with nat_eq d (codes "/") ≡ true
  pub entry : Entry
  pub among : IsAmong entry files
  pub below : is_below d entry.path ≡ true

abbrev pub IsRootOrHasFile : List Entry → List ℕ → Type 0
IsRootOrHasFile files d = (d ≡ codes "/") ⊎ HasFile files d

module _ (P : List ℕ → Type 0) where
  all_once : (xs : List (List ℕ)) → AllByRecursion P xs → AllByRecursion P (each_once xs)
  all_once [] all = tt
  all_once (x ∷ xs) all = go (list_any (bytes_eq x) xs) (all_once xs all.1)
    where
      go : (t : Bool) → AllByRecursion P (each_once xs) → AllByRecursion P (cond t (each_once xs) (x ∷ each_once xs))
      go true more = more
      go false more = (all.0, more)

  all_append : (xs ys : List (List ℕ)) → AllByRecursion P xs → AllByRecursion P ys → AllByRecursion P (xs ++ ys)
  all_append [] ys left right = right
  all_append (x ∷ xs) ys left right = (left.0, all_append xs ys left.1 right)

below_front : (front more : List ℕ) → is_below front (front ++ 47 ∷ more) ≡ true
below_front front more = go (bytes_eq front (codes "/"))
  where
    go : (t : Bool) → starts_with nat_eq (front ++ 47 ∷ more) (front ++ cond t (codes "") (codes "/")) ≡ true
    go true = starts_front front (47 ∷ more) []
    go false = starts_front front (47 ∷ more) (codes "/")

-- it begins as the path does, and the path lies below it
abbrev IsLed : List ℕ → List ℕ → Type 0
IsLed path d = (starts_with nat_eq d (codes "/") ≡ true) × (is_below d path ≡ true)

longer_starts : (front more : List ℕ) → starts_with nat_eq front (codes "/") ≡ true → starts_with nat_eq (front ++ more) (codes "/") ≡ true
longer_starts [] more is = absurd (cc)
longer_starts (b ∷ front) more is = is

led_below : (front rest : List ℕ) → starts_with nat_eq front (codes "/") ≡ true
    → AllByRecursion (IsLed (front ++ rest)) (leading_behind front rest)
led_below front [] starts = tt
led_below front (b ∷ rest) starts =
    go (eqb b 47) refl
    (subst (λ (p : List ℕ). AllByRecursion (IsLed p) (leading_behind (front ++ b ∷ []) rest))
    (append_assoc front (b ∷ []) rest)
    (led_below (front ++ b ∷ []) rest (longer_starts front (b ∷ []) starts)))
  where
    go : (t : Bool) → eqb b 47 ≡ t → AllByRecursion (IsLed (front ++ b ∷ rest)) (leading_behind (front ++ b ∷ []) rest)
        → AllByRecursion (IsLed (front ++ b ∷ rest))
        (cond t (front ∷ leading_behind (front ++ b ∷ []) rest) (leading_behind (front ++ b ∷ []) rest))
    go true is all =
        ((starts, subst (λ (k : ℕ). is_below front (front ++ k ∷ rest) ≡ true) (sym (eqb-true b 47 is)) (below_front front rest)), all)
    go false is all = all

weaker : (P Q : List ℕ → Type 0) → ((x : List ℕ) → P x → Q x) → (xs : List (List ℕ)) → AllByRecursion P xs → AllByRecursion Q xs
weaker P Q f [] all = tt
weaker P Q f (x ∷ xs) all = (f x all.0, weaker P Q f xs all.1)

all_led : (all files : List Entry) → ((e : Entry) → IsAmong e files → IsAmong e all)
    → AllByRecursion (λ (e : Entry). is_path e.path ≡ true) files
    → AllByRecursion (IsRootOrHasFile all) (flat_map (λ (entry : Entry). leading entry.path) files)
all_led all [] here forms = tt
all_led all (e ∷ files) here forms =
    let starts = path_starts e.path forms.0 in
    let led = subst (λ (p : List ℕ). AllByRecursion (IsLed p) (leading e.path)) (sym starts) (led_below (codes "/") (drop 1 e.path) refl) in
    all_append (IsRootOrHasFile all) (leading e.path) (flat_map (λ (entry : Entry). leading entry.path) files)
    (weaker (IsLed e.path) (IsRootOrHasFile all)
    (λ d h. inr (record { starts = h.0; entry = e; among = here e (inl refl); below = h.1 })) (leading e.path) led)
    (all_led all files (λ x among. here x (inr among)) forms.1)

pub directories_have_files : (files : List Entry) → AllByRecursion (λ (e : Entry). is_path e.path ≡ true) files
    → AllByRecursion (IsRootOrHasFile files) (directories files)
directories_have_files files forms =
    all_once (IsRootOrHasFile files) (codes "/" ∷ flat_map (λ (entry : Entry). leading entry.path) files)
    (inl refl, all_led files files (λ e among. among) forms)

-- ---- few
abbrev slashes : List ℕ → ℕ
slashes [] = 0
slashes (b ∷ bs) = cond (eqb b 47) (1 + slashes bs) (slashes bs)

led_length : (front rest : List ℕ) → length (leading_behind front rest) ≡ slashes rest
led_length front [] = refl
led_length front (b ∷ rest) = go (eqb b 47) (led_length (front ++ b ∷ []) rest)
  where
    go : (t : Bool) → length (leading_behind (front ++ b ∷ []) rest) ≡ slashes rest
        → length (cond t (front ∷ leading_behind (front ++ b ∷ []) rest) (leading_behind (front ++ b ∷ []) rest))
        ≡ cond t (1 + slashes rest) (slashes rest)
    go true more = omega (arith, more)
    go false more = more

-- the parts between the slashes, the first one apart
record IsCutAt (bytes : List ℕ) : Type 0 where
  first : List ℕ
  parts : List (List ℕ)
  is : slice_split is_slash bytes ≡ first ∷ parts
  few : list_all is_name parts ≡ true → 2 * slashes bytes + length first ≤ length bytes

name_long : (name : List ℕ) → is_name name ≡ true → 1 ≤ length name
name_long [] h = absurd (cc)
name_long (b ∷ name) h = omega arith

cut_at : (bytes : List ℕ) → IsCutAt bytes
cut_at [] = record { first = []; parts = []; is = refl; few = λ _. omega arith }
cut_at (b ∷ bytes) = go (eqb b 47) (cut_at bytes) refl
  where
    go : (t : Bool) → IsCutAt bytes → eqb b 47 ≡ t → IsCutAt (b ∷ bytes)
    go true c is = record {
      first = [];
      parts = c.first ∷ c.parts;
      is = ap (λ (t : Bool). cond t ([] ∷ slice_split is_slash bytes) (onto_first b (slice_split is_slash bytes))) is
          ∙ ap (λ (ps : List (List ℕ)). [] ∷ ps) c.is;
      few = λ all.
          let p = and_parts (is_name c.first) (list_all is_name c.parts) all in
          let long = name_long c.first p.0 in
          let few = c.few p.1 in
          let now : slashes (b ∷ bytes) ≡ 1 + slashes bytes = ap (λ (t : Bool). cond t (1 + slashes bytes) (slashes bytes)) is in
          omega (arith, long, few, now);
    }
    go false c is = record {
      first = b ∷ c.first;
      parts = c.parts;
      is = ap (λ (t : Bool). cond t ([] ∷ slice_split is_slash bytes) (onto_first b (slice_split is_slash bytes))) is
          ∙ ap (onto_first b) c.is;
      few = λ all.
          let few = c.few all in
          let now : slashes (b ∷ bytes) ≡ slashes bytes = ap (λ (t : Bool). cond t (1 + slashes bytes) (slashes bytes)) is in
          omega (arith, few, now);
    }

no_more : (root starts names : Bool) → (root || (starts && names)) ≡ true → (root ≡ true) ⊎ (names ≡ true)
no_more true starts names h = inl refl
no_more false true names h = inr h
no_more false false names h = absurd (cc)

leads_few : (path : List ℕ) → is_path path ≡ true → length path ≤ MAX_ASKED_PATH → length (leading path) ≤ 500
leads_few path form short =
    go (no_more (bytes_eq path (codes "/")) (starts_with nat_eq path (codes "/")) (list_all is_name (parts_of path)) form)
  where
    tail : List ℕ
    tail = drop 1 path

    count : length (leading path) ≡ slashes tail
    count = led_length (codes "/") tail

    size : length path ≡ 1 + length tail
    size = ap (λ (bs : List ℕ). length bs) (path_starts path form) ∙ omega arith

    go : (bytes_eq path (codes "/") ≡ true) ⊎ (list_all is_name (parts_of path) ≡ true) → length (leading path) ≤ 500
    go (inl root) =
        let none : slashes tail ≡ 0 = ap (λ (p : List ℕ). slashes (drop 1 p)) ((bytes_eq-Decides path (codes "/")).0 root) in
        omega (arith, none, count)
    go (inr names) =
        let c = cut_at tail in
        let p = and_parts (is_name c.first) (list_all is_name c.parts) (ap (list_all is_name) (sym c.is) ∙ names) in
        let long = name_long c.first p.0 in
        let few = c.few p.1 in
        omega (arith, long, few, count, size, short)

once_fewer : (xs : List (List ℕ)) → length (each_once xs) ≤ length xs
once_fewer [] = omega arith
once_fewer (x ∷ xs) = go (list_any (bytes_eq x) xs) (once_fewer xs)
  where
    go : (t : Bool) → length (each_once xs) ≤ length xs → length (cond t (each_once xs) (x ∷ each_once xs)) ≤ length (x ∷ xs)
    go true more = omega (arith, more)
    go false more = omega (arith, more)

led_few : (files : List Entry) → AllByRecursion (λ (e : Entry). is_path e.path ≡ true) files → AllByRecursion IsCopied files
    → length (flat_map (λ (entry : Entry). leading entry.path) files) ≤ 500 * length files
led_few [] forms short = omega arith
led_few (e ∷ files) forms short =
    let more = led_few files forms.1 short.1 in
    let here = leads_few e.path forms.0 short.0.0 in
    omega (arith, more, here, length-append (leading e.path) (flat_map (λ (entry : Entry). leading entry.path) files))

pub few_directories : (files : List Entry) → IsFileMap files → AreCopied files → length (directories files) ≤ 1 + 500 * length files
few_directories files ok copied =
    let led = led_few files (recursion_from_All (λ (e : Entry). is_path e.path ≡ true) files ok.paths)
    (recursion_from_All IsCopied files copied) in
    omega (arith, led, once_fewer (codes "/" ∷ flat_map (λ (entry : Entry). leading entry.path) files))
