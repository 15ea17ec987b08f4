-- Files keep their order, their number of bytes and what holds of each when one is put or removed.
use Rattle.std.specs.Prelude.{ℕ, ◌+◌, ◌≡◌, cond, Bool, true, false, List, [], ◌∷◌, ◌++◌, length, map, filter, All, refl}
use Rattle.std.proofs.Common.{arith, Ordering}
use Rattle.std.specs.Ordering.{is_lt}
use Rattle.std.specs.declared.cmp.Ordering.TheVariants.{Less, Equal, Greater}
use Rattle.std.specs.List.{AllByRecursion}
use Rattle.std.specs.List.Sorted.{IsStrictlySortedBy}
use Rattle.std.proofs.lemmas.Cmp.{nat_list_cmp_total}
use Rattle.std.proofs.lemmas.List.Elements.{All-append, All-cons, All-filter}
use Rattle.std.proofs.lemmas.List.Sums.{sum_by-append, sum_by-cons}
use Rattle.adb_files.specs.declared.file.File.{File}
use Rattle.adb_files.specs.Entries.{Entry}
use Rattle.adb_files.specs.Paths.{path_cmp}
use Rattle.adb_files.specs.Files.{before, behind, with_file, without, total, IsRising}

-- a file as an entry of the map
abbrev pub entry_of : List ℕ → File → Entry
entry_of path file = record { path = path; file = file }

-- what the test of an order says
pub less_from_test : (o : Ordering) → is_lt o ≡ true → o ≡ Less
less_from_test Less h = refl
less_from_test Equal h = absurd cc
less_from_test Greater h = absurd cc

-- what holds of each key, through a filter
keys_filter : (p : Entry → Bool) (P : List ℕ → Type 0) (files : List Entry) → AllByRecursion P (map (λ (e : Entry). e.path) files)
    → AllByRecursion P (map (λ (e : Entry). e.path) (filter p files))
keys_filter p P [] all = all
keys_filter p P (e ∷ files) all = go (p e) (keys_filter p P files all.1)
  where
    go : (b : Bool) → AllByRecursion P (map (λ (x : Entry). x.path) (filter p files))
        → AllByRecursion P (map (λ (x : Entry). x.path) (cond b (e ∷ filter p files) (filter p files)))
    go true rest = (all.0, rest)
    go false rest = rest

-- and of each key that passes a test of it
keys_pass : (p : Entry → Bool) (P : List ℕ → Type 0) → ((e : Entry) → p e ≡ true → P e.path) → (files : List Entry)
    → AllByRecursion P (map (λ (e : Entry). e.path) (filter p files))
keys_pass p P says [] = tt
keys_pass p P says (e ∷ files) = go (p e) refl (keys_pass p P says files)
  where
    go : (b : Bool) → p e ≡ b → AllByRecursion P (map (λ (x : Entry). x.path) (filter p files))
        → AllByRecursion P (map (λ (x : Entry). x.path) (cond b (e ∷ filter p files) (filter p files)))
    go true is rest = (says e is, rest)
    go false is rest = rest

keys_append : (P : List ℕ → Type 0) (xs ys : List Entry) → AllByRecursion P (map (λ (e : Entry). e.path) xs)
    → AllByRecursion P (map (λ (e : Entry). e.path) ys)
    → AllByRecursion P (map (λ (e : Entry). e.path) (xs ++ ys))
keys_append P [] ys left right = right
keys_append P (x ∷ xs) ys left right = (left.0, keys_append P xs ys left.1 right)

keys_weaker : (P Q : List ℕ → Type 0) → ((k : List ℕ) → P k → Q k) → (files : List Entry)
    → AllByRecursion P (map (λ (e : Entry). e.path) files)
    → AllByRecursion Q (map (λ (e : Entry). e.path) files)
keys_weaker P Q says [] all = tt
keys_weaker P Q says (e ∷ files) all = (says e.path all.0, keys_weaker P Q says files all.1)

-- a part of rising files rises
rising-filter : (p : Entry → Bool) (files : List Entry) → IsRising files → IsRising (filter p files)
unfolding IsStrictlySortedBy
rising-filter p [] up = up
rising-filter p (e ∷ files) up = go (p e) (rising-filter p files up.1)
  where
    go : (b : Bool) → IsRising (filter p files) → IsRising (cond b (e ∷ filter p files) (filter p files))
    go true rest = (keys_filter p (λ k. path_cmp e.path k ≡ Less) files up.0, rest)
    go false rest = rest

rising-cons : (e : Entry) (files : List Entry) → AllByRecursion (λ k. path_cmp e.path k ≡ Less)
    (map (λ (x : Entry). x.path) files) → IsRising files
    → IsRising (e ∷ files)
unfolding IsStrictlySortedBy
rising-cons e files less up = (less, up)

-- rising files behind rising files
rising-append : (xs ys : List Entry) → IsRising xs → IsRising ys
    → AllByRecursion (λ k. AllByRecursion (λ q. path_cmp k q ≡ Less) (map (λ (e : Entry). e.path) ys))
    (map (λ (e : Entry). e.path) xs) → IsRising (xs ++ ys)
unfolding IsStrictlySortedBy
rising-append [] ys up_x up_y less = up_y
rising-append (x ∷ xs) ys up_x up_y less =
    (keys_append (λ k. path_cmp x.path k ≡ Less) xs ys up_x.0 less.0, rising-append xs ys up_x.1 up_y less.1)

less_keys : (path : List ℕ) (files : List Entry) → AllByRecursion (λ k. path_cmp k path ≡ Less)
    (map (λ (e : Entry). e.path) (before path files))
less_keys path files =
    keys_pass (λ (e : Entry). is_lt (path_cmp e.path path)) (λ k. path_cmp k path ≡ Less)
    (λ e h. less_from_test (path_cmp e.path path) h) files

more_keys : (path : List ℕ) (files : List Entry) → AllByRecursion (λ k. path_cmp path k ≡ Less)
    (map (λ (e : Entry). e.path) (behind path files))
more_keys path files =
    keys_pass (λ (e : Entry). is_lt (path_cmp path e.path)) (λ k. path_cmp path k ≡ Less)
    (λ e h. less_from_test (path_cmp path e.path) h) files

across : (path : List ℕ) (files : List Entry) → AllByRecursion
    (λ k. AllByRecursion (λ q. path_cmp k q ≡ Less) (map (λ (e : Entry). e.path) (behind path files)))
    (map (λ (e : Entry). e.path) (before path files))
across path files =
    keys_weaker (λ k. path_cmp k path ≡ Less)
    (λ k. AllByRecursion (λ q. path_cmp k q ≡ Less) (map (λ (e : Entry). e.path) (behind path files)))
    (λ k l. keys_weaker (λ q. path_cmp path q ≡ Less) (λ q. path_cmp k q ≡ Less)
    (λ q m. nat_list_cmp_total.trans k path q l m) (behind path files)
    (more_keys path files))
    (before path files) (less_keys path files)

pub rising-without : (path : List ℕ) (files : List Entry) → IsRising files → IsRising (without path files)
rising-without path files up =
    rising-append (before path files) (behind path files) (rising-filter _ files up) (rising-filter _ files up) (across path files)

pub rising-with : (path : List ℕ) (file : File) (files : List Entry) → IsRising files → IsRising (with_file path file files)
rising-with path file files up =
    rising-append (before path files) (entry_of path file ∷ behind path files) (rising-filter _ files up)
    (rising-cons (entry_of path file) (behind path files) (more_keys path files) (rising-filter _ files up))
    (both (before path files) (less_keys path files) (across path files))
  where
    both : (xs : List Entry) → AllByRecursion (λ k. path_cmp k path ≡ Less) (map (λ (e : Entry). e.path) xs)
        → AllByRecursion
        (λ k. AllByRecursion (λ q. path_cmp k q ≡ Less) (map (λ (e : Entry). e.path) (behind path files)))
        (map (λ (e : Entry). e.path) xs)
        → AllByRecursion (λ k. AllByRecursion (λ q. path_cmp k q ≡ Less) (path ∷ map (λ (e : Entry). e.path) (behind path files)))
        (map (λ (e : Entry). e.path) xs)
    both [] less far = tt
    both (x ∷ xs) less far = ((less.0, far.0), both xs less.1 far.1)

pub total-with : (path : List ℕ) (file : File) (files : List Entry)
    → total (with_file path file files) ≡ total (without path files) + length file.bytes
total-with path file files =
    let size = λ (e : Entry). length e.file.bytes in
    omega (
      arith,
      sum_by-append size (before path files) (entry_of path file ∷ behind path files),
      sum_by-cons size (entry_of path file)
          (behind path files),
      sum_by-append size (before path files) (behind path files),
    )

-- what holds of each file, of those with a new one, and of those without one
pub all-with : (P : Entry → Type 0) (path : List ℕ) (file : File) (files : List Entry) → All P files → P (entry_of path file)
    → All P (with_file path file files)
all-with P path file files all here =
    All-append P (before path files) (entry_of path file ∷ behind path files) (All-filter (λ e. is_lt (path_cmp e.path path)) P files all)
    (All-cons P (entry_of path file) (behind path files) here (All-filter (λ e. is_lt (path_cmp path e.path)) P files all))

pub all-without : (P : Entry → Type 0) (path : List ℕ) (files : List Entry) → All P files → All P (without path files)
all-without P path files all =
    All-append P (before path files) (behind path files) (All-filter (λ e. is_lt (path_cmp e.path path)) P files all)
    (All-filter (λ e. is_lt (path_cmp path e.path)) P files all)
