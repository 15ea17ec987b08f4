-- Names of a listing.
use Rattle.std.specs.Prelude.{Option, Some, None, ℕ, ◌^◌, ◌≡◌, ◌<◌, ◌≤◌, cond, Bool, true, false, List, [], ◌∷◌, ◌++◌, length}
use Rattle.std.specs.Prelude.{fold, filter, map, All, refl}
use Rattle.std.proofs.Common.{◌∙◌, ap, sym, arith, Ordering}
use Rattle.std.specs.Ordering.{match_ordering}
use Rattle.std.specs.declared.cmp.Ordering.TheVariants.{Less, Equal, Greater}
use Rattle.std.specs.BTreeMap.{insert_entry}
use Rattle.std.specs.List.{AllByRecursion, flat_map}
use Rattle.std.proofs.lemmas.List.{length-take, length-drop, append-nil, append_assoc}
use Rattle.std.proofs.lemmas.List.Elements.{All-from_recursion, recursion_from_All, All-nil}
use Rattle.adb_sync.specs.declared.answer.SyncAnswer.TheVariants as answers
use Rattle.adb_sync.specs.declared.answer.Dirent.{Dirent}
use Rattle.adb_sync.specs.Answers.{answer_bytes}
use Rattle.adb_files.specs.Entries.{Entry}
use Rattle.adb_files.specs.declared.stat.Stat.{Stat}
use Rattle.adb_files.specs.Paths.{path_cmp, is_path, inside, is_below}
use Rattle.adb_files.specs.Files.{IsFileMap}
use Rattle.adb_files.specs.Listing.{slash_in, part_at, rest_below, name_below, stat_below, with_shown, shown_in, dirent_of, listing}
use Rattle.adb_files.specs.Served.{dent_bytes, list_bytes}
use Rattle.adb_files.specs.Service.{TellsUpTo, TellsFront}

-- no name is longer than a path
part_short : (rest : List ℕ) → length (part_at (slash_in rest) rest) ≤ length rest
part_short rest = go (slash_in rest)
  where
    go : (o : Option ℕ) → length (part_at o rest) ≤ length rest
    go None = omega arith
    go (Some i) = omega (arith, length-take i rest)

abbrev HasShortNames : List (List ℕ × Stat) → Type 0
HasShortNames es = AllByRecursion (λ e. length e.0 < 2 ^ 32) es

short-insert : (es : List (List ℕ × Stat)) (k : List ℕ) (v : Stat) → HasShortNames es → length k < 2 ^ 32
    → HasShortNames (insert_entry path_cmp es k v)
short-insert [] k v all h = (h, tt)
short-insert (e ∷ es) k v all h = go (path_cmp k e.0) (short-insert es k v all.1 h)
  where
    go : (o : Ordering) → HasShortNames (insert_entry path_cmp es k v)
        → HasShortNames (match_ordering o ((k, v) ∷ e ∷ es) ((e.0, v) ∷ es) (e ∷ insert_entry path_cmp es k v))
    go Less rest = (h, all)
    go Equal rest = (all.0, all.1)
    go Greater rest = (all.0, rest)

short-shown : (directory : List ℕ) (files : List Entry) (found : List (List ℕ × Stat))
    → AllByRecursion (λ (e : Entry). length e.path < 2 ^ 32) files
    → HasShortNames found → HasShortNames (fold (with_shown directory) found (filter (λ (e : Entry). is_below directory e.path) files))
short-shown directory [] found short all = all
short-shown directory (e ∷ files) found short all = go (is_below directory e.path) (λ es h. short-shown directory files es short.1 h)
  where
    name : length (name_below directory e.path) < 2 ^ 32
    name = omega (arith, part_short (rest_below directory e.path), length-drop (length (inside directory)) e.path, short.0)

    go : (t : Bool) → ((es : List (List ℕ × Stat)) → HasShortNames es
        → HasShortNames (fold (with_shown directory) es (filter (λ (x : Entry). is_below directory x.path) files)))
        → HasShortNames (fold (with_shown directory) found (cond t (e ∷ filter (λ (x : Entry). is_below directory x.path) files)
        (filter (λ (x : Entry). is_below directory x.path) files)))
    go true rest = rest (with_shown directory found e) (short-insert found (name_below directory e.path) (stat_below directory e) all name)
    go false rest = rest found all

dirents_short : (es : List (List ℕ × Stat)) → HasShortNames es → AllByRecursion (λ (d : Dirent). length d.name < 2 ^ 32) (map dirent_of es)
dirents_short [] all = tt
dirents_short (e ∷ es) all = (all.0, dirents_short es all.1)

pub names_short : (directory : List ℕ) (files : List Entry) → IsFileMap files
    → All (λ (d : Dirent). length d.name < 2 ^ 32) (listing directory files)
names_short directory files ok = go (is_path directory)
  where
    go : (t : Bool) → All (λ (d : Dirent). length d.name < 2 ^ 32) (cond t (map dirent_of (shown_in directory files)) [])
    go true = All-from_recursion (λ (d : Dirent). length d.name < 2 ^ 32) (map dirent_of (shown_in directory files))
        (dirents_short (shown_in directory files) (short-shown directory files []
        (recursion_from_All (λ (e : Entry). length e.path < 2 ^ 32) files ok.short) tt))
    go false = All-nil (λ (d : Dirent). length d.name < 2 ^ 32)

-- A loop tells a list entry by entry: nothing yet.
pub list_none : (answer out : List ℕ) → TellsUpTo answer answer out out
list_none answer out = record { said = []; behind = sym (append-nil out); within = refl }

-- One more entry is told: the entries that were left and are left, and what was told before and is told now.
pub record Turn : Type 0 where
  pub entry : Dirent
  pub rest : List Dirent
  pub left : List Dirent
  pub all : rest ≡ entry ∷ left
  pub before : List ℕ
  pub now : List ℕ
  pub is : now ≡ before ++ dent_bytes entry

pub list_step : {answer out : List ℕ} (turn : Turn) → TellsUpTo answer (list_bytes turn.rest) out turn.before
    → TellsUpTo answer (list_bytes turn.left) out turn.now
list_step {answer} {out} turn told =
    let bytes = dent_bytes turn.entry in
    record {
      said = told.said ++ bytes;
      behind = turn.is ∙ (ap (λ (o : List ℕ). o ++ bytes) told.behind ∙ append_assoc out told.said bytes);
      within = told.within
          ∙ (ap (λ (ds : List Dirent). told.said ++ list_bytes ds) turn.all
          ∙ (ap (λ (o : List ℕ). told.said ++ o) (append_assoc bytes (flat_map dent_bytes turn.left) (answer_bytes answers.ListEnd))
          ∙ sym (append_assoc told.said bytes (list_bytes turn.left))));
    }

-- nothing more was told
pub list_same : {answer unsaid out0 out1 out2 : List ℕ} → TellsUpTo answer unsaid out0 out1 → out2 ≡ out1 → TellsFront answer out0 out2
list_same {unsaid = unsaid} told same = (unsaid, record { said = told.said; behind = same ∙ told.behind; within = told.within })
