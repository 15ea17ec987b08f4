-- Files of which the sizes are kept: what is known of the one at a path, and one more.
use Rattle.std.proofs.Common.{ℕ, ◌+◌, ◌*◌, ◌^◌, ◌≡◌, ◌<◌, ◌≤◌, Bool, true, false, cond, List, [], ◌∷◌, length, Some, None, option_map}
use Rattle.std.proofs.Common.{is_some}
use Rattle.std.proofs.Common.{Result, Ok, Err, refl, ◌∙◌, ap, sym, subst, arith, append-nil}
use Rattle.std.specs.Prelude.{All, IfOk, OnErr, bytes_eq}
use Rattle.std.specs.List.{find}
use Rattle.std.specs.Ordering.{is_lt}
use Rattle.std.proofs.lemmas.List.{length-map}
use Rattle.std.proofs.lemmas.List.Elements.{All-head, All-tail}
use Rattle.std.proofs.lemmas.List.Sums.{sum_by-append, sum_by-cons, sum_by-le}
use Rattle.std.proofs.lemmas.Slice.Eq.{bytes_eq-Decides}
use Rattle.byteorder.specs.Endian.{little_bytes, little_number}
use Rattle.byteorder.specs.Numbers.{length-bytes_low_first, little_number-reads_back}
use Rattle.adb_files.specs.declared.file.File.{File}
use Rattle.adb_files.specs.declared.files.TheConstants.{MAX_STORED}
use Rattle.adb_files.specs.Entries.{Entry}
use Rattle.adb_files.specs.Files.{before, behind, file_at, put_refusal, total, with_file, without}
use Rattle.adb_files.specs.Paths.{path_cmp}
use Rattle.adb_files.proofs.Rising.{all-with, entry_of, total-with}
use Rattle.adb_script.specs.Pattern.{pattern}
use Rattle.adb_script.specs.declared.script.TheConstants.{MAX_LINES}
use Rattle.adb_script.specs.declared.word.TheConstants.{MAX_WORD}
use Rattle.adb_script.proofs.Patterns.{length_pattern}
use Rattle.adb_trees.specs.declared.line.FileLine.{FileLine}
use Rattle.adb_trees.specs.declared.tree.TheConstants.{MAX_TREE}
use Rattle.adb_trees.specs.NamedTree.{AreKept, named_entry, named_files}
use Rattle.adb_trees.specs.Trees.{Puts, PutsLine, file_of}
use Rattle.adb_trees.proofs.AllNamed.{never_both}
use Rattle.adb_trees.proofs.Shadows.{put_refusal-kept, with_file-kept}

-- what holds of each file holds of the one at a path
pub found : (P : Entry → Type 0) (path : List ℕ) (files : List Entry) (file : File) → All P files
    → file_at path files ≡ Some file → P (entry_of path file)
found P path [] file all is = absurd (let clash : None ≡ Some file = is in cc)
found P path (e ∷ files) file all is = go (bytes_eq e.path path) refl (found P path files file (All-tail P e files all)) is
  where
    go : (b : Bool) → bytes_eq e.path path ≡ b → (file_at path files ≡ Some file → P (entry_of path file))
        → option_map (λ (x : Entry). x.file) (cond b (Some e) (find (λ (x : Entry). bytes_eq x.path path) files))
        ≡ Some file → P (entry_of path file)
    go true at more is =
        let there : e.path ≡ path = (bytes_eq-Decides e.path path).0 at in
        let same : e.file ≡ file = cc in
        subst (λ (p : List ℕ). P (entry_of p file)) there (subst (λ (f : File). P (entry_of e.path f)) same (All-head P e files all))
    go false at more is = more is

-- the files at other paths have no more bytes than all
parts_less : (path : List ℕ) (files : List Entry) → total (before path files) + total (behind path files) ≤ total files
parts_less path [] = omega arith
parts_less path (e ∷ files) = go (is_lt (path_cmp e.path path)) refl (is_lt (path_cmp path e.path)) refl (parts_less path files)
  where
    all : total (e ∷ files) ≡ length e.file.bytes + total files
    all = sum_by-cons (λ (x : Entry). length x.file.bytes) e files

    first : total (e ∷ before path files) ≡ length e.file.bytes + total (before path files)
    first = sum_by-cons (λ (x : Entry). length x.file.bytes) e (before path files)

    last : total (e ∷ behind path files) ≡ length e.file.bytes + total (behind path files)
    last = sum_by-cons (λ (x : Entry). length x.file.bytes) e (behind path files)

    go : (a : Bool) → is_lt (path_cmp e.path path) ≡ a → (b : Bool) → is_lt (path_cmp path e.path) ≡ b
        → total (before path files) + total (behind path files) ≤ total files
        → total (cond a (e ∷ before path files) (before path files))
        + total (cond b (e ∷ behind path files) (behind path files)) ≤ total (e ∷ files)
    go true less true more few = absurd (let other = never_both e.path path less in cc)
    go true less false more few = omega (arith, few, all, first)
    go false less true more few = omega (arith, few, all, last)
    go false less false more few = omega (arith, few, all)

pub less_without : (path : List ℕ) (files : List Entry) → total (without path files) ≤ total files
less_without path files =
    let parts = sum_by-append (λ (x : Entry). length x.file.bytes) (before path files) (behind path files) in
    omega (arith, parts, parts_less path files)

-- ---- the file of a line is kept
module _ (line : FileLine) (bytes : List ℕ) (old : List Entry) (is : bytes ≡ little_bytes 4 line.size) (size : line.size < 2 ^ 32)
    (kept : AreKept old) (word : length line.path ≤ MAX_WORD) (room : total (named_files old) + line.size ≤ MAX_TREE)
    (few : length (named_files old) < MAX_LINES) where
  abbrev kept_file : File
  kept_file = record { mode = line.mode; mtime = line.mtime; bytes = bytes }

  width : length bytes ≡ 4
  width = ap (λ (bs : List ℕ). length bs) is ∙ length-bytes_low_first 0 4 line.size

  reads : little_number 4 bytes ≡ line.size
  reads =
      ap (little_number 4) is
      ∙ subst (λ (bs : List ℕ). little_number 4 bs ≡ line.size) (append-nil (little_bytes 4 line.size))
      (little_number-reads_back 4 line.size [] size)

  named : named_entry (entry_of line.path kept_file) ≡ entry_of line.path (file_of line)
  named = ap (λ (n : ℕ). entry_of line.path (record { mode = line.mode; mtime = line.mtime; bytes = pattern 0 n })) reads

  stored : named_files (with_file line.path kept_file old) ≡ with_file line.path (file_of line) (named_files old)
  stored = sym (with_file-kept named_entry (λ e. refl) line.path kept_file (file_of line) old named)

  room_after : total (named_files (with_file line.path kept_file old)) ≤ MAX_TREE
  room_after =
      let all : total (named_files (with_file line.path kept_file old))
      ≡ total (with_file line.path (file_of line) (named_files old)) = ap total stored in
      omega (
        arith,
        all,
        total-with line.path (file_of line) (named_files old),
        less_without line.path (named_files old),
        length_pattern 0 line.size,
        room,
      )

  kept_after : AreKept (with_file line.path kept_file old)
  kept_after = record {
    sizes = all-with (λ (e : Entry). length e.file.bytes ≡ 4) line.path kept_file old kept.sizes width;
    words = all-with (λ (e : Entry). length e.path ≤ MAX_WORD) line.path kept_file old kept.words word;
    room = room_after;
  }

  fits : total (without line.path old) + length bytes ≤ MAX_STORED
  fits =
      let each : total old ≤ length old * 4 =
      sum_by-le (λ (e : Entry). length e.file.bytes) 4 old (λ k d lt. let four = kept.sizes k d lt in omega (arith, four)) in
      omega (arith, each, less_without line.path old, width, length-map old named_entry, few)

  same_refusal : put_refusal (named_files old) line.path line.size ≡ put_refusal old line.path (length bytes)
  same_refusal =
      put_refusal-kept named_entry (λ e. refl) line.path (length bytes) line.size old fits
      (omega (arith, less_without line.path (named_files old), room))

  puts_named : (put : Bool) (new : List Entry) → Puts put line.path kept_file old new
      → PutsLine put line (named_files old) (named_files new)
  puts_named true new p = (same_refusal ∙ p.0, ap named_files p.1 ∙ stored)
  puts_named false new p = (ap is_some same_refusal ∙ p.0, ap named_files p.1)

  puts_kept : (put : Bool) (new : List Entry) → Puts put line.path kept_file old new → AreKept new
  puts_kept true new p = subst AreKept (sym p.1) kept_after
  puts_kept false new p = subst AreKept (sym p.1) kept

  pub named_put : {E : Type 0} (r : Result Bool E) (path : List ℕ) (new : List Entry) → path ≡ line.path
      → IfOk r (λ put. Puts put path kept_file old new) → IfOk r (λ put. PutsLine put line (named_files old) (named_files new))
  named_put (Ok put) path new at p = puts_named put new (subst (λ (q : List ℕ). Puts put q kept_file old new) at p)
  named_put (Err e) path new at p = p

  pub still_kept : {E : Type 0} (r : Result Bool E) (path : List ℕ) (new : List Entry) → path ≡ line.path
      → IfOk r (λ put. Puts put path kept_file old new) → OnErr r (new ≡ old) → AreKept new
  still_kept (Ok put) path new at p same = puts_kept put new (subst (λ (q : List ℕ). Puts put q kept_file old new) at p)
  still_kept (Err e) path new at p same = subst AreKept (sym same) kept

pub same_named : {E : Type 0} (r : Result Bool E) (old new : List Entry) → OnErr r (new ≡ old) → OnErr r (named_files new ≡ named_files old)
same_named (Ok put) old new same = same
same_named (Err e) old new same = ap named_files same
