-- Devices whose memory ran out: through which calls their files were made.
use Rattle.std.specs.Prelude.{ℕ, ◌≡◌, ◌⊎◌, ◌≤◌, ◌<◌, Bool, true, false, cond, List, [], ◌∷◌, ◌++◌, map, take, drop, Some}
use Rattle.std.proofs.Common.{refl, sym, ◌∙◌, ap, subst, arith, inl, inr, append_assoc}
use Rattle.std.proofs.lemmas.Bool.{cases_lt}
use Rattle.std.proofs.lemmas.List.{append-nil, take-append-drop}
use Rattle.std.proofs.Math.Seq.{take-nil}
use Rattle.adb_outside.specs.Tables.{at}
use Rattle.adb_wire.specs.declared.command.Command.{Command}
use Rattle.adb_wire.specs.declared.command.Command.TheVariants as commands
use Rattle.adb_wire.specs.declared.packets.Packet.{Packet}
use Rattle.adb_files.specs.Entries.{Entry}
use Rattle.adb_files.specs.Requests.{Request}
use Rattle.adb_files.specs.Served.{serve_all}
use Rattle.adb_history.specs.Births.{count_from, is_open}
use Rattle.adb_device_streams.specs.Asked.{Kind, Echoes, Syncs, Shells}
use Rattle.adb_device_streams.specs.Service.{Came, HasFrontOfFiles, bytes_in, came_over, completed_by, sync_answer, sync_files}
use Rattle.adb_device_streams.specs.Stream.{Row}
use Rattle.adb_daemon.specs.Daemon.{CutAt}
use Rattle.adb_daemon.specs.Device.{device_behind, Setting}
use Rattle.adb_daemon.specs.Held.{CutFiles, Fed, Ran}
use Rattle.adb_daemon.specs.Serving.{Serving}
use Rattle.adb_daemon.proofs.Rules.{named_is}
use Rattle.adb_laws_alone.specs.Alone.{Every}
use Rattle.adb_laws_alone.specs.Calls.{AreFirst, Ask, Serves, asks_of, files_after, has_last, up_to_last}
use Rattle.adb_laws_alone.specs.Together.{HasAsked, IsOfLater, RanInPart, RunInPart, rows_after}
use Rattle.adb_laws_alone.proofs.Asked.{asked_both, asked_more, asked_own, asks_more, asks_with, count_both, count_last, count_more}
use Rattle.adb_laws_alone.proofs.Asked.{fresh_by}
use Rattle.adb_laws_alone.proofs.Quiet.{AllLeaveFiles, LeavesFiles, none_completed}
use Rattle.adb_laws_alone.proofs.Through.{are_calls, asks_fed, asks_opened, calls_of, files_both, files_opened_through, map_both, up_both}
use Rattle.adb_laws_alone.proofs.Together.{Runs, open_asks, runs_after, write_asks}
use Rattle.adb_laws_alone.proofs.Watching.{host_of}

-- ---- packets that were not treated
module _ (rows : List Packet → List (ℕ × Row)) (d : ℕ) (first files : List Entry) where
  one_more : (ps : List Packet) (p : Packet) → RanInPart rows d first ps files → RanInPart rows d first (ps ++ p ∷ []) files
  one_more ps p ran = record {
    calls = ran.calls;
    left = ran.left;
    asks = λ l late. asks_more rows l ps (asks_of l ran.calls) p (ran.asks l late);
    asked = asked_more d ps p ran.calls ran.asked;
  }

  all_more : (ps more : List Packet) → RanInPart rows d first ps files → RanInPart rows d first (ps ++ more) files
  all_more ps [] ran = subst (λ (qs : List Packet). RanInPart rows d first qs files) (sym (append-nil ps)) ran
  all_more ps (p ∷ more) ran =
      subst (λ (qs : List Packet). RanInPart rows d first qs files) (append_assoc ps (p ∷ []) more)
      (all_more (ps ++ p ∷ []) more (one_more ps p ran))

-- ---- a prefix of the requests that a write makes whole
abbrev asks_up_to : ℕ → List Came → List ℕ → List Ask
asks_up_to k past piece = map Serves (cond (sync_answer past).ended [] (up_to_last (take k (completed_by (bytes_in past) piece))))

-- these are the first that it asks for
up_to_first : (k : ℕ) (past : List Came) (piece : List ℕ) → AreFirst (asks_up_to k past piece) (asks_fed Syncs past piece)
up_to_first k past piece = go (sync_answer past).ended
  where
    rs : List Request
    rs = completed_by (bytes_in past) piece

    go : (t : Bool) → AreFirst (map Serves (cond t [] (up_to_last (take k (completed_by (bytes_in past) piece)))))
        (map Serves (cond t [] (up_to_last (completed_by (bytes_in past) piece))))
    go true = ([], refl)
    go false =
        let both = up_both (take k rs) (drop k rs) in
        let rest = cond (has_last (take k rs)) [] (up_to_last (drop k rs)) in (
          map Serves rest,
          sym (map_both (up_to_last (take k rs)) rest) ∙ ap (map Serves) (sym both ∙ ap up_to_last (take-append-drop k rs)),
        )

-- and the files after them are those of the device
up_to_files : (k l : ℕ) (past : List Came) (piece : List ℕ) (files : List Entry)
    → sync_files (sync_answer past).ended files (serve_all files (take k (completed_by (bytes_in past) piece)))
    ≡ files_after files (calls_of l (asks_up_to k past piece))
up_to_files k l past piece files = go (sync_answer past).ended
  where
    rs : List Request
    rs = take k (completed_by (bytes_in past) piece)

    go : (t : Bool) → sync_files t files (serve_all files (take k (completed_by (bytes_in past) piece)))
        ≡ files_after files (calls_of l (map Serves (cond t [] (up_to_last (take k (completed_by (bytes_in past) piece))))))
    go true = refl
    go false = sym (are_calls l files rs).left

-- a write of nothing makes none whole
none_up_to : (k : ℕ) (past : List Came) (piece : List ℕ) (files : List Entry) → piece ≡ []
    → sync_files (sync_answer past).ended files (serve_all files (take k (completed_by (bytes_in past) piece))) ≡ files
none_up_to k past piece files none =
    ap (λ (rs : List Request). sync_files (sync_answer past).ended files (serve_all files rs)) is ∙ go (sync_answer past).ended
  where
    is : take k (completed_by (bytes_in past) piece) ≡ []
    is = ap (λ (x : List ℕ). take k (completed_by (bytes_in past) x)) none ∙ (ap (take k) (none_completed (bytes_in past)) ∙ take-nil k)

    go : (t : Bool) → sync_files t files (serve_all files []) ≡ files
    go true = refl
    go false = refl

-- packets that change no file change none where memory runs out
pub quiet_cut : (rest : List Packet) (s : Serving) (files : List Entry) → AllLeaveFiles rest → CutAt rest s files → files ≡ s.files
quiet_cut [] s files quiet same = same
quiet_cut (p ∷ rest) s files quiet cut = go p.command quiet.0 cut
  where
    by : (kind : Kind) (past : List Came) → p.payload ≡ [] → HasFrontOfFiles kind past (came_over p.payload s.files) files → files ≡ s.files
    by Echoes past none left = left
    by Syncs past none left = left.1 ∙ none_up_to left.0 past p.payload s.files none
    by (Shells packets command) past none left = left

    wrote : p.payload ≡ [] → (files ≡ s.files) ⊎ Fed p s files → files ≡ s.files
    wrote none (inl same) = same
    wrote none (inr fed) = by fed.row.kind fed.row.past none fed.left

    go : (command : Command) → LeavesFiles command p → CutFiles command p s files → files ≡ s.files
    go commands.Open leaves same = absurd leaves
    go commands.Wrte leaves same = wrote leaves same
    go commands.Okay leaves same = same
    go commands.Clse leaves same = same
    go commands.Cnxn leaves same = same
    go commands.Auth leaves same = same
    go commands.Stls leaves same = same

-- ---- the packet at which memory ran out
module _ (rows : List Packet → List (ℕ × Row)) (d : ℕ) (first : List Entry) (done : List Packet) (p : Packet)
    (s : Serving) (r : Runs rows d first done s)
    (files : List Entry) where
  as_before : files ≡ s.files → RanInPart rows d first done files
  as_before same = record { calls = r.calls; left = same ∙ r.left; asks = r.asks; asked = r.asked }

  none_done : files ≡ s.files → RanInPart rows d first (done ++ p ∷ []) files
  none_done same = one_more rows d first files done p (as_before same)

  -- some calls more of one stream
  with_calls : (l : ℕ) (asks : List Ask) → files ≡ files_after s.files (calls_of l asks) → d < l → 1 ≤ count_from is_open l (done ++ p ∷ [])
      → HasAsked rows l (done ++ p ∷ []) (asks_of l r.calls ++ asks) → RanInPart rows d first (done ++ p ∷ []) files
  with_calls l asks left past once mine = record {
    calls = r.calls ++ calls_of l asks;
    left = left ∙ (ap (λ (fs : List Entry). files_after fs (calls_of l asks)) r.left ∙ sym (files_both first r.calls (calls_of l asks)));
    asks = asks_with rows d l done p r.calls asks r.asks mine;
    asked = asked_both d (done ++ p ∷ []) r.calls (calls_of l asks) (asked_more d done p r.calls r.asked)
        (asked_own d (done ++ p ∷ []) l asks past once);
  }

  open_part : p.command ≡ commands.Open → d < p.arg0 → count_from is_open p.arg0 done ≡ 0 → (files ≡ s.files) ⊎ Ran p s files
      → RanInPart rows d first (done ++ p ∷ []) files
  open_part asks past fresh (inl same) = none_done same
  open_part asks past fresh (inr ran) =
      with_calls p.arg0 (asks_opened ran.kind) (ran.left ∙ files_opened_through s.files [] p.arg0 ran.kind) past (count_last done p asks)
      (open_asks rows d first done p s r ran.kind asks fresh ran.asked)

  write_part : p.command ≡ commands.Wrte → rows done ≡ s.rows → IsOfLater d commands.Wrte p → (files ≡ s.files) ⊎ Fed p s files
      → RanInPart rows d first (done ++ p ∷ []) files
  write_part writes at_rows of (inl same) = none_done same
  write_part writes at_rows of (inr fed) = by fed.row.kind refl fed.left
    where
      there : at p.arg1 s.rows ≡ Some fed.row
      there = named_is p.arg0 (at p.arg1 s.rows) fed.row fed.live

      host : fed.row.host ≡ p.arg0
      host = host_of p.arg0 fed.row (at p.arg1 s.rows) fed.live

      syncs : fed.row.kind ≡ Syncs → (k : ℕ)
          → files ≡ sync_files (sync_answer fed.row.past).ended s.files
          (serve_all s.files (take k (completed_by (bytes_in fed.row.past) p.payload)))
          → (d < fed.row.host) ⊎ (fed.row.host ≤ d) → RanInPart rows d first (done ++ p ∷ []) files
      syncs kind k is (inl past) =
          let asks = asks_up_to k fed.row.past p.payload in
          let front = up_to_first k fed.row.past p.payload in
          let once = (r.keeps.live p.arg1 fed.row there past).asked in
          let more = count_more fed.row.host done p in
          with_calls fed.row.host asks (is ∙ up_to_files k fed.row.host fed.row.past p.payload s.files) past (omega (arith, once, more))
          (write_asks rows d first done p s r fed.row there (sym host) past writes at_rows asks front.0
          (front.1 ∙ ap (λ (x : Kind). asks_fed x fed.row.past p.payload) (sym kind)))
      syncs kind k is (inr early) = none_done (is ∙ none_up_to k fed.row.past p.payload s.files (nothing of))
        where
          nothing : (p.payload ≡ []) ⊎ (d < p.arg0) → p.payload ≡ []
          nothing (inl none) = none
          nothing (inr past) = absurd (omega (arith, past, host, early))

      by : (kind : Kind) → fed.row.kind ≡ kind → HasFrontOfFiles kind fed.row.past (came_over p.payload s.files) files
          → RanInPart rows d first (done ++ p ∷ []) files
      by Echoes is left = none_done left
      by Syncs is left = syncs is left.0 left.1 (cases_lt d fed.row.host)
      by (Shells packets command) is left = none_done left

  cut_part : (command : Command) → p.command ≡ command → rows done ≡ s.rows → IsOfLater d command p
      → (p.command ≡ commands.Open → count_from is_open p.arg0 done ≡ 0) → CutFiles command p s files
      → RanInPart rows d first (done ++ p ∷ []) files
  cut_part commands.Open is at_rows of fresh cut = open_part is of (fresh is) cut
  cut_part commands.Wrte is at_rows of fresh cut = write_part is at_rows of cut
  cut_part commands.Okay is at_rows of fresh cut = none_done cut
  cut_part commands.Clse is at_rows of fresh cut = none_done cut
  cut_part commands.Cnxn is at_rows of fresh cut = none_done cut
  cut_part commands.Auth is at_rows of fresh cut = none_done cut
  cut_part commands.Stls is at_rows of fresh cut = none_done cut

-- ---- a device
every_front : (d : ℕ) (xs ys : List Packet) → Every (IsOfLater d) (xs ++ ys) → Every (IsOfLater d) xs
every_front d [] ys every = tt
every_front d (x ∷ xs) ys every = (every.0, every_front d xs ys every.1)

every_back : (d : ℕ) (xs ys : List Packet) → Every (IsOfLater d) (xs ++ ys) → Every (IsOfLater d) ys
every_back d [] ys every = every
every_back d (x ∷ xs) ys every = every_back d xs ys every.1

once_front : (l : ℕ) (xs ys : List Packet) → count_from is_open l (xs ++ ys) ≤ 1 → count_from is_open l xs ≤ 1
once_front l xs ys once = let both = count_both l xs ys in omega (arith, both, once)

pub run_in_part : (setting : Setting) → RunInPart setting
run_in_part setting d before ps rest files none every once cut = go rest every once cut
  where
    runs : Runs (rows_after setting before) d (device_behind setting before).serving.files ps (device_behind setting (before ++ ps)).serving
    runs = runs_after setting d before ps none (every_front d ps rest every) (λ l late. once_front l ps rest (once l late))

    go : (more : List Packet) → Every (IsOfLater d) (ps ++ more) → ((l : ℕ) → d < l → count_from is_open l (ps ++ more) ≤ 1)
        → CutAt more (device_behind setting (before ++ ps)).serving files
        → RanInPart (rows_after setting before) d (device_behind setting before).serving.files (ps ++ more) files
    go [] all few same =
        all_more (rows_after setting before) d (device_behind setting before).serving.files files ps []
        (record { calls = runs.calls; left = same ∙ runs.left; asks = runs.asks; asked = runs.asked })
    go (p ∷ more) all few cut_files =
        subst (λ (qs : List Packet). RanInPart (rows_after setting before) d (device_behind setting before).serving.files qs files)
        (append_assoc ps (p ∷ []) more)
        (all_more (rows_after setting before) d (device_behind setting before).serving.files files (ps ++ p ∷ []) more
        (cut_part (rows_after setting before) d (device_behind setting before).serving.files ps p
        (device_behind setting (before ++ ps)).serving runs files
        p.command refl refl (every_back d ps (p ∷ more) all).0 (fresh_by d p more ps (every_back d ps (p ∷ more) all).0 few) cut_files))
