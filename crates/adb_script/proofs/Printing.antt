-- What stats and lists print.
use Rattle.std.proofs.Common.{ℕ, ◌≡◌, ◌≤◌, List, length, refl, ◌∙◌, ap, arith}
use Rattle.adb_sync.specs.declared.answer.Dirent.{Dirent}
use Rattle.adb_sync_client.specs.declared.step.StatValue.{StatValue}
use Rattle.adb_sync_client.specs.declared.step.Step.{Step}
use Rattle.adb_sync_client.specs.Values.{list_value, stat_value}
use Rattle.adb_files.specs.Entries.{Entry}
use Rattle.adb_files.specs.Files.{IsFileMap}
use Rattle.adb_files.specs.Listing.{listing}
use Rattle.adb_files.specs.Served.{Served, stat_in}
use Rattle.adb_script.specs.Answers.{line_answer, listed_line, stat_line}
use Rattle.adb_script.specs.Lines.{Asks, Lists, Stats}
use Rattle.adb_script.specs.Meanings.{listed_over, stat_over}
use Rattle.adb_script.specs.declared.word.TheConstants.{MAX_WORD}
use Rattle.adb_script.proofs.Listed.{list_read, list_served, stat_read, stat_served}
use Rattle.adb_script.proofs.Shown.{listing_words, stat_words}

pub stat_printed : (files : List Entry) (number : ℕ) (path : List ℕ) → IsFileMap files → length path ≤ MAX_WORD
    → line_answer files number (Asks (Stats path)) ≡ stat_over files path
stat_printed files number path ok short =
    ap (λ (s : Served). record { files = s.files; text = stat_line path (stat_value s.answer) })
    (stat_served files path (omega (arith, short)))
    ∙ ap (λ (step : Step StatValue). record { files = files; text = stat_line path step })
    (stat_read (stat_in files path) (stat_words files path ok))

pub list_printed : (files : List Entry) (number : ℕ) (path : List ℕ) → IsFileMap files → length path ≤ MAX_WORD
    → line_answer files number (Asks (Lists path)) ≡ listed_over files path
list_printed files number path ok short =
    ap (λ (s : Served). record { files = s.files; text = listed_line path (list_value s.answer) })
    (list_served files path (omega (arith, short)))
    ∙ ap (λ (step : Step (List Dirent)). record { files = files; text = listed_line path step })
    (list_read (listing path files) (listing_words files path ok))
