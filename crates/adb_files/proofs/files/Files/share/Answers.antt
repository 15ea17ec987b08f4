use Rattle.std.proofs.Common.{◌≡◌, ◌∙◌, ap, sym, Some, slice_index_or}
use Rattle.adb_files.specs.Entries.{Entry}
use Rattle.adb_files.proofs.Lookups.{file_where_stands}
use Rattle.adb_files.proofs.files.Files.share.Goals as goal

pub returns-in_ok-share-in-Ok : goal.returns-in_ok-share-in-Ok
returns-in_ok-share-in-Ok c =
    let entry : Entry = c.index.result.now in
    let here : entry ≡ slice_index_or c.args.self.now c.in-Ok.i entry =
    c.index.ensures ∙ ap (λ xs. slice_index_or xs c.in-Ok.i entry) c.self.view_is in
    let found = file_where_stands c.in-Ok.ensures.0 entry
    ∙ (ap (λ (e : Entry). Some e.file) (sym here) ∙ ap Some (sym c.in_ok-share-in-Ok.ensures)) in
    (found, c.in-Ok.ensures.1)
