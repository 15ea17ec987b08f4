use Rattle.std.proofs.Common.{◌≡◌, ◌∙◌, ap, sym, Some, slice_index_or}
use Rattle.adb_files.specs.Entries.{Entry}
use Rattle.adb_files.proofs.Lookups.{file_where_stands, none_where_fits}
use Rattle.adb_files.proofs.files.Files.get.Goals as goal

pub returns-in-Ok-clause-file : goal.returns-in-Ok-clause-file
returns-in-Ok-clause-file c =
    let entry = c.index.result.now in
    let here : entry ≡ slice_index_or c.args.self.now c.in-Ok.i entry =
    c.index.ensures ∙ ap (λ xs. slice_index_or xs c.in-Ok.i entry) c.self.view_is in
    ap Some c.file.ensures ∙ (ap (λ (e : Entry). Some e.file) here ∙ sym (file_where_stands c.in-Ok.ensures entry))

pub returns-in-Err-clause-file : goal.returns-in-Err-clause-file
returns-in-Err-clause-file c = sym (none_where_fits c.in-Err.ensures)
