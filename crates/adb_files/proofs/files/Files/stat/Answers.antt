use Rattle.std.proofs.Common.{◌≡◌, ◌∙◌, ap, sym, slice_index_or}
use Rattle.adb_files.specs.Entries.{Entry}
use Rattle.adb_files.specs.Listing.{stat_of}
use Rattle.adb_files.proofs.Lookups.{file_where_stands, none_where_fits, stat_plain}
use Rattle.adb_files.proofs.files.Files.stat.Goals as goal

pub returns-in-Ok : goal.returns-in-Ok
returns-in-Ok c =
    let entry = c.index.result.now in
    let here : entry ≡ slice_index_or c.args.self.now c.in-Ok.i entry =
    c.index.ensures ∙ ap (λ xs. slice_index_or xs c.in-Ok.i entry) c.self.view_is in
    c.of.ensures ∙ (ap stat_of c.file.ensures ∙ (ap (λ (e : Entry). stat_of e.file) here
    ∙ sym (stat_plain c.args.self.now c.args.path.now _ (sym c.is_directory.ensures ∙ c.if-is_directory.false)
    (file_where_stands c.in-Ok.ensures entry))))

pub returns-in-Err : goal.returns-in-Err
returns-in-Err c =
    c.nothing.ensures ∙ sym (stat_plain c.args.self.now c.args.path.now _ (sym c.is_directory.ensures ∙ c.if-is_directory.false)
    (none_where_fits c.in-Err.ensures))
