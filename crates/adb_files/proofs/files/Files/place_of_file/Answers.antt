use Rattle.std.proofs.Common.{sym, ◌∙◌}
use Rattle.adb_files.proofs.Lookups.{file_where_stands, none_where_fits, missing, present, no_entry}
use Rattle.adb_files.proofs.files.Files.place_of_file.Goals as goal

pub returns-in-Ok : goal.returns-in-Ok
returns-in-Ok c = (
  c.in-Ok.ensures,
  present c.args.self.now c.args.path.now _ (sym c.is_path.ensures ∙ c.if-not-is_path.false)
      (sym c.is_directory.ensures ∙ c.if-is_directory.false) (file_where_stands c.in-Ok.ensures no_entry),
)

pub returns-in-Err : goal.returns-in-Err
returns-in-Err c =
    missing c.args.self.now c.args.path.now (sym c.is_path.ensures ∙ c.if-not-is_path.false)
    (sym c.is_directory.ensures ∙ c.if-is_directory.false)
    (none_where_fits c.in-Err.ensures)
