use Rattle.std.specs.Prelude.{Some}
use Rattle.adb_serving.proofs.serving.serve_live.Given as goal

abbrev pub ghosts-serve_recorded : goal.ghosts-serve_recorded
ghosts-serve_recorded g a = record { pipe = Some a.begun.out.pipe }
