use Rattle.std.specs.Prelude.{Some}
use Rattle.adb_cases_live.proofs.recording.a_record_is_written.Given as goal

abbrev pub ghosts-records : goal.ghosts-records
ghosts-records g a = record { pipe = Some a.begun.out.pipe }
