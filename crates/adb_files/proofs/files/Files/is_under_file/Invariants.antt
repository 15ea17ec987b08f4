use Rattle.std.proofs.Common.{ℕ, ◌≡◌, ◌<◌, take, get_or, None}
use Rattle.adb_files.specs.Files.{file_at}
use Rattle.adb_files.proofs.files.Files.is_under_file.Given as goal

abbrev pub invariant-loop-i : goal.invariant-loop-i
invariant-loop-i l = (k : ℕ) → k < l.i → get_or l.path k 0 ≡ 47 → file_at (take k l.path) l.self ≡ None
