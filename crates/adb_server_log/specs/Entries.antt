-- Entries that hand bytes out.
use Rattle.std.specs.Prelude.{ℕ, List, [], ⊤}
use Rattle.adb_capture.specs.declared.entry.Entry.{Entry}
use Rattle.adb_capture.specs.declared.entry.Entry.TheVariants.{Put, Send}

-- whether an entry hands bytes out
abbrev pub IsHandOut : Entry → Type 0
IsHandOut (Put c bytes) = ⊤
IsHandOut (Send t bytes) = ⊤
IsHandOut _ = ⊥

abbrev pub bytes_of : Entry → List ℕ
bytes_of (Put c bytes) = bytes
bytes_of (Send t bytes) = bytes
bytes_of _ = []
