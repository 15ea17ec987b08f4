-- A device is asked for a stream at the very entry by which that is born (protocol.txt, OPEN).
use Rattle.std.specs.Prelude.{ℕ, ◌≡◌, [], ◌∷◌, Contains, Some, None}
use Rattle.adb_capture.specs.declared.entry.Entry.{Entry}
use Rattle.adb_history.specs.Events.{packets_to}
use Rattle.adb_history.specs.Links.{open_packet}
use Rattle.adb_history.specs.Machine.{History, told_at}
use Rattle.adb_history.specs.Births.{Birth, born}

-- Of each stream that is born by an entry the OPEN becomes due to its device by that entry.
abbrev pub AsksFor : Entry → History → Type 0
AsksFor e older = (l : ℕ) (b : Birth) → born l older ≡ None → born l (e ∷ older) ≡ Some b
    → Contains (packets_to b.link (told_at e older)) (open_packet b.credit l b.service)

-- So each entry of a history asks for its streams at once.
abbrev pub AsksAtOnce : History → Type 0
AsksAtOnce [] = Unit {0}
AsksAtOnce (e ∷ older) = AsksAtOnce older × AsksFor e older
