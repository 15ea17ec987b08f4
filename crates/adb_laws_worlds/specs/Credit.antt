-- Streams of a server without credit in bytes, and a server with one device.
use Rattle.std.specs.Prelude.{ℕ, ◌≡◌, ◌≤◌, false, Some}
use Rattle.adb_stream.specs.declared.row.Stream.{Stream}
use Rattle.adb_history.specs.Book.{plugged_count}
use Rattle.adb_history.specs.Births.{Birth, born}
use Rattle.adb_history.specs.Machine.{History, state}

-- no stream of the first link has credit
abbrev pub FirstArePlain : History → Type 0
FirstArePlain h = (l : ℕ) (b : Birth) → born l h ≡ Some b → b.link ≡ 1 → b.credit ≡ false

-- one device was plugged in, at most
abbrev pub HasOneDevice : History → Type 0
HasOneDevice h = plugged_count h ≤ 1

-- each stream that lives is on the first link
abbrev pub LiveOnFirst : History → Type 0
LiveOnFirst h = (l : ℕ) (x : Stream) → (state h).streams l ≡ Some x → x.link ≡ 1
