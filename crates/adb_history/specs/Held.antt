-- What a client holds: no more than what it held before an entry, and what the entry read of it.
use Rattle.std.specs.Prelude.{ℕ, ◌+◌, ◌≤◌, if◌then◌else◌, nat_eq, ◌∷◌, length, Option, Some, None}
use Rattle.adb_capture.specs.declared.entry.Entry.{Entry}
use Rattle.adb_capture.specs.declared.entry.Entry.TheVariants.{Read}
use Rattle.adb_history.specs.Rows.{Client}
use Rattle.adb_history.specs.Machine.{History, state}

-- how many bytes of a client are held
abbrev pub held_of : Option Client → ℕ
held_of None = 0
held_of (Some client) = length client.held

-- how many bytes an entry reads of a client
abbrev pub read_by : ℕ → Entry → ℕ
read_by c (Read n bytes) = if nat_eq n c then length bytes else 0
read_by c _ = 0

-- Of each client no more is held after an entry than before it, but for the bytes that the entry reads of it.
abbrev pub HoldsWhatIsRead : Entry → History → Type 0
HoldsWhatIsRead e older = (c : ℕ) → held_of ((state (e ∷ older)).clients c) ≤ held_of ((state older).clients c) + read_by c e
