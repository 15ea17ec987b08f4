-- That a server takes in what a load brings.
use Rattle.std.specs.Prelude.{◌≡◌, false, None}
use Rattle.adb_capture.specs.declared.entry.Entry.{Entry}
use Rattle.adb_history.specs.Machine.{History, state}
use Rattle.adb_history.specs.Accepted.{refusal_of}

-- An entry may come behind a history, and no kill stands.
abbrev pub IsTaken : History → Entry → Type 0
IsTaken h e = (refusal_of (state h) e ≡ None) × ((state h).stopped ≡ false)
