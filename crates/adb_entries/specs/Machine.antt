-- What the calls of a machine make of a history that it holds.
use Rattle.std.specs.Prelude.{ℕ, List, [], ◌≡◌, if◌then◌else◌, ◌∷◌, ◌++◌, Option, Some, None, Result, Ok, Err}
use Rattle.adb_capture.specs.declared.entry.Entry.{Entry}
use Rattle.adb_history.specs.Machine.{History, state}
use Rattle.adb_history.specs.Kept.{Kept, IsLawful}
use Rattle.adb_history.specs.Drained.{next_out, put_to, send_on}
use Rattle.adb_history.specs.Accepted.{refusal_of, is_input}
use Rattle.adb_hub_tables.specs.declared.endings.Ended.{Ended}
use Rattle.adb_hub_tables.specs.Endings.{Log, endings_at}
use Rattle.adb_hub.specs.declared.answers.Handed.{Handed}
use Rattle.adb_hub.specs.declared.answers.Handed.TheVariants as handed
use Rattle.adb_entries.specs.declared.refused.Refused.{Refused}
use Rattle.adb_entries.specs.declared.refused.Refused.TheVariants as refused

-- Some legal history is held. Every hub holds one.
abbrev pub IsHeld : Kept → Type 0
IsHeld holds = (h : History) × IsLawful holds h

-- the history with an entry that came; a hand-out that was recorded is passed over
abbrev pub history_with : Entry → History → History
history_with e h = if is_input e then e ∷ h else h

-- An entry is made, or refused as the history's state refuses it; after want of memory the history is held as before.
abbrev pub Applies : History → Entry → Result (Unit {0}) Refused → Kept → Type 0
Applies h e (Ok done) new = (refusal_of (state h) e ≡ None) × IsLawful new (history_with e h)
Applies h e (Err (refused.Because reason)) new = refusal_of (state h) e ≡ Some reason
Applies h e (Err refused.OutOfMemory) new = IsLawful new h

-- the history with a hand-out, where there is one
abbrev pub after_out : Option Entry → History → History
after_out None h = h
after_out (Some e) h = e ∷ h

-- The next hand-out of a history was made, where there is one.
abbrev pub HandsNext : History → Option Entry → Kept → Type 0
HandsNext h out new = (out ≡ next_out (state h)) × IsLawful new (after_out out h)

-- The first bytes that are due to a client, or on a link, were handed out, or none are due.
abbrev pub Puts : ℕ → History → Option Entry → Kept → Kept → Type 0
Puts c h out old new = (out ≡ put_to (state h).devices c ((state h).clients c)) × IsLawful new (after_out out h)

abbrev pub Sends : ℕ → History → Option Entry → Kept → Kept → Type 0
Sends t h out old new = (out ≡ send_on t ((state h).links t)) × IsLawful new (after_out out h)

-- what was handed out
abbrev pub bytes_of : Handed → Option (List ℕ)
bytes_of (handed.Bytes bytes) = Some bytes
bytes_of handed.Nothing = None
bytes_of handed.Done = None

-- which streams end where an entry is applied; a hand-out that was recorded is passed over
abbrev pub applied_endings : Entry → History → List Ended
applied_endings e h = if is_input e then endings_at e h else []

-- A log has, after what it had, the streams that end there.
abbrev pub ReportsApplied : Entry → History → Log → Log → Type 0
ReportsApplied e h before after = after.list ≡ before.list ++ applied_endings e h
