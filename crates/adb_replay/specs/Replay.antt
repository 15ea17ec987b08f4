-- How much of a history was replayed: what is kept of it, and what of a capture came to it.
use Rattle.std.specs.Prelude.{ℕ, ◌≡◌, ◌⊎◌, true, false, if◌then◌else◌, List, [], ◌++◌, reverse, Option, Some, None, Result, Ok, Err}
use Rattle.adb_capture.specs.Records.{magic, records_of}
use Rattle.adb_capture.specs.declared.entry.Entry.{Entry}
use Rattle.adb_capture_reader.specs.Reading.{Reading, ahead_of}
use Rattle.adb_history.specs.Machine.{History, state, IsLegal}
use Rattle.adb_history.specs.Kept.{Kept, IsLawful}
use Rattle.adb_history.specs.Drained.{next_out, drain_all, drained_after, drained_from}
use Rattle.adb_history.specs.Accepted.{Accepted, refusal_of, is_input, accept_records}
use Rattle.adb_history.specs.declared.refusal.Refusal.{Refusal}
use Rattle.adb_replay.specs.Keeping.{Out, Keeps, KeepsAs}
use Rattle.adb_replay.specs.Kills.{IsKilled, ReadsToKill}
use Rattle.adb_replay.specs.declared.stop.Stop.{Stop}
use Rattle.adb_replay.specs.declared.stop.Stop.TheVariants.{ReadFault, WriteFault, OutOfMemory, Refused}

-- the records of a history, the oldest first
abbrev pub written_of : History → List ℕ
written_of h = records_of (reverse h)

-- its capture
abbrev pub capture_of : History → List ℕ
capture_of h = magic ++ written_of h

-- a history that a server holds, and that is drained
pub record IsDrained (holds : Kept) (h : History) : Type 0 where
  pub lawful : IsLawful holds h
  pub rests : next_out (state h) ≡ None

-- a history is the first part of another
pub record IsFrontOf (whole all : History) : Type 0 where
  pub more : History
  pub is : all ≡ more ++ whole

-- A history went on to another one, whose capture is kept in place of its own.
pub record GoesOn (result : Result (Unit {0}) Stop) (h whole : History) (before after : Out) : Type 0 where
  pub legal : IsLegal whole
  pub kept : (had : List ℕ) → Keeps had (capture_of h) before → KeepsAs result had (capture_of whole) after

-- Where handing out came to: its end, or a part of the way.
abbrev pub DrainsTo : Result (Unit {0}) Stop → History → History → Kept → Type 0
DrainsTo (Ok done) h whole new = (whole ≡ drain_all h) × IsDrained new whole
DrainsTo (Err why) h whole new = IsFrontOf whole (drain_all h)

-- What was due was handed out.
pub record Drains (result : Result (Unit {0}) Stop) (h : History) (before after : Out) (new : Kept) : Type 0 where
  pub whole : History
  pub on : GoesOn result h whole before after
  pub to : DrainsTo result h whole new

-- the history after a record; a hand-out that was recorded is passed over
abbrev pub history_after : Entry → History → History
history_after e h = if is_input e then drained_after h e else h

-- how far a history came where a record was not replayed to its end
abbrev pub IsReached : Entry → History → History → Type 0
IsReached e h whole = (whole ≡ h) ⊎ ((refusal_of (state h) e ≡ None) × (is_input e ≡ true) × IsFrontOf whole (drained_after h e))

-- a history's state refuses the record of an entry, at its offset
pub record IsRefusedAt (offset : ℕ) (e : Entry) (h : History) (why : Refusal) : Type 0 where
  pub at : why.offset ≡ offset
  pub because : refusal_of (state h) e ≡ Some why.reason

-- Where the replay of a record came to.
abbrev pub EntryGives : Result (Unit {0}) Stop → ℕ → Entry → History → History → Kept → Type 0
EntryGives (Ok done) offset e h whole new = (refusal_of (state h) e ≡ None) × (whole ≡ history_after e h) × IsDrained new whole
EntryGives (Err ReadFault) offset e h whole new = ⊥
EntryGives (Err WriteFault) offset e h whole new = IsReached e h whole
EntryGives (Err OutOfMemory) offset e h whole new = IsReached e h whole
EntryGives (Err (Refused why)) offset e h whole new = IsRefusedAt offset e h why × (whole ≡ h)

-- A record was replayed.
pub record ReplaysEntry (result : Result (Unit {0}) Stop) (offset : ℕ) (e : Entry) (h : History) (before after : Out)
    (new : Kept) : Type 0 where
  pub whole : History
  pub on : GoesOn result h whole before after
  pub gives : EntryGives result offset e h whole new

-- What the history that was reached is of all that a capture gives, by how its replay ended: the whole drained history, or its first part.
abbrev pub Reaches : Result (Unit {0}) Stop → History → Accepted → Type 0
Reaches (Ok done) whole a = drained_from [] a.inputs ≡ whole
Reaches (Err ReadFault) whole a = IsFrontOf whole (drained_from [] a.inputs)
Reaches (Err WriteFault) whole a = IsFrontOf whole (drained_from [] a.inputs)
Reaches (Err OutOfMemory) whole a = IsFrontOf whole (drained_from [] a.inputs)
Reaches (Err (Refused why)) whole a = drained_from [] a.inputs ≡ whole

-- Where the entries that a capture gives make no kill, nothing is left of its source.
abbrev pub IsReadWhole : Accepted → Option (List ℕ) → Type 0
IsReadWhole a left = (state (drained_from [] a.inputs)).stopped ≡ false → left ≡ Some []

-- How a capture's replay ended, and how the capture ends.
abbrev pub EndsAs : Result (Unit {0}) Stop → Accepted → Option (List ℕ) → Type 0
EndsAs (Ok done) a left = (a.refused ≡ None) × IsReadWhole a left
EndsAs (Err ReadFault) a left = Unit {0}
EndsAs (Err WriteFault) a left = Unit {0}
EndsAs (Err OutOfMemory) a left = Unit {0}
EndsAs (Err (Refused why)) a left = a.refused ≡ Some why

-- a moment of a replay: its reader, what the source has left where it tells it, and what is kept
pub record Moment : Type 0 where
  pub reader : Reading
  pub left : Option (List ℕ)
  pub out : Out

abbrev pub moment : Reading → Option (List ℕ) → Out → Moment
moment reader left out = record { reader = reader; left = left; out = out }

-- the bytes of the records that are still to be given, where reader and source tell them
abbrev pub IsAhead : Moment → List ℕ → Type 0
IsAhead m before = ahead_of m.reader m.left ≡ Some before

-- The bytes ahead that were consumed before the source failed: the history that was reached is all that they give.
pub record Consumes (first last : Moment) (whole : History) (before : List ℕ) : Type 0 where
  pub consumed : List ℕ
  pub rest : List ℕ
  pub is : before ≡ consumed ++ rest
  pub left : last.left ≡ Some rest
  pub reached : drained_from [] (accept_records first.reader.offset consumed []).inputs ≡ whole

-- The records ahead were replayed, with no entry before them.
pub record Replays (first last : Moment) (result : Result (Unit {0}) Stop) : Type 0 where
  pub whole : History
  pub on : GoesOn result [] whole first.out last.out
  pub reaches : (before : List ℕ) → IsAhead first before → Reaches result whole (accept_records first.reader.offset before [])
  pub ends : (before : List ℕ) → IsAhead first before → EndsAs result (accept_records first.reader.offset before []) last.left
  pub consumes : result ≡ Err ReadFault → (before : List ℕ) → IsAhead first before → Consumes first last whole before
  pub stops : result ≡ Ok tt → (before : List ℕ) → IsAhead first before → IsKilled (accept_records first.reader.offset before [])
      → ReadsToKill first.reader.offset before last.left
