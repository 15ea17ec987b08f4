-- What a replay keeps for its sink: what went out, and what is gathered behind it.
use Rattle.std.specs.Prelude.{ℕ, ◌≡◌, Bool, true, false, List, [], ◌++◌, Option, Some, Result, Ok, Err}
use Rattle.adb_outside.specs.Bytes.{IsPrefixOf}
use Rattle.adb_capture.specs.Records.{record_of}
use Rattle.adb_capture.specs.declared.entry.Entry.{Entry}
use Rattle.adb_replay.specs.declared.stop.Stop.{Stop}
use Rattle.adb_replay.specs.declared.stop.Stop.TheVariants.{ReadFault, WriteFault, OutOfMemory, Refused}

-- whether the sink failed
abbrev pub is_write_fault : Result (Unit {0}) Stop → Bool
is_write_fault (Ok done) = false
is_write_fault (Err ReadFault) = false
is_write_fault (Err WriteFault) = true
is_write_fault (Err OutOfMemory) = false
is_write_fault (Err (Refused why)) = false

-- whether the source failed
abbrev pub is_read_fault : Result (Unit {0}) Stop → Bool
is_read_fault (Ok done) = false
is_read_fault (Err ReadFault) = true
is_read_fault (Err WriteFault) = false
is_read_fault (Err OutOfMemory) = false
is_read_fault (Err (Refused why)) = false

-- What the count of the source's faults did: at WriteFault a read may have failed too, before what was gathered was lost.
abbrev pub CountsReads : Result (Unit {0}) Stop → (Bool → Type 0) → Type 0
CountsReads (Ok done) counts = counts false
CountsReads (Err ReadFault) counts = counts true
CountsReads (Err WriteFault) counts = (failed : Bool) × counts failed
CountsReads (Err OutOfMemory) counts = counts false
CountsReads (Err (Refused why)) counts = counts false

-- An entry is lost to the sink or to want of memory alone.
abbrev pub IsLoss : Result (Unit {0}) Stop → Type 0
IsLoss (Ok done) = Unit {0}
IsLoss (Err ReadFault) = ⊥
IsLoss (Err WriteFault) = Unit {0}
IsLoss (Err OutOfMemory) = Unit {0}
IsLoss (Err (Refused why)) = ⊥

-- what went out, where the sink tells it, and what is gathered behind it
abbrev pub Out : Type 0
Out = Option (List ℕ) × List ℕ

-- Behind what the sink had a text is kept: a front of it went out, and the rest is gathered.
pub record Keeps (had text : List ℕ) (out : Out) : Type 0 where
  pub growth : List ℕ
  pub is : out.0 ≡ Some (had ++ growth)
  pub whole : growth ++ out.1 ≡ text

-- a front of a text went out
pub record HasFront (had whole : List ℕ) (written : Option (List ℕ)) : Type 0 where
  pub growth : List ℕ
  pub is : written ≡ Some (had ++ growth)
  pub front : IsPrefixOf growth whole

-- a front of a text went out, and nothing is gathered
abbrev pub LosesRest : List ℕ → List ℕ → Out → Type 0
LosesRest had text out = HasFront had text out.0 × (out.1 ≡ [])

-- What became of a text that was to be kept, by how that ended: where the sink failed, a front of it went out.
abbrev pub KeepsAs : Result (Unit {0}) Stop → List ℕ → List ℕ → Out → Type 0
KeepsAs (Ok done) had text out = Keeps had text out
KeepsAs (Err ReadFault) had text out = Keeps had text out
KeepsAs (Err WriteFault) had text out = LosesRest had text out
KeepsAs (Err OutOfMemory) had text out = Keeps had text out
KeepsAs (Err (Refused why)) had text out = Keeps had text out

-- A piece more is kept of a text, but after want of memory.
abbrev pub KeepsMore : Result (Unit {0}) Stop → List ℕ → List ℕ → List ℕ → Out → Type 0
KeepsMore (Ok done) had text piece out = Keeps had (text ++ piece) out
KeepsMore (Err ReadFault) had text piece out = ⊥
KeepsMore (Err WriteFault) had text piece out = LosesRest had (text ++ piece) out
KeepsMore (Err OutOfMemory) had text piece out = Keeps had text out
KeepsMore (Err (Refused why)) had text piece out = ⊥

-- Bytes were kept, or they were not.
abbrev pub KeepsBytes : Result (Unit {0}) Stop → List ℕ → Out → Out → Type 0
KeepsBytes result bytes before after = (had text : List ℕ) → Keeps had text before → KeepsMore result had text bytes after

-- The record of an entry was kept, or it was not.
abbrev pub KeepsEntry : Result (Unit {0}) Stop → Entry → Out → Out → Type 0
KeepsEntry result e before after = KeepsBytes result (record_of e) before after

-- A text that is kept went out: all of it, or where the sink failed a front.
abbrev pub WritesOut : Result (Unit {0}) Stop → List ℕ → List ℕ → Option (List ℕ) → Type 0
WritesOut (Ok done) had text written = written ≡ Some (had ++ text)
WritesOut (Err why) had text written = HasFront had text written

-- a write ends well, or the sink failed
abbrev pub IsWriteEnd : Result (Unit {0}) Stop → Type 0
IsWriteEnd (Ok done) = Unit {0}
IsWriteEnd (Err ReadFault) = ⊥
IsWriteEnd (Err WriteFault) = Unit {0}
IsWriteEnd (Err OutOfMemory) = ⊥
IsWriteEnd (Err (Refused why)) = ⊥
