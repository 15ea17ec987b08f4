-- What the fakes in memory are seen as, and what their calls do.
use Rattle.std.specs.Prelude.{ℕ, ◌≡◌, ◌↔◌, List, length, min, Contains}
use Rattle.adb_outside.specs.declared.source.Got.{Got}
use Rattle.adb_outside.specs.declared.source.Got.TheVariants.{Bytes, End, Failed}
use Rattle.adb_outside.specs.declared.sink.Wrote.{Wrote}
use Rattle.adb_outside.specs.declared.sink.Wrote.TheVariants.{Failed as FailedWrite}
use Rattle.adb_outside.specs.Outside.{counted, counted_on}
use Rattle.adb_outside.specs.Source.{is_failed_read}
use Rattle.adb_outside.specs.Sink.{is_failed_write}

-- the numbers of the calls that fail, counted from 1, how many calls there were, and how many failed
pub record Calls : Type 0 where
  pub failing : List ℕ
  pub calls : ℕ
  pub faults : ℕ

-- the bytes to come, and the most that a call gives
pub record Supplied : Type 0 where
  pub coming : List ℕ
  pub piece : ℕ

-- a source in memory: what it supplies, and its calls
pub record MemoryInput : Type 0 where
  pub coming : List ℕ
  pub piece : ℕ
  pub failing : List ℕ
  pub calls : ℕ
  pub faults : ℕ

-- a sink in memory: the bytes that went out, and its calls
pub record MemoryOutput : Type 0 where
  pub out : List ℕ
  pub failing : List ℕ
  pub calls : ℕ
  pub faults : ℕ

-- A read gives as much as the piece, the buffer and the bytes to come allow.
abbrev pub GivesPiece : ℕ → List ℕ → List ℕ → Got → Type 0
GivesPiece piece coming into (Bytes n) = n ≡ min (min (length coming) piece) (length into)
GivesPiece piece coming into End = Unit {0}
GivesPiece piece coming into Failed = Unit {0}

-- A read of a source in memory fails at the calls whose numbers are in the list, and gives as much as it may.
pub record ReadsMemory (before after : MemoryInput) (into : List ℕ) (got : Got) : Type 0 where
  pub fails : (got ≡ Failed) ↔ Contains before.failing after.calls
  pub gives : GivesPiece before.piece before.coming into got
  pub calls : after.calls ≡ counted_on before.calls
  pub faults : after.faults ≡ counted (is_failed_read got) before.faults
  pub failing : after.failing ≡ before.failing
  pub piece : after.piece ≡ before.piece

-- A write to a sink in memory fails at the calls whose numbers are in the list, and where there is no memory. It takes nothing then.
pub record WritesMemory (before after : MemoryOutput) (wrote : Wrote) : Type 0 where
  pub fails : Contains before.failing after.calls → wrote ≡ FailedWrite 0
  pub whole : (taken : ℕ) → wrote ≡ FailedWrite taken → taken ≡ 0
  pub calls : after.calls ≡ counted_on before.calls
  pub faults : after.faults ≡ counted (is_failed_write wrote) before.faults
  pub failing : after.failing ≡ before.failing
