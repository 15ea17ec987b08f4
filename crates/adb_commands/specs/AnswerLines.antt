-- What is kept for a sink of the answer lines of a script.
use Rattle.std.specs.Prelude.{ℕ, ◌≡◌, List, Result, Ok, Err}
use Rattle.adb_outside.specs.Bytes.{IsPrefixOf}
use Rattle.adb_replay.specs.Keeping.{Keeps, LosesRest, Out}
use Rattle.adb_replay.specs.declared.stop.Stop.{Stop}
use Rattle.adb_replay.specs.declared.stop.Stop.TheVariants as lost
use Rattle.adb_commands.specs.declared.script_stop.ScriptStop.{ScriptStop}
use Rattle.adb_commands.specs.declared.script_stop.ScriptStop.TheVariants as stop

-- A front of a text is kept.
pub record KeepsFront (had text : List ℕ) (out : Out) : Type 0 where
  pub kept : List ℕ
  pub front : IsPrefixOf kept text
  pub keeps : Keeps had kept out

-- A whole text is kept; where the sink failed a front of it went out, and where memory ran out a front is kept.
abbrev pub KeepsText : Result (Unit {0}) Stop → List ℕ → List ℕ → Out → Type 0
KeepsText (Ok done) had text out = Keeps had text out
KeepsText (Err lost.ReadFault) had text out = ⊥
KeepsText (Err lost.WriteFault) had text out = LosesRest had text out
KeepsText (Err lost.OutOfMemory) had text out = KeepsFront had text out
KeepsText (Err (lost.Refused why)) had text out = ⊥

-- why a script is not answered whose lines are lost
abbrev pub IsLostBy : Stop → ScriptStop → Type 0
IsLostBy lost.ReadFault why = ⊥
IsLostBy lost.WriteFault why = why ≡ stop.WriteFault
IsLostBy lost.OutOfMemory why = why ≡ stop.OutOfMemory
IsLostBy (lost.Refused refusal) why = ⊥
