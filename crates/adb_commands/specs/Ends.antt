-- What a command leaves, by its words and by how it ended.
use Rattle.std.specs.Prelude.{ℕ, ◌≡◌, Bool, true, false, List, [], Option, Some, Result, Ok, Err, String}
use Rattle.adb_check.specs.Formed.{formed}
use Rattle.adb_check.specs.declared.capture.Judgement.{Judgement}
use Rattle.adb_replay.specs.Keeping.{CountsReads, is_read_fault, is_write_fault}
use Rattle.adb_replay.specs.Replayed.{ReplaysCapture}
use Rattle.adb_replay.specs.declared.stop.Stop.{Stop}
use Rattle.adb_words.specs.Words.{names_command, texts}
use Rattle.adb_words.specs.declared.command.WordsError.TheVariants as unread
use Rattle.adb_commands.specs.Check.{JudgesSo, WritesSo, stopped_as}
use Rattle.adb_commands.specs.Loads.{GeneratesLines, loses_load}
use Rattle.adb_commands.specs.ScriptInput.{ReadsWithin}
use Rattle.adb_commands.specs.ScriptStop.{stops_reading, stops_writing}
use Rattle.adb_commands.specs.Scripts.{AnswersAs, RefusesAs, first_bad}
use Rattle.adb_commands.specs.Words.{IsNoCommand, IsReplay, IsCheck, IsLoad, IsOfKind}
use Rattle.adb_commands.specs.declared.end.CommandEnd.{CommandEnd}
use Rattle.adb_commands.specs.declared.end.CommandEnd.TheVariants.{NotRun, Replayed, Judged, Generated, Answered}
use Rattle.adb_commands.specs.declared.load_stop.LoadStop.{LoadStop}
use Rattle.adb_commands.specs.declared.script_kind.ScriptKind.{ScriptKind}
use Rattle.adb_commands.specs.declared.script_stop.ScriptStop.{ScriptStop}
use Rattle.adb_commands.specs.declared.script_stop.ScriptStop.TheVariants as stop

-- what is seen of a stream: the bytes that it tells, the count of its faults, and whether it never fails
pub record Sight (A : Type 0) : Type 1 where
  pub told : A → Option (List ℕ)
  pub faults : A → ℕ
  pub steady : A → Type 0

-- Nothing was read, and nothing was written.
abbrev pub IsUntouched : {S K : Type 0} → S → S → K → K → Type 0
IsUntouched source source_new sink sink_new = (source_new ≡ source) × (sink_new ≡ sink)

module _ {S K : Type 0} (s : Sight S) (k : Sight K) (source source_new : S) (sink sink_new : K) where
  -- The capture of the source was replayed.
  abbrev pub LeavesReplay : Result (Unit {0}) Stop → Type 0
  LeavesReplay result = ReplaysCapture (s.told source) (s.told source_new) (k.told sink) (k.told sink_new) result

  -- The history of its capture was judged, and the line of that was written.
  pub record LeavesCheck (result : Result Judgement Stop) : Type 0 where
    pub judges : (capture : List ℕ) → s.told source ≡ Some capture → JudgesSo result (formed capture) (s.told source_new)
    pub writes : (capture had : List ℕ) → s.told source ≡ Some capture → k.told sink ≡ Some had
        → WritesSo result (formed capture) had (k.told sink_new)

  -- A load was made, and its lines were written.
  pub record LeavesLoad (seed streams : ℕ) (result : Result (Unit {0}) LoadStop) : Type 0 where
    pub unread : source_new ≡ source
    pub writes : GeneratesLines result seed streams k.told sink sink_new

  -- A script was read to its end, or as far as a script may go, and its answer lines were written.
  pub record LeavesScript (kind : ScriptKind) (result : Result (Unit {0}) ScriptStop) : Type 0 where
    pub refuses : (script : List ℕ) → s.told source ≡ Some script → RefusesAs result (first_bad kind script)
    pub writes : (script had : List ℕ) → s.told source ≡ Some script → k.told sink ≡ Some had
        → AnswersAs kind result script had (k.told sink_new)
    pub whole : result ≡ Ok tt → (script : List ℕ) → s.told source ≡ Some script → s.told source_new ≡ Some []
    pub within : ReadsWithin (s.told source) (s.told source_new)
    pub unwritten : (line : ℕ) → result ≡ Err (stop.BadLine line) → sink_new ≡ sink

-- The end is one of the command that the words are. Memory is asked for words only if the first is the name of a command.
abbrev pub Leaves : {A S K : Type 0} → List (String A) → CommandEnd → Sight S → Sight K → S → S → K → K → Type 0
Leaves words (NotRun unread.Usage) s k source source_new sink sink_new = IsNoCommand words × IsUntouched source source_new sink sink_new
Leaves words (NotRun unread.OutOfMemory) s k source source_new sink sink_new =
    (names_command (texts words) ≡ true) × IsUntouched source source_new sink sink_new
Leaves words (Replayed result) s k source source_new sink sink_new = IsReplay words
    × LeavesReplay s k source source_new sink sink_new result
Leaves words (Judged result) s k source source_new sink sink_new = IsCheck words × LeavesCheck s k source source_new sink sink_new result
Leaves words (Generated result) s k source source_new sink sink_new =
    (seed streams : ℕ) × IsLoad seed streams words × LeavesLoad s k source source_new sink sink_new seed streams result
Leaves words (Answered result) s k source source_new sink sink_new =
    (kind : ScriptKind) × IsOfKind kind words × LeavesScript s k source source_new sink sink_new kind result

-- What the count of the source's faults did. Where a replay lost what it had gathered, a read may have failed before.
abbrev pub CountsSource : CommandEnd → (Bool → Type 0) → Type 0
CountsSource (NotRun error) counts = counts false
CountsSource (Replayed result) counts = CountsReads result counts
CountsSource (Judged result) counts = counts (is_read_fault (stopped_as result))
CountsSource (Generated result) counts = counts false
CountsSource (Answered result) counts = counts (stops_reading result)

-- whether the sink failed
abbrev pub fails_sink : CommandEnd → Bool
fails_sink (NotRun error) = false
fails_sink (Replayed result) = is_write_fault result
fails_sink (Judged result) = is_write_fault (stopped_as result)
fails_sink (Generated result) = loses_load result
fails_sink (Answered result) = stops_writing result
