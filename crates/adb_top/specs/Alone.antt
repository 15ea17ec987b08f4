-- All that a run of the commands that neither serve nor dial promises, as one fact.
use Rattle.std.specs.Prelude.{ℕ, ◌≡◌, ◌≢◌, ◌⊎◌, List, String}
use Rattle.adb_outside.specs.Outside.{Counts}
use Rattle.adb_replay.specs.Kills.{StopsAtKill}
use Rattle.adb_commands.specs.Ends.{CountsSource, Leaves, Sight, fails_sink}
use Rattle.adb_commands.specs.Loads.{IsPromised, made}
use Rattle.adb_commands.specs.ScriptInput.{ReadsWithin}
use Rattle.adb_commands.specs.Words.{IsNoCommand, IsReplay, IsCheck, IsLoad, IsLocal, IsCopy, IsScript}
use Rattle.adb_commands.specs.declared.end.CommandEnd.{CommandEnd}
use Rattle.adb_commands.specs.declared.script_kind.ScriptKind.TheVariants as kinds
use Rattle.adb_top.specs.Commands.{TellsCommand}
use Rattle.adb_top.specs.Faults.{Rose, Stood, IsFaultless}
use Rattle.adb_top.specs.Run.{IsUnheard, WritesHistory, WritesRead, WritesLegal, WritesWhole, EndsCapture, NamesRefusal, Completes}
use Rattle.adb_top.specs.Run.{WritesLoad, IsLoadEnd, EndsCheck, WritesVerdict, NamesForm, CompletesCheck}
use Rattle.adb_top.specs.Run.{WritesAnswers, EndsScript, NamesLine, CompletesScript}
use Rattle.adb_top.specs.declared.status.Status.{Status}
use Rattle.adb_top.specs.declared.status.Status.TheVariants.{Done, Usage, ReadFault, WriteFault, BadCapture, OutOfMemory, RecordFault}
use Rattle.adb_top.specs.declared.status.Status.TheVariants.{DoorFault, BadScript, Refused, BadAnswer, PortFault, TooLarge, Illegal}

-- No count rose.
pub record NoneRose {S K N : Type 0} (s : Sight S) (k : Sight K) (n : Sight N) (source source_new : S)
    (sink sink_new : K) (note note_new : N) : Type 0 where
  pub read : ¬ Rose s.faults source source_new
  pub write : ¬ Rose k.faults sink sink_new
  pub noted : ¬ Rose n.faults note note_new

-- How a command ended, what that left, which streams failed, and what the note then has of it: the line of the end,
-- or a prefix of it if the note failed.
pub record EndsAlone {A S K N : Type 0} (words : List (String A)) (status : Status) (s : Sight S) (k : Sight K) (n : Sight N)
    (source source_new : S) (sink sink_new : K) (note note_new : N) : Type 0 where
  pub end : CommandEnd
  pub leaves : Leaves words end s k source source_new sink sink_new
  pub reads : CountsSource end (Counts s.steady s.faults source source_new)
  pub writes : Counts k.steady k.faults sink sink_new (fails_sink end)
  pub tells : TellsCommand end status n note note_new

-- Each field is a promise of `run_alone`.
pub record RunsAlone {A S K N : Type 0} (words : List (String A)) (status : Status) (s : Sight S) (k : Sight K) (n : Sight N)
    (source source_new : S) (sink sink_new : K) (note note_new : N) : Type 0 where
  pub notes : EndsAlone words status s k n source source_new sink sink_new note note_new
  pub usage : IsNoCommand words → IsUnheard words status
  pub untouched : IsNoCommand words → (source_new ≡ source) × (sink_new ≡ sink)
  pub command : status ≡ Usage → IsNoCommand words
  pub writes : IsReplay words → WritesHistory status (s.told source) k.told sink sink_new
  pub consumed : IsReplay words → status ≡ ReadFault → WritesRead s.told source source_new k.told sink sink_new
  pub legal : IsReplay words → WritesLegal k.told sink sink_new
  pub whole : IsReplay words → status ≢ WriteFault → WritesWhole k.told sink sink_new
  pub ends : IsReplay words → EndsCapture status s.told source source_new
  pub killed : IsReplay words → status ≡ Done → StopsAtKill s.told source source_new
  pub load : (seed streams : ℕ) → IsLoad seed streams words → WritesLoad status seed streams k.told sink sink_new
  pub ends_load : (seed streams : ℕ) → IsLoad seed streams words → IsLoadEnd status
  pub unread : (seed streams : ℕ) → IsLoad seed streams words → source_new ≡ source
  pub promised : (seed streams : ℕ) → IsLoad seed streams words → IsPromised (made seed streams)
  pub judged : IsCheck words → WritesVerdict status s.told source source_new k.told sink sink_new
  pub ends_check : IsCheck words → EndsCheck status s.told source source_new
  pub illegal : status ≡ Illegal → IsCheck words
  pub answers : (seed : ℕ) → IsLocal seed words → WritesAnswers kinds.Local status (s.told source) k.told sink sink_new
  pub copies : (seed : ℕ) → IsCopy seed words → WritesAnswers kinds.Copy status (s.told source) k.told sink sink_new
  pub ends_script : (seed : ℕ) → IsLocal seed words → EndsScript kinds.Local status s.told source source_new
  pub ends_copy : (seed : ℕ) → IsCopy seed words → EndsScript kinds.Copy status s.told source source_new
  pub within : (seed : ℕ) → IsLocal seed words → ReadsWithin (s.told source) (s.told source_new)
  pub within_copy : (seed : ℕ) → IsCopy seed words → ReadsWithin (s.told source) (s.told source_new)
  pub bad_capture : status ≡ BadCapture → IsReplay words ⊎ IsCheck words
  pub bad_script : status ≡ BadScript → IsScript words
  pub unwritten : status ≡ BadScript → sink_new ≡ sink
  pub serves : (status ≢ RecordFault) × (status ≢ DoorFault)
  pub dials : (status ≢ Refused) × (status ≢ BadAnswer) × (status ≢ PortFault) × (status ≢ TooLarge)
  pub names : IsReplay words → NamesRefusal status (s.told source) n.told note note_new
  pub names_form : IsCheck words → NamesForm status (s.told source) n.told note note_new
  pub names_line : (seed : ℕ) → IsLocal seed words → NamesLine kinds.Local status (s.told source) n.told note note_new
  pub names_copied : (seed : ℕ) → IsCopy seed words → NamesLine kinds.Copy status (s.told source) n.told note note_new
  pub reads : status ≡ ReadFault → IsReplay words ⊎ IsCheck words ⊎ IsScript words
  pub read_fault : status ≡ ReadFault → Rose s.faults source source_new
  pub write_fault : status ≡ WriteFault → Rose k.faults sink sink_new ⊎ Rose n.faults note note_new
  pub source_stood : IsFaultless status → Stood s.faults source source_new
  pub sink_stood : status ≢ WriteFault → Stood k.faults sink sink_new
  pub note_stood : status ≢ WriteFault → Stood n.faults note note_new
  pub never_failing : s.steady source → k.steady sink → n.steady note → IsFaultless status
  pub complete : IsReplay words → NoneRose s k n source source_new sink sink_new note note_new → Completes status (s.told source)
  pub checks : IsCheck words → NoneRose s k n source source_new sink sink_new note note_new → CompletesCheck status (s.told source)
  pub makes : (seed streams : ℕ) → IsLoad seed streams words → ¬ Rose k.faults sink sink_new → ¬ Rose n.faults note note_new
      → (status ≡ Done) ⊎ (status ≡ OutOfMemory)
  pub runs : (seed : ℕ) → IsLocal seed words → NoneRose s k n source source_new sink sink_new note note_new
      → CompletesScript kinds.Local status (s.told source)
  pub runs_copy : (seed : ℕ) → IsCopy seed words → NoneRose s k n source source_new sink sink_new note note_new
      → CompletesScript kinds.Copy status (s.told source)
