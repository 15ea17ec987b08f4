-- What the status of a run says, by how its command ended.
use Rattle.std.proofs.Common.{ℕ, ◌≡◌, ◌≢◌, ◌⊎◌, true, false, List, [], ◌++◌, Option, Some, None, Result, Ok, Err, refl, sym, ◌∙◌, ap, subst}
use Rattle.std.proofs.Common.{inl, inr}
use Rattle.std.proofs.lemmas.List.{append-nil}
use Rattle.std.specs.Prelude.{String}
use Rattle.adb_check.proofs.Places.{no_legal}
use Rattle.adb_check.specs.Formed.{Formed, history_of}
use Rattle.adb_check.specs.declared.capture.Judgement.{Judgement}
use Rattle.adb_check.specs.declared.capture.Judgement.TheVariants as judged
use Rattle.adb_check.specs.declared.verdict.Rule.{Rule}
use Rattle.adb_history.specs.Accepted.{Accepted}
use Rattle.adb_history.specs.declared.refusal.Refusal.{Refusal}
use Rattle.adb_outside.specs.Sink.{TellsWrite}
use Rattle.adb_outside.specs.declared.sink.Wrote.TheVariants.{All}
use Rattle.adb_replay.specs.Keeping.{HasFront}
use Rattle.adb_replay.specs.Replay.{EndsAs}
use Rattle.adb_replay.specs.Replayed.{WritesText}
use Rattle.adb_replay.specs.declared.stop.Stop.{Stop}
use Rattle.adb_replay.specs.declared.stop.Stop.TheVariants as stop
use Rattle.adb_words.specs.declared.command.WordsError.TheVariants as unread
use Rattle.adb_commands.specs.Check.{LosesLine, JudgesSo, WritesSo, judged_line}
use Rattle.adb_commands.specs.Ends.{Leaves, Sight}
use Rattle.adb_commands.specs.Loads.{WritesLines}
use Rattle.adb_commands.specs.Scripts.{AnswersAs, LosesLines, RefusesAs, StopsOut, first_bad}
use Rattle.adb_commands.specs.Words.{IsNoCommand, IsReplay, IsCheck, IsScript}
use Rattle.adb_commands.specs.declared.end.CommandEnd.{CommandEnd}
use Rattle.adb_commands.specs.declared.end.CommandEnd.TheVariants.{NotRun, Replayed, Judged, Generated, Answered}
use Rattle.adb_commands.specs.declared.load_stop.LoadStop.{LoadStop}
use Rattle.adb_commands.specs.declared.load_stop.LoadStop.TheVariants as load
use Rattle.adb_commands.specs.declared.script_kind.ScriptKind.{ScriptKind}
use Rattle.adb_commands.specs.declared.script_stop.ScriptStop.{ScriptStop}
use Rattle.adb_commands.specs.declared.script_stop.ScriptStop.TheVariants as script
use Rattle.adb_top.specs.Commands.{notice_of, IsTold}
use Rattle.adb_top.specs.Run.{WritesBy, EndsBy, IsNamed, CompletesBy, LoadBy, IsLoadEnd, EndsCheckBy, ChecksBy, IsFormNamed}
use Rattle.adb_top.specs.Run.{CompletesCheckBy}
use Rattle.adb_top.specs.Run.{AnswersBy, ScriptEndsBy, IsLineNamed, CompletesScriptBy}
use Rattle.adb_top.specs.declared.status.Status.{Status}
use Rattle.adb_top.specs.declared.status.Status.TheVariants.{Done, Usage, ReadFault, WriteFault, BadCapture, OutOfMemory, RecordFault}
use Rattle.adb_top.specs.declared.status.Status.TheVariants.{DoorFault, BadScript, Refused, BadAnswer, PortFault, TooLarge, Illegal}
use Rattle.adb_top.proofs.Ends.{told_own, told_starved, told_lost}
use Rattle.adb_top.proofs.ByCommand.{none_out}

-- all of a text is a front of it
all_out : (text had : List ℕ) (written : Option (List ℕ)) → written ≡ Some (had ++ text) → HasFront had text written
all_out text had written is = record { growth = text; is = is; front = ([], append-nil text) }

abbrev pub Own : CommandEnd → Status
Own end = (notice_of end).status

-- The status is the end's own, or that of a line for which there was no memory.
abbrev pub IsWhole : CommandEnd → Status → Type 0
IsWhole end status = (status ≡ Own end) ⊎ ((notice_of end).is_made ≡ true) × (status ≡ OutOfMemory)

-- ---- which end a status has
-- the statuses of commands
abbrev IsOfCommands : Status → Type 0
IsOfCommands RecordFault = ⊥
IsOfCommands DoorFault = ⊥
IsOfCommands Refused = ⊥
IsOfCommands BadAnswer = ⊥
IsOfCommands PortFault = ⊥
IsOfCommands TooLarge = ⊥
IsOfCommands _ = Unit {0}

of_commands : (end : CommandEnd) → IsOfCommands (notice_of end).status
of_commands (NotRun unread.Usage) = tt
of_commands (Replayed (Err stop.ReadFault)) = tt
of_commands (Judged (Ok (judged.Legal entries))) = tt
of_commands (Judged (Err stop.ReadFault)) = tt
of_commands (Generated (Err load.WriteFault)) = tt
of_commands (Answered (Err script.ReadFault)) = tt
of_commands _ = tt

never_told : (end : CommandEnd) (status other : Status) → IsTold (notice_of end) status → other ≢ WriteFault → other ≢ OutOfMemory
    → (IsOfCommands other → ⊥) → status ≢ other
never_told end status other told no_write no_memory never is =
    never (subst IsOfCommands (told_own (notice_of end) status other told no_write no_memory is) (of_commands end))

module _ {A S K : Type 0} (words : List (String A)) (s : Sight S) (k : Sight K) (source source_new : S) (sink sink_new : K) where
  abbrev Left : CommandEnd → Type 0
  Left end = Leaves words end s k source source_new sink sink_new

  usage_words : (end : CommandEnd) → Left end → (notice_of end).status ≡ Usage → IsNoCommand words
  usage_words (NotRun unread.Usage) leaves is = leaves.0
  usage_words (Replayed (Err stop.ReadFault)) leaves is = cc
  usage_words (Judged (Ok (judged.Legal entries))) leaves is = cc
  usage_words (Judged (Err stop.ReadFault)) leaves is = cc
  usage_words (Generated (Err load.WriteFault)) leaves is = cc
  usage_words (Answered (Err script.ReadFault)) leaves is = cc
  usage_words _ leaves is = cc

  illegal_words : (end : CommandEnd) → Left end → (notice_of end).status ≡ Illegal → IsCheck words
  illegal_words (Judged result) leaves is = leaves.0
  illegal_words (NotRun unread.Usage) leaves is = cc
  illegal_words (Replayed (Err stop.ReadFault)) leaves is = cc
  illegal_words (Generated (Err load.WriteFault)) leaves is = cc
  illegal_words (Answered (Err script.ReadFault)) leaves is = cc
  illegal_words _ leaves is = cc

  bad_capture_words : (end : CommandEnd) → Left end → (notice_of end).status ≡ BadCapture → IsReplay words ⊎ IsCheck words
  bad_capture_words (Replayed result) leaves is = inl leaves.0
  bad_capture_words (Judged result) leaves is = inr leaves.0
  bad_capture_words (NotRun unread.Usage) leaves is = cc
  bad_capture_words (Generated (Err load.WriteFault)) leaves is = cc
  bad_capture_words (Answered (Err script.ReadFault)) leaves is = cc
  bad_capture_words _ leaves is = cc

  bad_script_words : (end : CommandEnd) → Left end → (notice_of end).status ≡ BadScript → IsScript words × (sink_new ≡ sink)
  bad_script_words (Answered (Err (script.BadLine line))) leaves is = ((leaves.0, leaves.1), leaves.2.unwritten line refl)
  bad_script_words (NotRun unread.Usage) leaves is = cc
  bad_script_words (Replayed (Err stop.ReadFault)) leaves is = cc
  bad_script_words (Judged (Ok (judged.Legal entries))) leaves is = cc
  bad_script_words (Judged (Err stop.ReadFault)) leaves is = cc
  bad_script_words (Generated (Err load.WriteFault)) leaves is = cc
  bad_script_words _ leaves is = cc

  reading_words : (end : CommandEnd) → Left end → (notice_of end).status ≡ ReadFault → IsReplay words ⊎ IsCheck words ⊎ IsScript words
  reading_words (Replayed result) leaves is = inl leaves.0
  reading_words (Judged result) leaves is = inr (inl leaves.0)
  reading_words (Answered result) leaves is = inr (inr (leaves.0, leaves.1))
  reading_words (NotRun unread.Usage) leaves is = cc
  reading_words (Generated (Err load.WriteFault)) leaves is = cc
  reading_words _ leaves is = cc

  module _ (end : CommandEnd) (status : Status) (leaves : Left end) (told : IsTold (notice_of end) status) where
    own : (other : Status) → other ≢ WriteFault → other ≢ OutOfMemory → status ≡ other → (notice_of end).status ≡ other
    own other no_write no_memory is = told_own (notice_of end) status other told no_write no_memory is

    pub of_usage : status ≡ Usage → IsNoCommand words
    of_usage is = usage_words end leaves (own Usage (λ e. cc) (λ e. cc) is)

    pub of_illegal : status ≡ Illegal → IsCheck words
    of_illegal is = illegal_words end leaves (own Illegal (λ e. cc) (λ e. cc) is)

    pub of_bad_capture : status ≡ BadCapture → IsReplay words ⊎ IsCheck words
    of_bad_capture is = bad_capture_words end leaves (own BadCapture (λ e. cc) (λ e. cc) is)

    pub of_bad_script : status ≡ BadScript → IsScript words × (sink_new ≡ sink)
    of_bad_script is = bad_script_words end leaves (own BadScript (λ e. cc) (λ e. cc) is)

    pub of_read_fault : status ≡ ReadFault → IsReplay words ⊎ IsCheck words ⊎ IsScript words
    of_read_fault is = reading_words end leaves (own ReadFault (λ e. cc) (λ e. cc) is)

    never : (other : Status) → other ≢ WriteFault → other ≢ OutOfMemory → (IsOfCommands other → ⊥) → status ≢ other
    never other no_write no_memory out = never_told end status other told no_write no_memory out

    pub never_serves : (status ≢ RecordFault) × (status ≢ DoorFault)
    never_serves = (never RecordFault (λ e. cc) (λ e. cc) (λ out. out), never DoorFault (λ e. cc) (λ e. cc) (λ out. out))

    pub never_dials : (status ≢ Refused) × (status ≢ BadAnswer) × (status ≢ PortFault) × (status ≢ TooLarge)
    never_dials = (
      never Refused (λ e. cc) (λ e. cc) (λ out. out),
      never BadAnswer (λ e. cc) (λ e. cc) (λ out. out),
      never PortFault (λ e. cc) (λ e. cc) (λ out. out),
      never TooLarge (λ e. cc) (λ e. cc) (λ out. out),
    )

-- ---- a replay
replay_done : (result : Result (Unit {0}) Stop) → Own (Replayed result) ≡ Done → result ≡ Ok tt
replay_done (Ok done) is = refl
replay_done (Err stop.ReadFault) is = cc
replay_done _ is = cc

replay_bad : (result : Result (Unit {0}) Stop) → Own (Replayed result) ≡ BadCapture → (why : Refusal) × (result ≡ Err (stop.Refused why))
replay_bad (Err (stop.Refused why)) is = (why, refl)
replay_bad _ is = cc

replay_read : (result : Result (Unit {0}) Stop) → Own (Replayed result) ≡ ReadFault → result ≡ Err stop.ReadFault
replay_read (Err stop.ReadFault) is = refl
replay_read _ is = cc

replay_front : (result : Result (Unit {0}) Stop) (text had : List ℕ) (written : Option (List ℕ)) → WritesText result text had written
    → HasFront had text written
replay_front (Ok done) text had written w = all_out text had written w
replay_front (Err (stop.Refused why)) text had written w = all_out text had written w
replay_front _ text had written w = w

module _ (result : Result (Unit {0}) Stop) (status : Status) (told : IsTold (notice_of (Replayed result)) status) where
  pub done_replay : status ≡ Done → result ≡ Ok tt
  done_replay is = replay_done result (told_own (notice_of (Replayed result)) status Done told (λ e. cc) (λ e. cc) is)

  bad_replay : status ≡ BadCapture → (why : Refusal) × (result ≡ Err (stop.Refused why))
  bad_replay is = replay_bad result (told_own (notice_of (Replayed result)) status BadCapture told (λ e. cc) (λ e. cc) is)

  pub read_replay : status ≡ ReadFault → result ≡ Err stop.ReadFault
  read_replay is = replay_read result (told_own (notice_of (Replayed result)) status ReadFault told (λ e. cc) (λ e. cc) is)

  pub lost_replay : result ≡ Err stop.WriteFault → status ≡ WriteFault
  lost_replay is = told_lost (Replayed result) status told (ap (λ (r : Result (Unit {0}) Stop). Own (Replayed r)) is)

  pub writes_by : (text had : List ℕ) (written : Option (List ℕ)) → WritesText result text had written → WritesBy status text had written
  writes_by text had written w = record { whole = whole; front = replay_front result text had written w }
    where
      whole : (status ≡ Done) ⊎ (status ≡ BadCapture) → written ≡ Some (had ++ text)
      whole (inl is) = subst (λ (r : Result (Unit {0}) Stop). WritesText r text had written) (done_replay is) w
      whole (inr is) = let bad = bad_replay is in subst (λ (r : Result (Unit {0}) Stop). WritesText r text had written) bad.1 w

  pub ends_by : (a : Accepted) (left : Option (List ℕ)) → EndsAs result a left → EndsBy status a left
  ends_by a left ends = record {
    done = λ is. subst (λ (r : Result (Unit {0}) Stop). EndsAs r a left) (done_replay is) ends;
    bad_capture = λ is. (let bad = bad_replay is in (bad.0, subst (λ (r : Result (Unit {0}) Stop). EndsAs r a left) bad.1 ends));
  }

  pub replay_named : (a : Accepted) (left : Option (List ℕ)) (had : List ℕ) (before after : Option (List ℕ)) → EndsAs result a left
      → ((notice_of (Replayed result)).is_made ≡ true → status ≡ Own (Replayed result)
      → TellsWrite before after (notice_of (Replayed result)).line All)
      → status ≡ BadCapture → before ≡ Some had → IsNamed a had after
  replay_named a left had before after ends shows is has =
      let bad = bad_replay is in record {
        why = bad.0;
        refused = subst (λ (r : Result (Unit {0}) Stop). EndsAs r a left) bad.1 ends;
        line = subst (λ (r : Result (Unit {0}) Stop). (notice_of (Replayed r)).is_made ≡ true → status ≡ Own (Replayed r)
            → TellsWrite before after (notice_of (Replayed r)).line All) bad.1 shows refl is had has;
      }

-- where memory ran out
starved_by : (refused : Option Refusal) (status : Status) → status ≡ OutOfMemory → CompletesBy status refused
starved_by None status is = inr is
starved_by (Some why) status is = inr is

pub completes_by : (result : Result (Unit {0}) Stop) (status : Status) (a : Accepted) (left : Option (List ℕ))
    → IsWhole (Replayed result) status
    → EndsAs result a left → result ≢ Err stop.ReadFault → result ≢ Err stop.WriteFault → CompletesBy status a.refused
completes_by result status a left (inr unmade) ends reads writes = starved_by a.refused status unmade.1
completes_by (Ok done) status a left (inl own) ends reads writes =
    subst (λ (r : Option Refusal). CompletesBy status r) (sym ends.0) (inl own)
completes_by (Err stop.ReadFault) status a left (inl own) ends reads writes = absurd (reads refl)
completes_by (Err stop.WriteFault) status a left (inl own) ends reads writes = absurd (writes refl)
completes_by (Err stop.OutOfMemory) status a left (inl own) ends reads writes = starved_by a.refused status own
completes_by (Err (stop.Refused why)) status a left (inl own) ends reads writes =
    subst (λ (r : Option Refusal). CompletesBy status r) (sym ends) (inl own)

-- ---- a load
load_front : (result : Result (Unit {0}) LoadStop) (text had : List ℕ) (written : Option (List ℕ)) → WritesLines result text had written
    → HasFront had text written
load_front (Ok done) text had written w = all_out text had written w
load_front (Err load.WriteFault) text had written w = w
load_front (Err load.OutOfMemory) text had written w = none_out text had written w

load_done : (result : Result (Unit {0}) LoadStop) → Own (Generated result) ≡ Done → result ≡ Ok tt
load_done (Ok done) is = refl
load_done (Err load.WriteFault) is = cc
load_done _ is = cc

load_starved : (result : Result (Unit {0}) LoadStop) → (Own (Generated result) ≡ OutOfMemory)
    ⊎ ((notice_of (Generated result)).is_made ≡ true)
    → result ≡ Err load.OutOfMemory
load_starved (Err load.OutOfMemory) either = refl
load_starved (Ok done) (inl is) = cc
load_starved (Ok done) (inr is) = cc
load_starved (Err load.WriteFault) (inl is) = cc
load_starved (Err load.WriteFault) (inr is) = cc

pub load_by : (result : Result (Unit {0}) LoadStop) (status : Status) (text had : List ℕ) (written : Option (List ℕ))
    → IsTold (notice_of (Generated result)) status → WritesLines result text had written → LoadBy status text had written
load_by result status text had written told w = record {
  done = λ is. subst (λ (r : Result (Unit {0}) LoadStop). WritesLines r text had written)
      (load_done result (told_own (notice_of (Generated result)) status Done told (λ e. cc) (λ e. cc) is)) w;
  starved = λ is. subst (λ (r : Result (Unit {0}) LoadStop). WritesLines r text had written)
      (load_starved result (told_starved (notice_of (Generated result)) status told is)) w;
  front = load_front result text had written w;
}

pub load_ends : (result : Result (Unit {0}) LoadStop) (status : Status) → IsTold (notice_of (Generated result)) status → IsLoadEnd status
load_ends result status (inr (inl lost)) = inr (inl lost.1)
load_ends result status (inr (inr unmade)) = inr (inr unmade.1)
load_ends (Ok done) status (inl own) = inl own
load_ends (Err load.WriteFault) status (inl own) = inr (inl own)
load_ends (Err load.OutOfMemory) status (inl own) = inr (inr own)

-- a load that was not lost
pub load_made : (status : Status) → IsLoadEnd status → status ≢ WriteFault → (status ≡ Done) ⊎ (status ≡ OutOfMemory)
load_made status (inl done) written = inl done
load_made status (inr (inl lost)) written = absurd (written lost)
load_made status (inr (inr starved)) written = inr starved

-- ---- a history that is judged
check_done : (result : Result Judgement Stop) → Own (Judged result) ≡ Done → (entries : ℕ) × (result ≡ Ok (judged.Legal entries))
check_done (Ok (judged.Legal entries)) is = (entries, refl)
check_done (Err stop.ReadFault) is = cc
check_done _ is = cc

check_illegal : (result : Result Judgement Stop) → Own (Judged result) ≡ Illegal
    → (place : ℕ) × (rule : Rule) × (result ≡ Ok (judged.Illegal place rule))
check_illegal (Ok (judged.Illegal place rule)) is = (place, rule, refl)
check_illegal (Err stop.ReadFault) is = cc
check_illegal _ is = cc

check_bad : (result : Result Judgement Stop) → Own (Judged result) ≡ BadCapture → (why : Refusal) × (result ≡ Err (stop.Refused why))
check_bad (Err (stop.Refused why)) is = (why, refl)
check_bad (Ok (judged.Legal entries)) is = cc
check_bad _ is = cc

check_read : (result : Result Judgement Stop) → Own (Judged result) ≡ ReadFault → result ≡ Err stop.ReadFault
check_read (Err stop.ReadFault) is = refl
check_read (Ok (judged.Legal entries)) is = cc
check_read _ is = cc

-- ReadFault and OutOfMemory come before the line
check_unwritten : (result : Result Judgement Stop) (f : Formed) (had : List ℕ) (written : Option (List ℕ)) → WritesSo result f had written
    → (Own (Judged result) ≡ OutOfMemory) ⊎ ((notice_of (Judged result)).is_made ≡ true) → written ≡ Some had
check_unwritten (Err stop.OutOfMemory) f had written w either = w
check_unwritten (Err (stop.Refused why)) f had written w either = w
check_unwritten (Err stop.ReadFault) f had written w either = w
check_unwritten (Err stop.WriteFault) f had written w (inl is) = absurd (let clash : WriteFault ≡ OutOfMemory = is in cc)
check_unwritten (Err stop.WriteFault) f had written w (inr is) = absurd (let clash : false ≡ true = is in cc)
check_unwritten (Ok (judged.Legal entries)) f had written w (inl is) = absurd (let clash : Done ≡ OutOfMemory = is in cc)
check_unwritten (Ok (judged.Legal entries)) f had written w (inr is) = absurd (let clash : false ≡ true = is in cc)
check_unwritten (Ok (judged.Illegal place rule)) f had written w (inl is) = absurd (let clash : Illegal ≡ OutOfMemory = is in cc)
check_unwritten (Ok (judged.Illegal place rule)) f had written w (inr is) = absurd (let clash : false ≡ true = is in cc)

check_lost : (result : Result Judgement Stop) (f : Formed) (left : Option (List ℕ)) (had : List ℕ)
    (written : Option (List ℕ)) → JudgesSo result f left
    → WritesSo result f had written → (written ≡ Some had) ⊎ LosesLine f had written
check_lost (Ok judgement) f left had written j w =
    inr (record { judgement = judgement; comes = j.0; front = all_out (judged_line judgement) had written w })
check_lost (Err stop.ReadFault) f left had written j w = inl w
check_lost (Err stop.WriteFault) f left had written j w = inr w
check_lost (Err stop.OutOfMemory) f left had written j w = inl w
check_lost (Err (stop.Refused why)) f left had written j w = inl w

module _ (result : Result Judgement Stop) (status : Status) (told : IsTold (notice_of (Judged result)) status) where
  abbrev Judges : Result Judgement Stop → Formed → Option (List ℕ) → Type 0
  Judges r f left = JudgesSo r f left

  done_check : status ≡ Done → (entries : ℕ) × (result ≡ Ok (judged.Legal entries))
  done_check is = check_done result (told_own (notice_of (Judged result)) status Done told (λ e. cc) (λ e. cc) is)

  illegal_check : status ≡ Illegal → (place : ℕ) × (rule : Rule) × (result ≡ Ok (judged.Illegal place rule))
  illegal_check is = check_illegal result (told_own (notice_of (Judged result)) status Illegal told (λ e. cc) (λ e. cc) is)

  bad_check : status ≡ BadCapture → (why : Refusal) × (result ≡ Err (stop.Refused why))
  bad_check is = check_bad result (told_own (notice_of (Judged result)) status BadCapture told (λ e. cc) (λ e. cc) is)

  pub ends_check_by : (f : Formed) (left : Option (List ℕ)) → JudgesSo result f left → EndsCheckBy status f left
  ends_check_by f left j = record {
    done = λ is. (let d = done_check is in let l = subst (λ (r : Result Judgement Stop). JudgesSo r f left) d.1 j in (l.0.0, l.0.1, l.1));
    illegal = λ is. (let d = illegal_check is in (d.0, d.1, (subst (λ (r : Result Judgement Stop). JudgesSo r f left) d.2 j).0));
    not_legal = λ is. (let d = illegal_check is in
        no_legal (history_of f) (record { place = d.0; rule = d.1 }) (subst (λ (r : Result Judgement Stop). JudgesSo r f left) d.2 j).0);
    bad_capture = λ is. (let d = bad_check is in (d.0, subst (λ (r : Result Judgement Stop). JudgesSo r f left) d.1 j));
  }

  pub checks_by : (f : Formed) (left : Option (List ℕ)) (had : List ℕ) (written : Option (List ℕ))
      → JudgesSo result f left → WritesSo result f had written
      → ChecksBy status f left had written
  checks_by f left had written j w = record {
    done = λ is. (let d = done_check is in
        let l = subst (λ (r : Result Judgement Stop). JudgesSo r f left) d.1 j in
        (d.0, l.0, l.1, subst (λ (r : Result Judgement Stop). WritesSo r f had written) d.1 w));
    illegal = λ is. (let d = illegal_check is in (
      d.0,
      d.1,
      (subst (λ (r : Result Judgement Stop). JudgesSo r f left) d.2 j).0,
      subst
          (λ (r : Result Judgement Stop). WritesSo r f had written) d.2 w,
    ));
    bad_capture = λ is. (let d = bad_check is in (
      d.0,
      subst (λ (r : Result Judgement Stop). JudgesSo r f left) d.1 j,
      subst
          (λ (r : Result Judgement Stop). WritesSo r f had written) d.1 w,
    ));
    unwritten = unwritten;
    lost = λ is. check_lost result f left had written j w;
  }
    where
      unwritten : (status ≡ ReadFault) ⊎ (status ≡ OutOfMemory) → written ≡ Some had
      unwritten (inl is) = subst (λ (r : Result Judgement Stop). WritesSo r f had written)
          (check_read result (told_own (notice_of (Judged result)) status ReadFault told (λ e. cc) (λ e. cc) is)) w
      unwritten (inr is) = check_unwritten result f had written w (told_starved (notice_of (Judged result)) status told is)

  pub form_named : (f : Formed) (left : Option (List ℕ)) (had : List ℕ) (before after : Option (List ℕ)) → JudgesSo result f left
      → ((notice_of (Judged result)).is_made ≡ true → status ≡ Own (Judged result)
      → TellsWrite before after (notice_of (Judged result)).line All)
      → status ≡ BadCapture → before ≡ Some had → IsFormNamed f had after
  form_named f left had before after j shows is has =
      let d = bad_check is in record {
        why = d.0;
        refused = (subst (λ (r : Result Judgement Stop). JudgesSo r f left) d.1 j).0;
        line = subst (λ (r : Result Judgement Stop). (notice_of (Judged r)).is_made ≡ true → status ≡ Own (Judged r)
            → TellsWrite before after (notice_of (Judged r)).line All) d.1 shows refl is had has;
      }

pub completes_check_by : (result : Result Judgement Stop) (status : Status) (f : Formed) (left : Option (List ℕ))
    → IsWhole (Judged result) status
    → JudgesSo result f left → result ≢ Err stop.ReadFault → result ≢ Err stop.WriteFault → CompletesCheckBy status f
completes_check_by result status f left (inr unmade) j reads writes =
    record { legal = λ none legal. inr unmade.1; refused = λ why ill. inr unmade.1; illegal = λ none. inr unmade.1 }
completes_check_by (Ok (judged.Legal entries)) status f left (inl own) j reads writes = record {
  legal = λ none legal. inl own;
  refused = λ why ill. absurd (let clash : None ≡ Some why = sym j.0.0 ∙ ill.0 in cc);
  illegal = λ none. absurd (none j.0.1.legal);
}
completes_check_by (Ok (judged.Illegal place rule)) status f left (inl own) j reads writes = record {
  legal = λ none legal. absurd (no_legal (history_of f) (record { place = place; rule = rule }) j.0 legal);
  refused = λ why ill. absurd (no_legal (history_of f) (record { place = place; rule = rule }) j.0 ill.1);
  illegal = λ none. inl own;
}
completes_check_by (Err stop.ReadFault) status f left (inl own) j reads writes = absurd (reads refl)
completes_check_by (Err stop.WriteFault) status f left (inl own) j reads writes = absurd (writes refl)
completes_check_by (Err stop.OutOfMemory) status f left (inl own) j reads writes =
    record { legal = λ none legal. inr own; refused = λ why ill. inr own; illegal = λ none. inr own }
completes_check_by (Err (stop.Refused why)) status f left (inl own) j reads writes = record {
  legal = λ none legal. absurd (let clash : None ≡ Some why = sym none ∙ j.0 in cc);
  refused = λ other ill. inl own;
  illegal = λ none. absurd (none j.1);
}

-- ---- a script
script_done : (result : Result (Unit {0}) ScriptStop) → Own (Answered result) ≡ Done → result ≡ Ok tt
script_done (Ok done) is = refl
script_done (Err script.ReadFault) is = cc
script_done _ is = cc

script_bad : (result : Result (Unit {0}) ScriptStop) → Own (Answered result) ≡ BadScript → (line : ℕ) × (result ≡ Err (script.BadLine line))
script_bad (Err (script.BadLine line)) is = (line, refl)
script_bad _ is = cc

script_read : (result : Result (Unit {0}) ScriptStop) → Own (Answered result) ≡ ReadFault → result ≡ Err script.ReadFault
script_read (Err script.ReadFault) is = refl
script_read _ is = cc

module _ (kind : ScriptKind) (bytes had : List ℕ) (written : Option (List ℕ)) where
  abbrev Answers : Result (Unit {0}) ScriptStop → Type 0
  Answers result = AnswersAs kind result bytes had written

  script_starved : (result : Result (Unit {0}) ScriptStop) → Answers result
      → (Own (Answered result) ≡ OutOfMemory) ⊎ ((notice_of (Answered result)).is_made ≡ true)
      → (written ≡ Some had) ⊎ StopsOut kind script.OutOfMemory bytes had written
  script_starved (Err script.OutOfMemory) a either = inr a
  script_starved (Err (script.BadLine line)) a either = inl a
  script_starved (Err script.ReadFault) a either = inl a
  script_starved (Err script.WriteFault) a (inl is) = absurd (let clash : WriteFault ≡ OutOfMemory = is in cc)
  script_starved (Err script.WriteFault) a (inr is) = absurd (let clash : false ≡ true = is in cc)
  script_starved (Ok done) a (inl is) = absurd (let clash : Done ≡ OutOfMemory = is in cc)
  script_starved (Ok done) a (inr is) = absurd (let clash : false ≡ true = is in cc)

  script_lost : (result : Result (Unit {0}) ScriptStop) → Answers result
      → (written ≡ Some had) ⊎ StopsOut kind script.OutOfMemory bytes had written ⊎ LosesLines kind bytes had written
  script_lost (Ok done) a = inr (inr (record { text = a.text; answers = a.answers; front = all_out a.text had written a.is }))
  script_lost (Err script.ReadFault) a = inl a
  script_lost (Err script.WriteFault) a = inr (inr a)
  script_lost (Err script.OutOfMemory) a = inr (inl a)
  script_lost (Err (script.BadLine line)) a = inl a

  pub answers_by : (result : Result (Unit {0}) ScriptStop) (status : Status) → IsTold (notice_of (Answered result)) status → Answers result
      → AnswersBy kind status bytes had written
  answers_by result status told a = record {
    done = λ is. subst Answers (script_done result (own Done (λ e. cc) (λ e. cc) is)) a;
    unwritten = unwritten;
    starved = λ is. script_starved result a (told_starved (notice_of (Answered result)) status told is);
    lost = λ is. script_lost result a;
  }
    where
      own : (other : Status) → other ≢ WriteFault → other ≢ OutOfMemory → status ≡ other → Own (Answered result) ≡ other
      own other no_write no_memory is = told_own (notice_of (Answered result)) status other told no_write no_memory is

      unwritten : (status ≡ ReadFault) ⊎ (status ≡ BadScript) → written ≡ Some had
      unwritten (inl is) = subst Answers (script_read result (own ReadFault (λ e. cc) (λ e. cc) is)) a
      unwritten (inr is) = let bad = script_bad result (own BadScript (λ e. cc) (λ e. cc) is) in subst Answers bad.1 a

module _ (result : Result (Unit {0}) ScriptStop) (status : Status) (told : IsTold (notice_of (Answered result)) status) (bad : Option ℕ)
    (refuses : RefusesAs result bad) where
  done_script : status ≡ Done → result ≡ Ok tt
  done_script is = script_done result (told_own (notice_of (Answered result)) status Done told (λ e. cc) (λ e. cc) is)

  bad_script : status ≡ BadScript → (line : ℕ) × (result ≡ Err (script.BadLine line))
  bad_script is = script_bad result (told_own (notice_of (Answered result)) status BadScript told (λ e. cc) (λ e. cc) is)

  -- Whether a line is refused.
  pub script_ends_by : (left : Option (List ℕ)) → (result ≡ Ok tt → left ≡ Some []) → ScriptEndsBy status bad left
  script_ends_by left whole = record {
    done = λ is. (subst (λ (r : Result (Unit {0}) ScriptStop). RefusesAs r bad) (done_script is) refuses, whole (done_script is));
    bad_script = λ is. (let d = bad_script is in (d.0, subst (λ (r : Result (Unit {0}) ScriptStop). RefusesAs r bad) d.1 refuses));
  }

  pub line_named : (kind : ScriptKind) (bytes had : List ℕ) (before after : Option (List ℕ)) → first_bad kind bytes ≡ bad
      → ((notice_of (Answered result)).is_made ≡ true → status ≡ Own (Answered result)
      → TellsWrite before after (notice_of (Answered result)).line All)
      → status ≡ BadScript → before ≡ Some had → IsLineNamed kind bytes had after
  line_named kind bytes had before after same shows is has =
      let d = bad_script is in record {
        line = d.0;
        refused = same ∙ subst (λ (r : Result (Unit {0}) ScriptStop). RefusesAs r bad) d.1 refuses;
        named = subst (λ (r : Result (Unit {0}) ScriptStop). (notice_of (Answered r)).is_made ≡ true → status ≡ Own (Answered r)
            → TellsWrite before after (notice_of (Answered r)).line All) d.1 shows refl is had has;
      }

starved_script_by : (bad : Option ℕ) (status : Status) → status ≡ OutOfMemory → CompletesScriptBy status bad
starved_script_by None status is = inr is
starved_script_by (Some line) status is = inr is

pub completes_script_by : (result : Result (Unit {0}) ScriptStop) (status : Status) (bad : Option ℕ) → IsWhole (Answered result) status
    → RefusesAs result bad → result ≢ Err script.ReadFault → result ≢ Err script.WriteFault → CompletesScriptBy status bad
completes_script_by result status bad (inr unmade) refuses reads writes = starved_script_by bad status unmade.1
completes_script_by (Ok done) status bad (inl own) refuses reads writes =
    subst (λ (b : Option ℕ). CompletesScriptBy status b) (sym refuses) (inl own)
completes_script_by (Err script.ReadFault) status bad (inl own) refuses reads writes = absurd (reads refl)
completes_script_by (Err script.WriteFault) status bad (inl own) refuses reads writes = absurd (writes refl)
completes_script_by (Err script.OutOfMemory) status bad (inl own) refuses reads writes = starved_script_by bad status own
completes_script_by (Err (script.BadLine line)) status bad (inl own) refuses reads writes =
    subst (λ (b : Option ℕ). CompletesScriptBy status b) (sym refuses) (inl own)
