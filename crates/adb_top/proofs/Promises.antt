-- What a run of a command that neither serves nor dials promises, from how the command ended and how that was told.
use Rattle.std.proofs.Common.{ℕ, ◌≡◌, ◌≢◌, ◌⊎◌, true, List, Result, refl, ◌∙◌, ap, subst, inl, inr}
use Rattle.std.specs.Prelude.{String}
use Rattle.adb_check.specs.Formed.{formed}
use Rattle.adb_check.specs.declared.capture.Judgement.{Judgement}
use Rattle.adb_history.specs.Accepted.{accepted, replayed}
use Rattle.adb_outside.specs.Outside.{Counts}
use Rattle.adb_outside.specs.Sink.{TellsWrite}
use Rattle.adb_outside.specs.declared.sink.Wrote.TheVariants.{All}
use Rattle.adb_replay.specs.declared.stop.Stop.{Stop}
use Rattle.adb_commands.specs.Ends.{CountsSource, Leaves, Sight, fails_sink}
use Rattle.adb_commands.specs.Loads.{IsPromised, load_lines, made}
use Rattle.adb_commands.specs.Scripts.{first_bad}
use Rattle.adb_commands.specs.Words.{IsReplay, IsCheck, IsLoad, IsOfKind}
use Rattle.adb_commands.specs.declared.end.CommandEnd.{CommandEnd}
use Rattle.adb_commands.specs.declared.end.CommandEnd.TheVariants.{Replayed, Judged, Generated, Answered}
use Rattle.adb_commands.specs.declared.script_kind.ScriptKind.{ScriptKind}
use Rattle.adb_commands.specs.declared.script_kind.ScriptKind.TheVariants as kinds
use Rattle.adb_commands.specs.declared.script_stop.ScriptStop.{ScriptStop}
use Rattle.adb_top.specs.Alone.{NoneRose, RunsAlone}
use Rattle.adb_top.specs.Commands.{Notice, notice_of, IsTold, TellsCommand}
use Rattle.adb_top.specs.Faults.{Rose}
use Rattle.adb_top.specs.Run.{WritesHistory, WritesRead, WritesWhole, EndsCapture, NamesRefusal, Completes}
use Rattle.adb_top.specs.Run.{WritesLoad, IsLoadEnd, EndsCheck, WritesVerdict, NamesForm, CompletesCheck}
use Rattle.adb_top.specs.Run.{WritesAnswers, EndsScript, NamesLine, CompletesScript}
use Rattle.adb_top.specs.declared.status.Status.{Status}
use Rattle.adb_top.specs.declared.status.Status.TheVariants.{Done, ReadFault, WriteFault, OutOfMemory}
use Rattle.adb_top.proofs.Ends as ends
use Rattle.adb_top.proofs.ByCommand as kind_of
use Rattle.adb_top.proofs.Statuses as by

module _ {A S K N : Type 0} (words : List (String A)) (status : Status) (s : Sight S) (k : Sight K) (n : Sight N)
    (source source_new : S) (sink sink_new : K) (note note_new : N) (end : CommandEnd)
    (leaves : Leaves words end s k source source_new sink sink_new) (reads : CountsSource end (Counts s.steady s.faults source source_new))
    (writes : Counts k.steady k.faults sink sink_new (fails_sink end)) (tells : TellsCommand end status n note note_new) where
  abbrev None : Type 0
  None = NoneRose s k n source source_new sink sink_new note note_new

  -- how an end is told that is told as another
  told : (like : CommandEnd) → notice_of end ≡ notice_of like → IsTold (notice_of like) status
  told like same = subst (λ (notice : Notice). IsTold notice status) same tells.own

  shows : (like : CommandEnd) → notice_of end ≡ notice_of like → (notice_of like).is_made ≡ true → status ≡ (notice_of like).status
      → TellsWrite (n.told note) (n.told note_new) (notice_of like).line All
  shows like same = subst
      (λ (notice : Notice). notice.is_made ≡ true → status ≡ notice.status
      → TellsWrite (n.told note) (n.told note_new) notice.line All) same
      tells.shows

  -- a fault that the end names comes with a count that rose
  unread_by : (like : CommandEnd) → notice_of end ≡ notice_of like → ¬ Rose s.faults source source_new
      → (notice_of like).status ≡ ReadFault → ⊥
  unread_by like same no_read is = no_read (ends.end_rose s k n source source_new sink sink_new note note_new end status reads writes tells
      (ap (λ (notice : Notice). notice.status) same ∙ is))

  module _ (no_write : ¬ Rose k.faults sink sink_new) (no_note : ¬ Rose n.faults note note_new) where
    written : status ≢ WriteFault
    written is = elim (ends.write_rose s k n source source_new sink sink_new note note_new end status reads writes tells is) [
      | inl w ↦ no_write w
      | inr l ↦ no_note l
    ]

    unwritten : (like : CommandEnd) → notice_of end ≡ notice_of like → (notice_of like).status ≡ WriteFault → ⊥
    unwritten like same is = written (ends.told_lost end status tells.own (ap (λ (notice : Notice). notice.status) same ∙ is))

    whole : (like : CommandEnd) → notice_of end ≡ notice_of like → by.IsWhole like status
    whole like same = ends.told_now (notice_of like) status (told like same) written

  -- ---- a replay
  module _ (is : IsReplay words) where
    replay : kind_of.AsReplay words s k source source_new sink sink_new end
    replay = kind_of.as_replay words s k source source_new sink sink_new end is leaves

    replay_told : IsTold (notice_of (Replayed replay.result)) status
    replay_told = told (Replayed replay.result) replay.like

    run_writes : WritesHistory status (s.told source) k.told sink sink_new
    run_writes = λ capture had was has. by.writes_by replay.result status replay_told (replayed capture) had (k.told sink_new)
        (replay.leaves.writes capture had was has)

    run_consumed : status ≡ ReadFault → WritesRead s.told source source_new k.told sink sink_new
    run_consumed fault = λ capture had was has. replay.leaves.consumes
        (by.read_replay replay.result status replay_told fault) capture had was has

    run_whole : status ≢ WriteFault → WritesWhole k.told sink sink_new
    run_whole other = replay.leaves.whole (λ lost. other (by.lost_replay replay.result status replay_told lost))

    run_ends : EndsCapture status s.told source source_new
    run_ends = λ capture was. by.ends_by replay.result status replay_told (accepted capture) (s.told source_new)
        (replay.leaves.ends capture was)

    run_names : NamesRefusal status (s.told source) n.told note note_new
    run_names = λ bad capture had was has. by.replay_named replay.result status replay_told (accepted capture)
        (s.told source_new) had (n.told note)
        (n.told note_new) (replay.leaves.ends capture was) (shows (Replayed replay.result) replay.like) bad has

    run_completes : None → Completes status (s.told source)
    run_completes none = λ capture was. by.completes_by replay.result status (accepted capture) (s.told source_new)
        (whole none.write none.noted (Replayed replay.result) replay.like) (replay.leaves.ends capture was)
        (λ e. unread_by (Replayed replay.result) replay.like none.read
        (ap (λ (r : Result (Unit {0}) Stop). (notice_of (Replayed r)).status) e))
        (λ e. unwritten none.write none.noted (Replayed replay.result) replay.like
        (ap (λ (r : Result (Unit {0}) Stop). (notice_of (Replayed r)).status) e))

  -- ---- a history that is judged
  module _ (is : IsCheck words) where
    check : kind_of.AsCheck words s k source source_new sink sink_new end
    check = kind_of.as_check words s k source source_new sink sink_new end is leaves

    check_told : IsTold (notice_of (Judged check.result)) status
    check_told = told (Judged check.result) check.like

    run_judged : WritesVerdict status s.told source source_new k.told sink sink_new
    run_judged = λ capture had was has. by.checks_by check.result status check_told (formed capture)
        (s.told source_new) had (k.told sink_new)
        (check.leaves.judges capture was) (check.leaves.writes capture had was has)

    run_ends_check : EndsCheck status s.told source source_new
    run_ends_check = λ capture was. by.ends_check_by check.result status check_told (formed capture)
        (s.told source_new) (check.leaves.judges capture was)

    run_names_form : NamesForm status (s.told source) n.told note note_new
    run_names_form = λ bad capture had was has. by.form_named check.result status check_told (formed capture)
        (s.told source_new) had (n.told note)
        (n.told note_new) (check.leaves.judges capture was) (shows (Judged check.result) check.like) bad has

    run_checks : None → CompletesCheck status (s.told source)
    run_checks none = λ capture was. by.completes_check_by check.result status (formed capture) (s.told source_new)
        (whole none.write none.noted (Judged check.result) check.like) (check.leaves.judges capture was)
        (λ e. unread_by (Judged check.result) check.like none.read (ap (λ (r : Result Judgement Stop). (notice_of (Judged r)).status) e))
        (λ e. unwritten none.write none.noted (Judged check.result) check.like
        (ap (λ (r : Result Judgement Stop). (notice_of (Judged r)).status) e))

  -- ---- a load
  module _ (seed streams : ℕ) (is : IsLoad seed streams words) where
    load : kind_of.AsLoad words s k source source_new sink sink_new seed streams end
    load = kind_of.as_load words s k source source_new sink sink_new end seed streams is leaves

    load_told : IsTold (notice_of (Generated load.result)) status
    load_told = told (Generated load.result) load.like

    run_load : WritesLoad status seed streams k.told sink sink_new
    run_load = λ had has. by.load_by load.result status (load_lines seed streams) had (k.told sink_new) load_told
        (load.leaves.writes had has)

    run_ends_load : IsLoadEnd status
    run_ends_load = by.load_ends load.result status load_told

    run_makes : ¬ Rose k.faults sink sink_new → ¬ Rose n.faults note note_new → (status ≡ Done) ⊎ (status ≡ OutOfMemory)
    run_makes no_write no_note = by.load_made status run_ends_load (written no_write no_note)

  -- ---- a script
  module _ (kind : ScriptKind) (is : IsOfKind kind words) where
    script_of : kind_of.AsScript words s k source source_new sink sink_new kind end
    script_of = kind_of.as_script words s k source source_new sink sink_new kind end is leaves

    script_told : IsTold (notice_of (Answered script_of.result)) status
    script_told = told (Answered script_of.result) script_of.like

    run_answers : WritesAnswers kind status (s.told source) k.told sink sink_new
    run_answers = λ bytes had was has. by.answers_by kind bytes had (k.told sink_new) script_of.result status script_told
        (script_of.leaves.writes bytes had was has)

    run_ends_script : EndsScript kind status s.told source source_new
    run_ends_script = λ bytes was. by.script_ends_by script_of.result status script_told (first_bad kind bytes)
        (script_of.leaves.refuses bytes was)
        (s.told source_new) (λ done. script_of.leaves.whole done bytes was)

    run_names_line : NamesLine kind status (s.told source) n.told note note_new
    run_names_line = λ bad bytes had was has. by.line_named script_of.result status script_told (first_bad kind bytes)
        (script_of.leaves.refuses bytes was)
        kind bytes had (n.told note) (n.told note_new) refl (shows (Answered script_of.result) script_of.like) bad has

    run_runs : None → CompletesScript kind status (s.told source)
    run_runs none = λ bytes was. by.completes_script_by script_of.result status (first_bad kind bytes)
        (whole none.write none.noted (Answered script_of.result) script_of.like) (script_of.leaves.refuses bytes was)
        (λ e. unread_by (Answered script_of.result) script_of.like none.read
        (ap (λ (r : Result (Unit {0}) ScriptStop). (notice_of (Answered r)).status) e))
        (λ e. unwritten none.write none.noted (Answered script_of.result) script_of.like
        (ap (λ (r : Result (Unit {0}) ScriptStop). (notice_of (Answered r)).status) e))

  pub runs_alone : ((seed streams : ℕ) → IsLoad seed streams words → IsPromised (made seed streams))
      → RunsAlone words status s k n source source_new sink sink_new note note_new
  runs_alone promised = record {
    notes = record { end = end; leaves = leaves; reads = reads; writes = writes; tells = tells };
    usage = λ none. kind_of.unheard words s k source source_new sink sink_new end status leaves tells.own none;
    untouched = λ none. kind_of.untouched words s k source source_new sink sink_new end leaves none;
    command = by.of_usage words s k source source_new sink sink_new end status leaves tells.own;
    writes = run_writes;
    consumed = run_consumed;
    legal = λ is. (replay is).leaves.spells;
    whole = run_whole;
    ends = run_ends;
    killed = λ is done. (replay is).leaves.stops (by.done_replay (replay is).result status (replay_told is) done);
    load = run_load;
    ends_load = run_ends_load;
    unread = λ seed streams is. (load seed streams is).leaves.unread;
    promised = promised;
    judged = run_judged;
    ends_check = run_ends_check;
    illegal = by.of_illegal words s k source source_new sink sink_new end status leaves tells.own;
    answers = λ seed is. run_answers kinds.Local (seed, is);
    copies = λ seed is. run_answers kinds.Copy (seed, is);
    ends_script = λ seed is. run_ends_script kinds.Local (seed, is);
    ends_copy = λ seed is. run_ends_script kinds.Copy (seed, is);
    within = λ seed is. (script_of kinds.Local (seed, is)).leaves.within;
    within_copy = λ seed is. (script_of kinds.Copy (seed, is)).leaves.within;
    bad_capture = by.of_bad_capture words s k source source_new sink sink_new end status leaves tells.own;
    bad_script = λ is. (by.of_bad_script words s k source source_new sink sink_new end status leaves tells.own is).0;
    unwritten = λ is. (by.of_bad_script words s k source source_new sink sink_new end status leaves tells.own is).1;
    serves = by.never_serves words s k source source_new sink sink_new end status leaves tells.own;
    dials = by.never_dials words s k source source_new sink sink_new end status leaves tells.own;
    names = run_names;
    names_form = run_names_form;
    names_line = λ seed is. run_names_line kinds.Local (seed, is);
    names_copied = λ seed is. run_names_line kinds.Copy (seed, is);
    reads = by.of_read_fault words s k source source_new sink sink_new end status leaves tells.own;
    read_fault = λ is. ends.read_rose s k n source source_new sink sink_new note note_new end status reads writes tells is;
    write_fault = λ is. ends.write_rose s k n source source_new sink sink_new note note_new end status reads writes tells is;
    source_stood = λ is. ends.source_stands s k n source source_new sink sink_new note note_new end status reads writes tells is;
    sink_stood = λ is. ends.sink_stands s k n source source_new sink sink_new note note_new end status reads writes tells is;
    note_stood = tells.stood;
    never_failing = λ a b c. ends.all_steady s k n source source_new sink sink_new note note_new end status reads writes tells a b c;
    complete = run_completes;
    checks = run_checks;
    makes = run_makes;
    runs = λ seed is. run_runs kinds.Local (seed, is);
    runs_copy = λ seed is. run_runs kinds.Copy (seed, is);
  }
