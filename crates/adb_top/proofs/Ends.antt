-- From the end of a command to its status.
use Rattle.std.proofs.Common.{◌≡◌, ◌≢◌, ◌⊎◌, Bool, true, false, Ok, Err, refl, sym, ◌∙◌, subst, inl, inr}
use Rattle.adb_check.specs.declared.capture.Judgement.TheVariants as judged
use Rattle.adb_outside.specs.Outside.{Counts}
use Rattle.adb_replay.specs.declared.stop.Stop.TheVariants as stop
use Rattle.adb_words.specs.declared.command.WordsError.TheVariants as unread
use Rattle.adb_commands.specs.Ends.{CountsSource, Sight, fails_sink}
use Rattle.adb_commands.specs.declared.end.CommandEnd.{CommandEnd}
use Rattle.adb_commands.specs.declared.end.CommandEnd.TheVariants.{NotRun, Replayed, Judged, Generated, Answered}
use Rattle.adb_commands.specs.declared.load_stop.LoadStop.TheVariants as load
use Rattle.adb_commands.specs.declared.script_stop.ScriptStop.TheVariants as script
use Rattle.adb_top.specs.Commands.{Notice, notice_of, IsTold, TellsCommand}
use Rattle.adb_top.specs.Faults.{Rose, Stood, IsFaultless}
use Rattle.adb_top.specs.declared.status.Status.{Status}
use Rattle.adb_top.specs.declared.status.Status.TheVariants.{ReadFault, WriteFault, OutOfMemory}

-- ---- how an end is told
-- A status that is neither WriteFault nor OutOfMemory is the end's own.
pub told_own : (notice : Notice) (status other : Status) → IsTold notice status → other ≢ WriteFault → other ≢ OutOfMemory → status ≡ other
    → notice.status ≡ other
told_own notice status other (inl own) no_write no_memory is = sym own ∙ is
told_own notice status other (inr (inl lost)) no_write no_memory is = absurd (no_write (sym is ∙ lost.1))
told_own notice status other (inr (inr unmade)) no_write no_memory is = absurd (no_memory (sym is ∙ unmade.1))

-- Where the note did not fail it is the end's own, or that of a line for which there was no memory.
pub told_now : (notice : Notice) (status : Status) → IsTold notice status → status ≢ WriteFault
    → (status ≡ notice.status) ⊎ ((notice.is_made ≡ true) × (status ≡ OutOfMemory))
told_now notice status (inl own) written = inl own
told_now notice status (inr (inl lost)) written = absurd (written lost.1)
told_now notice status (inr (inr unmade)) written = inr unmade

-- A status OutOfMemory is the end's own, or that of such a line.
pub told_starved : (notice : Notice) (status : Status) → IsTold notice status → status ≡ OutOfMemory
    → (notice.status ≡ OutOfMemory) ⊎ (notice.is_made ≡ true)
told_starved notice status (inl own) is = inl (sym own ∙ is)
told_starved notice status (inr (inl lost)) is = absurd (let clash : OutOfMemory ≡ WriteFault = sym is ∙ lost.1 in cc)
told_starved notice status (inr (inr unmade)) is = inr unmade.0

-- The end of a command whose sink failed is told as WriteFault.
pub told_lost : (end : CommandEnd) (status : Status) → IsTold (notice_of end) status
    → (notice_of end).status ≡ WriteFault → status ≡ WriteFault
told_lost end status (inl own) is = own ∙ is
told_lost end status (inr (inl lost)) is = lost.1
told_lost end status (inr (inr unmade)) is = absurd (made_writes end is unmade.0)
  where
    made_writes : (end : CommandEnd) → (notice_of end).status ≡ WriteFault → (notice_of end).is_made ≡ true → ⊥
    made_writes (Replayed (Err (stop.Refused why))) is made = cc
    made_writes (Judged (Err (stop.Refused why))) is made = cc
    made_writes (Answered (Err (script.BadLine line))) is made = cc
    made_writes (NotRun unread.Usage) is made = cc
    made_writes (Judged (Ok (judged.Legal entries))) is made = cc
    made_writes (Generated (Err load.WriteFault)) is made = cc
    made_writes _ is made = cc

-- ---- which counts rose
module _ {S K N : Type 0} (s : Sight S) (k : Sight K) (n : Sight N) (source source_new : S) (sink sink_new : K) (note note_new : N)
    (end : CommandEnd) (status : Status)
    (reads : CountsSource end (Counts s.steady s.faults source source_new))
    (writes : Counts k.steady k.faults sink sink_new (fails_sink end))
    (tells : TellsCommand end status n note note_new) where
  abbrev Reads : CommandEnd → Type 0
  Reads end = CountsSource end (Counts s.steady s.faults source source_new)

  rose_of : (end : CommandEnd) → Reads end → (notice_of end).status ≡ ReadFault → Rose s.faults source source_new
  rose_of (Replayed (Err stop.ReadFault)) counts is = counts.fault refl
  rose_of (Judged (Err stop.ReadFault)) counts is = counts.fault refl
  rose_of (Answered (Err script.ReadFault)) counts is = counts.fault refl
  rose_of (NotRun unread.Usage) counts is = cc
  rose_of (Judged (Ok (judged.Legal entries))) counts is = cc
  rose_of (Generated (Err load.WriteFault)) counts is = cc
  rose_of _ counts is = cc

  stood_of : (end : CommandEnd) → Reads end → IsFaultless (notice_of end).status → Stood s.faults source source_new
  stood_of (Replayed (Err stop.ReadFault)) counts faultless = absurd faultless
  stood_of (Replayed (Err stop.WriteFault)) counts faultless = absurd faultless
  stood_of (Judged (Err stop.ReadFault)) counts faultless = absurd faultless
  stood_of (Judged (Ok (judged.Legal entries))) counts faultless = counts.stands refl
  stood_of (Answered (Err script.ReadFault)) counts faultless = absurd faultless
  stood_of _ counts faultless = counts.stands refl

  made_faultless : (end : CommandEnd) → (notice_of end).is_made ≡ true → IsFaultless (notice_of end).status
  made_faultless (Replayed (Err (stop.Refused why))) is = tt
  made_faultless (Judged (Err (stop.Refused why))) is = tt
  made_faultless (Answered (Err (script.BadLine line))) is = tt
  made_faultless (NotRun unread.Usage) is = cc
  made_faultless (Judged (Ok (judged.Legal entries))) is = cc
  made_faultless (Generated (Err load.WriteFault)) is = cc
  made_faultless _ is = cc

  -- an end with a fault is told with one
  end_faultless : IsTold (notice_of end) status → IsFaultless status → IsFaultless (notice_of end).status
  end_faultless (inl own) faultless = subst IsFaultless own faultless
  end_faultless (inr (inl lost)) faultless = absurd (subst IsFaultless lost.1 faultless)
  end_faultless (inr (inr unmade)) faultless = made_faultless end unmade.0

  lost_of : (end : CommandEnd) → fails_sink end ≡ true → (notice_of end).status ≡ WriteFault
  lost_of (Replayed (Err stop.WriteFault)) is = refl
  lost_of (Judged (Err stop.WriteFault)) is = refl
  lost_of (Generated (Err load.WriteFault)) is = refl
  lost_of (Answered (Err script.WriteFault)) is = refl
  lost_of (Judged (Ok (judged.Legal entries))) is = cc
  lost_of _ is = cc

  steady_of : (end : CommandEnd) → Reads end → s.steady source → fails_sink end ≡ false → IsFaultless (notice_of end).status
  steady_of (NotRun unread.Usage) counts steady kept = tt
  steady_of (Replayed (Err stop.ReadFault)) counts steady kept = absurd (let clash : true ≡ false = counts.steady steady in cc)
  steady_of (Replayed (Err stop.WriteFault)) counts steady kept = absurd (let clash : true ≡ false = kept in cc)
  steady_of (Judged (Err stop.ReadFault)) counts steady kept = absurd (let clash : true ≡ false = counts.steady steady in cc)
  steady_of (Judged (Err stop.WriteFault)) counts steady kept = absurd (let clash : true ≡ false = kept in cc)
  steady_of (Judged (Ok (judged.Legal entries))) counts steady kept = tt
  steady_of (Generated (Err load.WriteFault)) counts steady kept = absurd (let clash : true ≡ false = kept in cc)
  steady_of (Answered (Err script.ReadFault)) counts steady kept = absurd (let clash : true ≡ false = counts.steady steady in cc)
  steady_of (Answered (Err script.WriteFault)) counts steady kept = absurd (let clash : true ≡ false = kept in cc)
  steady_of _ counts steady kept = tt

  pub end_rose : (notice_of end).status ≡ ReadFault → Rose s.faults source source_new
  end_rose is = rose_of end reads is

  pub read_rose : status ≡ ReadFault → Rose s.faults source source_new
  read_rose is = end_rose (told_own (notice_of end) status ReadFault tells.own (λ e. cc) (λ e. cc) is)

  pub write_rose : status ≡ WriteFault → Rose k.faults sink sink_new ⊎ Rose n.faults note note_new
  write_rose is = go (tells.fault is)
    where
      go : (fails_sink end ≡ true) ⊎ Rose n.faults note note_new → Rose k.faults sink sink_new ⊎ Rose n.faults note note_new
      go (inl lost) = inl (writes.fault lost)
      go (inr rose) = inr rose

  pub source_stands : IsFaultless status → Stood s.faults source source_new
  source_stands faultless = stood_of end reads (end_faultless tells.own faultless)

  pub sink_stands : status ≢ WriteFault → Stood k.faults sink sink_new
  sink_stands written = go (fails_sink end) refl
    where
      go : (lost : Bool) → fails_sink end ≡ lost → Stood k.faults sink sink_new
      go true is = absurd (written (told_lost end status tells.own (lost_of end is)))
      go false is = writes.stands is

  pub all_steady : s.steady source → k.steady sink → n.steady note → IsFaultless status
  all_steady source_steady sink_steady note_steady = go tells.own
    where
      unfailed : fails_sink end ≡ false
      unfailed = writes.steady sink_steady

      go : IsTold (notice_of end) status → IsFaultless status
      go (inl own) = subst IsFaultless (sym own) (steady_of end reads source_steady unfailed)
      go (inr (inl lost)) = absurd (let clash : false ≡ true = sym unfailed ∙ tells.steady note_steady lost.1 in cc)
      go (inr (inr unmade)) = subst IsFaultless (sym unmade.1) tt

  -- Where no count rose the status is the end's own, or that of a line for which there was no memory.
  pub told_whole : ¬ Rose k.faults sink sink_new → ¬ Rose n.faults note note_new
      → (status ≡ (notice_of end).status) ⊎ ((notice_of end).is_made ≡ true) × (status ≡ OutOfMemory)
  told_whole no_write no_note = told_now (notice_of end) status tells.own written
    where
      written : status ≢ WriteFault
      written is = elim (write_rose is) [ inl w ↦ no_write w | inr n ↦ no_note n ]
