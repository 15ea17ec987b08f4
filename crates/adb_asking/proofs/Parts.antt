-- Both parts of an outcome are told, or not all.
use Rattle.std.proofs.Common.{Bool, true, false, refl}
use Rattle.adb_asking.specs.declared.ends.ToolEnd.TheVariants.{Done, WriteFault, OutOfMemory}
use Rattle.adb_asking.specs.Telling.{Leaves, Parts, Sight}
use Rattle.adb_asking.specs.Writing.{Puts}
use Rattle.adb_asking.proofs.Putting.{counts_none, front_none}

module _ {K N : Type 0} (k : Sight K) (n : Sight N) (parts : Parts) where
  abbrev ToSink : K → K → Bool → Type 0
  ToSink old new done = Puts k.steady k.faults k.told parts.out old new done

  abbrev ToNote : N → N → Bool → Type 0
  ToNote old new done = Puts n.steady n.faults n.told parts.note old new done

  pub all_told : (sink sink_new : K) (note note_new : N) → ToSink sink sink_new true → ToNote note note_new true
      → Leaves k n parts sink sink_new note note_new Done
  all_told sink sink_new note note_new a b = record {
    told = (a.whole refl, b.whole refl);
    counts = record { sink_failed = false; note_failed = false; sinks = a.counts; notes = b.counts; which = refl };
    untouched = λ d. absurd (d refl);
  }

  pub note_failed : (sink sink_new : K) (note note_new : N) → ToSink sink sink_new true → ToNote note note_new false
      → Leaves k n parts sink sink_new note note_new WriteFault
  note_failed sink sink_new note note_new a b = record {
    told = (a.front, b.front);
    counts = record { sink_failed = false; note_failed = true; sinks = a.counts; notes = b.counts; which = refl };
    untouched = λ d w. absurd (w refl);
  }

  pub sink_failed : (sink sink_new : K) (note : N) → ToSink sink sink_new false → Leaves k n parts sink sink_new note note WriteFault
  sink_failed sink sink_new note a = record {
    told = (a.front, front_none parts.note (n.told note));
    counts = record {
      sink_failed = true;
      note_failed = false;
      sinks = a.counts;
      notes = counts_none n.steady n.faults note;
      which = refl;
    };
    untouched = λ d w. absurd (w refl);
  }

  pub none_told : (sink : K) (note : N) → Leaves k n parts sink sink note note OutOfMemory
  none_told sink note = record {
    told = tt;
    counts = record {
      sink_failed = false;
      note_failed = false;
      sinks = counts_none k.steady k.faults sink;
      notes = counts_none n.steady n.faults note;
      which = refl;
    };
    untouched = λ d w. (refl, refl);
  }
