-- Words that are no tool's.
use Rattle.std.proofs.Common.{◌≡◌, ◌⊎◌, subst, inl, inr}
use Rattle.adb_asking.specs.Telling.{Sight}
use Rattle.adb_asking.specs.declared.ends.ToolEnd.{ToolEnd}
use Rattle.adb_asking.specs.declared.ends.ToolEnd.TheVariants as ends
use Rattle.adb_top.specs.declared.status.Status.{Status}
use Rattle.adb_top.specs.Tools.{TellsEnd}
use Rattle.adb_top.specs.Usage.{SaysUsage}
use Rattle.adb_top.proofs.Usage.{memory_said, usage_said}

-- An end that calls nobody is told as it is, unless the note fails.
pub unheard : {N : Type 0} (end : ToolEnd) (status : Status) (n : Sight N) (note note_new : N)
    → (end ≡ ends.Usage) ⊎ (end ≡ ends.OutOfMemory) → TellsEnd end status n note note_new → SaysUsage status n note note_new
unheard end status n note note_new (inl is) tells = usage (subst (λ (e : ToolEnd). TellsEnd e status n note note_new) is tells)
  where
    usage : TellsEnd ends.Usage status n note note_new → SaysUsage status n note note_new
    usage t = usage_said n note note_new status t.counts t.own t.notes
unheard end status n note note_new (inr is) tells = memory (subst (λ (e : ToolEnd). TellsEnd e status n note note_new) is tells)
  where
    memory : TellsEnd ends.OutOfMemory status n note note_new → SaysUsage status n note note_new
    memory t = memory_said n note note_new status t.counts t.own t.notes
