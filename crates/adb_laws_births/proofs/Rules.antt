-- Which stream is born by an entry, and what it makes of the others.
use Rattle.std.proofs.Common.{length, refl}
use Rattle.adb_capture.specs.declared.entry.Entry.{Entry}
use Rattle.adb_capture.specs.declared.entry.Entry.TheVariants.{Enter, Read, End, Bound, Attach, Recv, Detach, Put}
use Rattle.adb_history.specs.Machine.{History, state, rule, May, IsLegal}
use Rattle.adb_history.specs.Births.{births_at}
use Rattle.adb_history.proofs.OwnedStep.{all_owned}
use Rattle.adb_laws_births.specs.Drawing.{Makes}
use Rattle.adb_laws_births.proofs.GoingRules.{goes_puts, goes_client_ends, goes_bound, goes_unplugs}
use Rattle.adb_laws_births.proofs.Drawing.{goes_as, reads_make, enters_make}

-- An entry after which devices are told of open streams alone: it plugs none in, and brings no bytes of one.
abbrev pub IsQuiet : Entry → Type 0
IsQuiet (Attach t kind serial) = ⊥
IsQuiet (Recv t bytes) = ⊥
IsQuiet _ = Unit {0}

-- Which stream is born by such an entry, and what it makes of the others.
pub entry_makes : (older : History) → IsLegal older → (e : Entry) → May (state older) e → IsQuiet e
    → Makes (state older).streams (state older).drawn (births_at e older) (rule e (state older))
entry_makes older legal (Enter c port) may quiet = enters_make older legal c port
entry_makes older legal (Read c bytes) may quiet = reads_make older legal c bytes may ((state older).clients c) refl
entry_makes older legal (End c cause) may quiet = goes_client_ends c cause ((state older).clients c) (state older)
    (all_owned older legal) refl
entry_makes older legal (Bound c port) may quiet = goes_bound ((state older).clients c) c port (state older)
entry_makes older legal (Attach t kind serial) may quiet = absurd quiet
entry_makes older legal (Recv t bytes) may quiet = absurd quiet
entry_makes older legal (Detach t cause) may quiet = goes_unplugs ((state older).links t) t (state older)
entry_makes older legal (Put c bytes) may quiet = goes_puts c (length bytes) ((state older).clients c) (state older) (all_owned older legal)
entry_makes older legal _ may quiet = goes_as (state older) _ refl refl
