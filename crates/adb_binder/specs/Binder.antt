-- What a binder answers.
use Rattle.std.specs.Prelude.{ℕ, ◌≡◌, ◌≢◌, ◌⊎◌, Bool, true, false, List, Option}
use Rattle.adb_outside.specs.Outside.{TellsOneMore}
use Rattle.adb_binder.specs.declared.binder.Binding.{Binding}
use Rattle.adb_binder.specs.declared.binder.Binding.TheVariants.{Bound, Failed}

-- The port that is bound is not 0, and is the one that was asked for, if one was.
abbrev pub FitsPort : ℕ → Binding → Type 0
FitsPort asked (Bound port) = (port ≢ 0) × (asked ≢ 0 → port ≡ asked)
FitsPort asked Failed = Unit {0}

-- the port that is bound, 0 where none is
abbrev pub port_of : Binding → ℕ
port_of (Bound port) = port
port_of Failed = 0

-- whether a port could not be bound
abbrev pub is_failed_bind : Binding → Bool
is_failed_bind (Bound port) = false
is_failed_bind Failed = true

-- The listener of a port was closed, or none was.
abbrev pub Closes : Option (List ℕ) → ℕ → Option (List ℕ) → Type 0
Closes before port after = (after ≡ before) ⊎ TellsOneMore before port after
