-- How streams end: a row that goes was told to end, unless it was an orphan, whose end was told when its client failed.
use Rattle.std.specs.Prelude.{ℕ, ◌≡◌, ◌<◌, ◌≤◌, ◌⊎◌, Bool, true, false, is_some, Option, Some, None}
use Rattle.adb_outside.specs.declared.kinds.Cause.{Cause}
use Rattle.adb_stream.specs.declared.row.Stream.{Stream}
use Rattle.adb_history.specs.declared.ending.Ending.{Ending}
use Rattle.adb_history.specs.declared.ending.Ending.TheVariants.{ClientFailed}
use Rattle.adb_history.specs.Machine.{History, state}
use Rattle.adb_history.specs.Lives.{ending_of}

-- a stream that lives has no ending, and an orphan that of its client's failure
abbrev pub EndsAs : Bool → Option Ending → Type 0
EndsAs false ending = ending ≡ None
EndsAs true ending = (cause : Cause) × (ending ≡ Some (ClientFailed cause))

-- A stream that was drawn and is kept no more has ended; one that is kept has not, unless it is an orphan; and none
-- ends that was not drawn.
pub record HasEnding (drawn l : ℕ) (row : Option Stream) (ending : Option Ending) : Type 0 where
  pub kept : (stream : Stream) → row ≡ Some stream → EndsAs stream.part.orphan ending
  pub gone : row ≡ None → 0 < l → l ≤ drawn → is_some ending ≡ true
  pub undrawn : (l ≡ 0) ⊎ (drawn < l) → ending ≡ None

abbrev pub EndingsAreRows : History → Type 0
EndingsAreRows h = (l : ℕ) → HasEnding (state h).drawn l ((state h).streams l) (ending_of l h)
