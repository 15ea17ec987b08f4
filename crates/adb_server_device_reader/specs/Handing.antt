-- What a hall shows when pieces are handed in and a link's input is ended.
use Rattle.std.specs.Prelude.{ℕ, ◌≡◌, Bool, true, false, List, [], ◌∷◌, ◌++◌, map, reverse, length, Option, Some, is_some, Result, Ok, Err}
use Rattle.std.specs.Prelude.{◌⊎◌}
use Rattle.adb_outside.specs.declared.kinds.Cause.{Cause}
use Rattle.adb_outside.specs.declared.kinds.Cause.TheVariants.{Starved}
use Rattle.adb_capture.specs.declared.entry.Entry.{Entry}
use Rattle.adb_capture.specs.declared.entry.Entry.TheVariants.{Recv, Detach}
use Rattle.adb_history.specs.Machine.{state}
use Rattle.adb_history.specs.Kept.{IsLawful}
use Rattle.adb_hub.specs.declared.answers.Life.{Life}
use Rattle.adb_hub.specs.declared.answers.Life.TheVariants.{Live, Gone}
use Rattle.adb_hub.specs.declared.answers.Room.{Room}
use Rattle.adb_hub.specs.declared.answers.Room.TheVariants.{Shut}
use Rattle.adb_history.specs.Rows.{State}
use Rattle.adb_hub.specs.Answers.{life_of}
use Rattle.adb_desk.specs.declared.act.Progress.{Progress}
use Rattle.adb_server_log.specs.declared.error.DeskError.{DeskError}
use Rattle.adb_server_log.specs.Pass.{PassView}
use Rattle.adb_server_hall.specs.Telling.{Telling, Where, Submits}
use Rattle.adb_server_hall.specs.Passes.{after_submit}
use Rattle.adb_server_hall.specs.Made.{IsStopped}
use Rattle.adb_server_device_reader.specs.declared.next.Next.{Next}
use Rattle.adb_server_device_reader.specs.declared.next.Next.TheVariants.{Go, Pause, Stop}

-- the entries by which the pieces came on a link
abbrev pub received : ℕ → List (List ℕ) → List Entry
received t pieces = map (Recv t) pieces

-- The hall shows these entries, the oldest first, and its hub holds them, unless it is shut: a recorder that refused
-- the next one has shut it.
pub record Stands (entries : List Entry) (tells : Option Telling) : Type 0 where
  pub now : Telling
  pub tells_now : tells ≡ Some now
  pub told : now.told ≡ Some entries
  pub held : IsLawful now.hub (reverse entries) ⊎ (is_some now.shut ≡ true)

-- ---- why a reader stops
abbrev pub link_life : ℕ → State → Life
link_life t s = life_of (s.links t)

-- The link is gone after these entries.
abbrev pub IsGone : ℕ → List Entry → Type 0
IsGone t entries = link_life t (state (reverse entries)) ≡ Gone

-- The hall is shut, or a kill was made.
abbrev pub IsOver : Telling → Type 0
IsOver now = (is_some now.shut ≡ true) ⊎ (now.hub.stopped ≡ true)

-- No allocation failed, unless the hall is shut.
abbrev pub IsSpared : Bool → Bool → Telling → Type 0
IsSpared was starved now = (starved ≡ was) ⊎ (is_some now.shut ≡ true)

-- The link is gone after these entries, the hall takes no more, or an allocation failed.
abbrev pub IsCutOff : ℕ → List Entry → Telling → Bool → Type 0
IsCutOff t entries now starved = IsGone t entries ⊎ IsStopped now starved

-- The last entry ends the link's input by this cause; or there is none, since the hall refused that: the link is
-- gone, the hall is shut, or a
-- kill was made.
abbrev pub IsEnd : ℕ → Cause → List Entry → Telling → List Entry → Type 0
IsEnd t cause entries now last = (last ≡ Detach t cause ∷ []) ⊎ ((last ≡ []) × (IsGone t entries ⊎ IsOver now))

-- Nothing ends the link's input: the link is gone, the hall is shut, or a kill was made.
pub record Stays (t : ℕ) (entries last : List Entry) (was starved : Bool) (now : Telling) : Type 0 where
  pub none : last ≡ []
  pub memory : IsSpared was starved now
  pub why : IsGone t entries ⊎ IsOver now

-- An allocation failed, and the link's input was ended for that.
pub record Starves (t : ℕ) (entries last : List Entry) (starved : Bool) (now : Telling) : Type 0 where
  pub memory : starved ≡ true
  pub end : IsEnd t Starved entries now last

-- The reader is cut off after these entries, and ends the link's input exactly after an allocation failure.
pub record Breaks (t : ℕ) (entries last : List Entry) (was starved : Bool) (tells : Option Telling) : Type 0 where
  pub hall : Stands (entries ++ last) tells
  pub why : Stays t entries last was starved hall.now ⊎ Starves t entries last starved hall.now

-- ---- calls
-- The link's input was ended after these entries, or the hall refused that. An allocation for that entry fails only if the hall is shut.
pub record Finished (t : ℕ) (cause : Cause) (entries : List Entry) (was starved : Bool) (tells : Option Telling) : Type 0 where
  pub last : List Entry
  pub hall : Stands (entries ++ last) tells
  pub end : IsEnd t cause entries hall.now last
  pub memory : IsSpared was starved hall.now

-- what a refused call makes of the hall: the link's input is ended after an allocation failure
abbrev pub GivesUp : Bool → ℕ → List Entry → Bool → Bool → Option Telling → Option Telling → Type 0
GivesUp true t entries was starved before after = Finished t Starved entries was starved after
GivesUp false t entries was starved before after = (after ≡ before) × (starved ≡ was)

-- The reader is cut off after these entries, and nothing ends the link's input.
pub record CutAfter (t : ℕ) (entries : List Entry) (was starved : Bool) (tells : Option Telling) : Type 0 where
  pub hall : Stands (entries ++ []) tells
  pub stays : Stays t entries [] was starved hall.now

-- A piece was handed in, and the reader is cut off after it.
abbrev pub Taken : ℕ → List ℕ → List Entry → Bool → Bool → Option Telling → Type 0
Taken t piece entries was starved tells = CutAfter t (entries ++ received t (piece ∷ [])) was starved tells

-- A piece was lost: the reader is cut off before it.
pub record Lost (t : ℕ) (entries : List Entry) (was starved : Bool) (tells : Option Telling) : Type 0 where
  pub last : List Entry
  pub breaks : Breaks t entries last was starved tells

-- A piece was handed in, and more may follow; or the reader is cut off.
abbrev pub Handed : Bool → ℕ → List ℕ → List Entry → Bool → Bool → Option Telling → Type 0
Handed true t piece entries was starved tells = Stands (entries ++ received t (piece ∷ [])) tells × (starved ≡ was)
Handed false t piece entries was starved tells = Taken t piece entries was starved tells ⊎ Lost t entries was starved tells

-- The reader has waited after these entries, and more may follow; or it is cut off.
abbrev pub Waited : Bool → ℕ → List Entry → Bool → Bool → Option Telling → Type 0
Waited true t entries was starved tells = Stands entries tells × (starved ≡ was)
Waited false t entries was starved tells = CutAfter t entries was starved tells

-- A piece was handed in with a pass, after these entries, and this was answered.
pub record Answered (before : PassView) (piece : List ℕ) (entries : List Entry) (answer : Result Progress DeskError) (now : PassView)
    (tells : Option Telling) : Type 0 where
  pub pass : now ≡ after_submit before (length piece) answer
  pub tells_before : Option Telling
  pub stood : Stands entries tells_before
  pub told : Where tells_before (Submits (Recv before.number piece) answer) tells

abbrev pub is_live : Life → Bool
is_live Live = true
is_live Gone = false

-- whether the reader continues after a piece
abbrev pub goes_on : Next → Bool
goes_on Go = true
goes_on Pause = true
goes_on Stop = false

-- whether more bytes may follow after this answer to a query for room
abbrev pub may_follow : Result Room DeskError → Bool
may_follow (Ok Shut) = false
may_follow (Ok room) = true
may_follow (Err error) = false
