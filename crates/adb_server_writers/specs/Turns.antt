-- What the turns of a writer do, one after another.
use Rattle.std.specs.Prelude.{ℕ, ◌≡◌, Bool, true, false, List, ◌++◌, map, Option, Some, is_some, ◌⊎◌}
use Rattle.std.specs.List.{concat}
use Rattle.adb_outside.specs.Outside.{Rises}
use Rattle.adb_outside.specs.declared.kinds.Cause.{Cause}
use Rattle.adb_outside.specs.declared.kinds.Cause.TheVariants.{Fault, Starved}
use Rattle.adb_capture.specs.declared.entry.Entry.{Entry}
use Rattle.adb_server_hall.specs.Telling.{Telling}
use Rattle.adb_server_hall.specs.Made.{Tells}
use Rattle.adb_server_writers.specs.Writing.{Side, Outlet, Stands, IsEnd, Written}
use Rattle.adb_server_writers.specs.declared.next.Next.{Next}
use Rattle.adb_server_writers.specs.declared.next.Next.TheVariants.{More, Idle, Stop}

-- All that was handed out so far was written, in order. No write and no allocation failed. The hall shows `entries` now.
pub record WrittenSoFar (side : Side) (es : List Entry) (tells : Option Telling) (was starved : Bool) (before after : Outlet) : Type 0 where
  pub now : Telling
  pub is : tells ≡ Some now
  pub pieces : List (List ℕ)
  pub entries : List Entry
  pub made : entries ≡ es ++ map side.hands pieces
  pub held : Tells now entries
  pub wrote : (out : List ℕ) → before.written ≡ Some out → after.written ≡ Some (out ++ concat pieces)
  pub memory : starved ≡ was
  pub count : after.faults ≡ before.faults
  pub stays : after.closed ≡ before.closed

-- the same, closed
abbrev pub when_closed : Outlet → Outlet
when_closed o = record o { closed = true }

-- What a turn did. After the last one the port is closed, unless nothing is due.
abbrev pub Turned : Next → Side → List Entry → Option Telling → Bool → Bool → Outlet → Outlet → Type 0
Turned More side es tells was starved before after = WrittenSoFar side es tells was starved before after
Turned Idle side es tells was starved before after = Written side es tells was starved before after
Turned Stop side es tells was starved before after = Written side es tells was starved before (when_closed after)

-- ---- the end of a connection
-- The connection was ended by one entry, or the hall refused that. An allocation for that entry fails only if the hall is shut.
pub record Ends (side : Side) (cause : Cause) (was starved : Bool) (es : List Entry) (b : Telling) : Type 0 where
  pub last : List Entry
  pub stands : Stands b (es ++ last)
  pub is : IsEnd side cause es b last
  pub memory : (starved ≡ was) ⊎ (is_some b.shut ≡ true)

abbrev pub EndsAll : Side → Cause → Bool → Bool → Telling → Telling → Type 0
EndsAll side cause was starved a b = (es : List Entry) → Stands a es → Ends side cause was starved es b

-- what a refused hand-out makes of the hall: the connection is ended after an allocation failure
abbrev pub GivesUp : Side → Bool → Bool → Bool → Telling → Telling → Type 0
GivesUp side true was starved a b = EndsAll side Starved was starved a b
GivesUp side false was starved a b = b ≡ a

-- ---- a write
-- what a write does to the hall: nothing where all was written, else the connection is ended
abbrev pub Leaves : Side → Next → Bool → Bool → Telling → Telling → Type 0
Leaves side More was starved a b = b ≡ a
Leaves side Idle was starved a b = ⊥
Leaves side Stop was starved a b = EndsAll side Fault was starved a b

-- All of a piece went out.
pub record GoesOn (bytes : List ℕ) (before after : Outlet) : Type 0 where
  pub wrote : (out : List ℕ) → before.written ≡ Some out → after.written ≡ Some (out ++ bytes)
  pub count : after.faults ≡ before.faults

-- A prefix of a piece went out, and the write failed.
pub record GoesOut (bytes : List ℕ) (before after : Outlet) : Type 0 where
  pub front : List ℕ
  pub lost : List ℕ
  pub is : bytes ≡ front ++ lost
  pub wrote : (out : List ℕ) → before.written ≡ Some out → after.written ≡ Some (out ++ front)
  pub rises : Rises before.faults after.faults

-- what a write does to the port
abbrev pub HandsOn : List ℕ → Next → Outlet → Outlet → Type 0
HandsOn bytes More before after = GoesOn bytes before after
HandsOn bytes Idle before after = ⊥
HandsOn bytes Stop before after = GoesOut bytes before after
