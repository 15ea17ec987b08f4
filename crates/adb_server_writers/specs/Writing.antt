-- What a writer does, over a hall that shows its entries.
use Rattle.std.specs.Prelude.{ℕ, ◌≡◌, Bool, true, List, [], ◌∷◌, ◌++◌, map, reverse, Option, Some, None, is_some, ◌⊎◌}
use Rattle.std.specs.List.{concat}
use Rattle.adb_outside.specs.Outside.{Rises}
use Rattle.adb_outside.specs.declared.kinds.Cause.{Cause}
use Rattle.adb_outside.specs.declared.kinds.Cause.TheVariants.{Fault, Starved}
use Rattle.adb_capture.specs.declared.entry.Entry.{Entry}
use Rattle.adb_capture.specs.declared.entry.Entry.TheVariants.{End, Detach}
use Rattle.adb_history.specs.Rows.{State}
use Rattle.adb_history.specs.Machine.{state}
use Rattle.adb_history.specs.Kept.{IsLawful}
use Rattle.adb_desk.specs.declared.act.Half.{Half}
use Rattle.adb_desk.specs.declared.act.Half.TheVariants as half
use Rattle.adb_desk.specs.Acts.{due_of, out_entry}
use Rattle.adb_server_hall.specs.Telling.{Telling}

-- the client or link that a writer writes to: the entry that hands bytes out, the entry that ends the connection, and
-- the bytes that may be handed
-- out while the owner lives
pub record Side : Type 0 where
  pub hands : List ℕ → Entry
  pub ends : Cause → Entry
  pub due : State → Option (List ℕ)

-- the entry that ends a connection
abbrev pub ends_by : Half → ℕ → Cause → Entry
ends_by half.Client n = End n
ends_by half.Link n = Detach n

-- a client and a link, by their numbers
abbrev pub side_of : Half → ℕ → Side
side_of half n = record { hands = out_entry half n; ends = ends_by half n; due = due_of half n }

-- the output half of a connection: its count of faults, the bytes that went out, where it shows them, and whether it is closed
pub record Outlet : Type 0 where
  pub faults : ℕ
  pub written : Option (List ℕ)
  pub closed : Bool

abbrev pub outlet : ℕ → Option (List ℕ) → Bool → Outlet
outlet faults written closed = record { faults = faults; written = written; closed = closed }

-- The hall shows these entries, the oldest first. Its hub holds them, or the hall is shut: the hub may then have made
-- one more, which was not kept.
pub record Stands (t : Telling) (entries : List Entry) : Type 0 where
  pub told : t.told ≡ Some entries
  pub lawful : (is_some t.shut ≡ true) ⊎ IsLawful t.hub (reverse entries)

-- ---- why a writer returns its pass
-- The hall refuses to end a connection only if its owner is gone, the hall is shut, or a kill was made.
abbrev pub IsRefused : Side → List Entry → Telling → Type 0
IsRefused side entries now = (side.due (state (reverse entries)) ≡ None) ⊎ (is_some now.shut ≡ true) ⊎ (now.hub.stopped ≡ true)

-- The last entry ends the connection by this cause; or there is no such entry, since the hall refused it.
abbrev pub IsEnd : Side → Cause → List Entry → Telling → List Entry → Type 0
IsEnd side cause entries now last = (last ≡ side.ends cause ∷ []) ⊎ ((last ≡ []) × IsRefused side entries now)

-- Nothing can be written for now: the owner is gone, nothing is due to it, or the hall is shut. No allocation failed.
pub record Rests (side : Side) (entries : List Entry) (now : Telling) (was starved : Bool) (last : List Entry) : Type 0 where
  pub none : last ≡ []
  pub memory : starved ≡ was
  pub why : (side.due (state (reverse entries)) ≡ None) ⊎ (side.due (state (reverse entries)) ≡ Some []) ⊎ (is_some now.shut ≡ true)

-- An allocation failed, and the connection was ended for that.
pub record Starves (side : Side) (entries : List Entry) (now : Telling) (starved : Bool) (last : List Entry) : Type 0 where
  pub memory : starved ≡ true
  pub ends : IsEnd side Starved entries now last

-- No write failed: the count of faults is as it was, and all of the pieces went out.
pub record WroteAll (lost : List ℕ) (before after : ℕ) : Type 0 where
  pub count : after ≡ before
  pub none : lost ≡ []

-- The write of the last piece failed, so that the count of faults rose: a part of that piece went out, and nothing
-- was handed out after it. The
-- connection was ended for that. No allocation failed, unless the hall is shut.
pub record FailsLast (side : Side) (entries : List Entry) (now : Telling) (was starved : Bool) (last : List Entry) (pieces : List (List ℕ))
    (front lost : List ℕ) (before after : ℕ) : Type 0 where
  pub rises : Rises before after
  pub whole : List (List ℕ)
  pub failed : List ℕ
  pub part : List ℕ
  pub pieces_are : pieces ≡ whole ++ failed ∷ []
  pub failed_is : failed ≡ part ++ lost
  pub front_is : front ≡ concat whole ++ part
  pub ends : IsEnd side Fault entries now last
  pub memory : (starved ≡ was) ⊎ (is_some now.shut ≡ true)

-- A writer made an entry for each piece that was handed out to it (after these the hall showed `entries`), and at
-- most one more, which ended its
-- connection. The bytes that it wrote are a prefix of the joined pieces: all of them, unless the write of the last
-- piece failed. The writer has a
-- cause to return its pass, and closed its port; if nothing is due it may have left the port as it was. `was` and `starved` say whether an
-- allocation for the pass had failed before, and has failed now.
pub record Written (side : Side) (es : List Entry) (tells : Option Telling) (was starved : Bool) (before after : Outlet) : Type 0 where
  pub now : Telling
  pub is : tells ≡ Some now
  pub pieces : List (List ℕ)
  pub entries : List Entry
  pub made : entries ≡ es ++ map side.hands pieces
  pub last : List Entry
  pub stands : Stands now (entries ++ last)
  pub front : List ℕ
  pub lost : List ℕ
  pub handed : concat pieces ≡ front ++ lost
  pub wrote : (out : List ℕ) → before.written ≡ Some out → after.written ≡ Some (out ++ front)
  pub why : (WroteAll lost before.faults after.faults × (Rests side entries now was starved last ⊎ Starves side entries now starved last))
      ⊎ FailsLast side entries now was starved last pieces front lost before.faults after.faults
  pub closes : (after.closed ≡ true) ⊎ ((side.due (state (reverse entries)) ≡ Some []) × (after.closed ≡ before.closed))
