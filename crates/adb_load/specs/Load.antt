-- The entries of a load.
use Rattle.std.specs.Prelude.{ℕ, zero, suc, ◌≡◌, List, [], ◌∷◌, ◌++◌, map, Option, Some, None, Result, Ok, Err}
use Rattle.adb_capture.specs.declared.entry.Entry.{Entry}
use Rattle.adb_load.specs.declared.act.Act.{Act}
use Rattle.adb_load.specs.Acts.{acts_due, entry_of}
use Rattle.adb_load.specs.Course.{Progress, start, turn, turns_left}

-- the acts of so many turns
unfoldable pub acts_of_turns : ℕ → Progress → List Act
acts_of_turns zero p = []
acts_of_turns (suc turns) p = acts_due (turn p).act ++ acts_of_turns turns (turn p).after

-- all acts that are still to come
unfoldable pub acts_ahead : Progress → List Act
acts_ahead p = acts_of_turns (turns_left p) p

-- what is due of a turn, and all that comes behind it
abbrev pub ahead : Option Act → Progress → List Act
ahead due p = acts_due due ++ acts_ahead p

-- whether nothing is to come, where no act was found due
abbrev pub IsOver : Option Act → List Act → Type 0
IsOver None acts = acts ≡ []
IsOver (Some act) acts = Unit {0}

abbrev pub entries_of : List Act → List Entry
entries_of acts = map entry_of acts

-- the entries of the load of a seed and so many streams
abbrev pub load : (seed streams : ℕ) → List Entry
load seed streams = entries_of (acts_ahead (start seed streams))

-- The entry that is given is the first of those to come, and none is given where none is to come. After want of memory the same are
-- to come.
abbrev pub GivesFirst : {E : Type 0} → List Entry → List Entry → Result (Option Entry) E → Type 0
GivesFirst before after (Ok (Some e)) = before ≡ e ∷ after
GivesFirst before after (Ok None) = (before ≡ []) × (after ≡ [])
GivesFirst before after (Err e) = after ≡ before
