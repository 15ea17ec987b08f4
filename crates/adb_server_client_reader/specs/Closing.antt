-- What closing the listeners of forwards that have ended does to the hall and to the binder.
use Rattle.std.specs.Prelude.{ℕ, ◌≡◌, false, List, All, Option, Some}
use Rattle.adb_history.specs.Rows.{State}
use Rattle.adb_history.specs.Machine.{History, state}
use Rattle.adb_history.specs.Kept.{IsLawful}
use Rattle.adb_desk.specs.Desk.{has_forward}
use Rattle.adb_server_hall.specs.Telling.{Telling}
use Rattle.adb_server_client_reader.specs.Forwards.{TellsMore}

-- A hall that shows its state shows the same afterwards.
abbrev pub Stays : Option Telling → Option Telling → Type 0
Stays before after = (t : Telling) → before ≡ Some t → after ≡ Some t

abbrev pub IsUnused : State → ℕ → Type 0
IsUnused s port = has_forward port s ≡ false

-- The listeners that a binder closed are of ports without a forward.
pub record ClosesUnused (s : State) (before after : Option (List ℕ)) : Type 0 where
  pub ports : List ℕ
  pub more : TellsMore before ports after
  pub unused : All (IsUnused s) ports

-- So it is in each state that the hall shows.
abbrev pub Spares : Option Telling → Option (List ℕ) → Option (List ℕ) → Type 0
Spares tells before after = (t : Telling) (h : History) → tells ≡ Some t → IsLawful t.hub h → ClosesUnused (state h) before after
