-- What a hall that answers at once is seen as.
use Rattle.std.specs.Prelude.{Bool}
use Rattle.adb_desk.specs.Desk.{DeskView}

-- its desk, and its mark
pub record OneView : Type 0 where
  pub desk : DeskView
  pub mark : Bool
