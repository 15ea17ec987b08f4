-- What a hub keeps between two entries.
use Rattle.adb_hub_tables.specs.declared.tables.Tables.{Tables}
use Rattle.adb_hub_tables.specs.Tables.{state_of}
use Rattle.adb_hub_tables.specs.Fit.{IsFit, IsReached}

-- Its places are kept, and some legal history leaves what its tables show.
pub record IsSound (t : Tables) : Type 0 where
  pub fit : IsFit t
  pub reached : IsReached (state_of t)
