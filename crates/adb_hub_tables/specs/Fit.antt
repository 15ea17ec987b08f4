-- Tables between two entries: what they keep then, and what a call of the server makes of them.
use Rattle.std.specs.Prelude.{ℕ, ◌==◌, ◌≡◌, [], Option, Some, None}
use Rattle.adb_outside.specs.Tables.{at}
use Rattle.adb_capture.specs.declared.entry.Entry.{Entry}
use Rattle.adb_wire.specs.declared.limits.TheConstants.{MIN_VERSION}
use Rattle.adb_history.specs.Rows.{State}
use Rattle.adb_history.specs.Machine.{History, IsLegal, state, step}
use Rattle.adb_hub_tables.specs.declared.ports.Port.{Port}
use Rattle.adb_hub_tables.specs.declared.tables.Tables.{Tables}
use Rattle.adb_hub_tables.specs.Tables.{state_of}
use Rattle.adb_hub_tables.specs.Places.{IsProvided}

-- Of a link no packet waits to be treated and no byte was wrong, and check words are looked at as its version has them.
pub record IsReadOut (port : Port) : Type 0 where
  pub given : port.link.incoming.given ≡ []
  pub sound : port.link.incoming.fault ≡ None
  pub sums : port.link.incoming.reading.sums ≡ (port.link.version == MIN_VERSION)

abbrev pub IsReadOutAt : Option Port → Type 0
IsReadOutAt None = Unit {0}
IsReadOutAt (Some port) = IsReadOut port

-- Tables between two entries.
pub record IsFit (t : Tables) : Type 0 where
  pub provided : IsProvided t
  pub read_out : (link : ℕ) → IsReadOutAt (at link t.links.entries)

-- A legal history leaves this state.
pub record IsReached (s : State) : Type 0 where
  pub history : History
  pub legal : IsLegal history
  pub is : s ≡ state history

-- The step of an entry was made.
pub record Makes (e : Entry) (old new : Tables) : Type 0 where
  pub state : state_of new ≡ (step (state_of old) e).state
  pub fit : IsFit new

-- Nothing was made: only places may have become more.
pub record Keeps (old new : Tables) : Type 0 where
  pub state : state_of new ≡ state_of old
  pub fit : IsFit new
