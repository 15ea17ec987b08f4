-- Clients that wait for the listener of a forward.
use Rattle.std.specs.Prelude.{ℕ, ◌≡◌, ◌&&◌, Bool, true, false, List, is_some, Option, Some, None}
use Rattle.adb_client.specs.declared.about.Want.{Want}
use Rattle.adb_client.specs.declared.phase.Phase.{Phase}
use Rattle.adb_client.specs.declared.phase.Phase.TheVariants.{Binding}
use Rattle.adb_forward.specs.declared.row.ForwardRow.{ForwardRow}
use Rattle.adb_history.specs.Rows.{Client}
use Rattle.adb_history.specs.Forwarding.{bound_by}
use Rattle.adb_laws_resting.specs.Wanted.{IsRemote}
use Rattle.adb_hub_tables.specs.declared.tables.Tables.{Tables}

abbrev pub is_binding : Phase → Bool
is_binding Binding = true
is_binding _ = false

-- whether a client waits for the listener of a forward
abbrev pub waits : Option Client → Bool
waits None = false
waits (Some client) = is_binding client.about.phase && is_some client.about.want

-- the forward that a client wants
abbrev pub want_of : Option Client → Option Want
want_of None = None
want_of (Some client) = client.about.want

abbrev pub IsWanted : Option Want → Type 0
IsWanted None = Unit {0}
IsWanted (Some want) = IsRemote want.remote

-- What a client wants is a forward that there may be.
abbrev pub WantsForward : Option Client → Type 0
WantsForward row = IsWanted (want_of row)

-- What a client is told whose listener stands at a port, or could not be made, and the forwards then.
pub record IsBound (want : Want) (port : ℕ) (old : Tables) (reply : List ℕ) (forwards : List (ℕ × ForwardRow)) : Type 0 where
  pub reply_is : reply ≡ (bound_by want port old.devices old.forwards).reply
  pub forwards_are : forwards ≡ (bound_by want port old.devices old.forwards).forwards
