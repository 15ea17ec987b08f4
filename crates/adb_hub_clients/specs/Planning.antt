-- What a client asks, as a plan says it.
use Rattle.std.specs.Prelude.{ℕ, ◌≡◌, ◌≤◌, List, [], length, Option, Some, None}
use Rattle.adb_client.specs.Client.{SeenClient}
use Rattle.adb_history.specs.Rows.{Client, State}
use Rattle.adb_history.specs.Events.{Made}
use Rattle.adb_history.specs.Asking.{reads_on, asks_with}
use Rattle.adb_history.specs.Reading.{asked_before, asks}
use Rattle.adb_hub_clients.specs.Leaving.{Leaves}
use Rattle.adb_hub_clients.specs.Plan.{asking, asked_by, IsWholePlan}
use Rattle.adb_hub_clients.specs.declared.plan.Plan.{Plan}
use Rattle.adb_hub_tables.specs.declared.tables.Tables.{Tables}
use Rattle.adb_hub_tables.specs.Tables.{state_of}

-- A plan says what a client asks.
pub record Plans (t : Tables) (client : SeenClient) (plan : Plan) : Type 0 where
  pub asked : asked_by plan client.held ≡ reads_on t.devices t.forwards (length client.held) (asking client.held client.about.selected)
  pub within : plan.used ≤ length client.held

-- There is a plan where the client is there.
abbrev pub PlansAt : Tables → Option SeenClient → Option Plan → Type 0
PlansAt t None None = Unit {0}
PlansAt t (Some client) (Some plan) = Plans t client plan
PlansAt t None (Some plan) = ⊥
PlansAt t (Some client) None = ⊥

-- what is made when all whole requests that a client holds are answered, and what is kept then
abbrev pub answers : ℕ → Client → State → Made
answers c row s = asks (reads_on s.devices s.forwards (length row.held) (asking row.held row.about.selected)) c s

abbrev pub answered : ℕ → Client → State → State
answered c row s = (answers c row s).state

-- There is a client that holds nothing, and a piece asks this of it.
pub record IsAskedWhole (t : Tables) (client : SeenClient) (piece : List ℕ) (plan : Plan) : Type 0 where
  pub none : client.held ≡ []
  pub asked : IsWholePlan t.devices t.forwards client.about.selected piece plan

-- the same of a client that may not be there
abbrev pub PlansWhole : Tables → Option SeenClient → List ℕ → Plan → Type 0
PlansWhole t None piece plan = ⊥
PlansWhole t (Some client) piece plan = IsAskedWhole t client piece plan

-- The whole requests that a client asks by a piece are answered, where the client is there.
abbrev pub Answers : ℕ → List ℕ → (old new : Tables) → Type 0
Answers c piece old new = (row : Client) → (state_of old).clients c ≡ Some row
    → Leaves (asks (asks_with old.devices old.forwards piece (asked_before row)) c (state_of old)).state new
