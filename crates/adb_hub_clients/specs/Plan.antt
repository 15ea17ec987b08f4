-- What a client that asks has asked, as a plan says it.
use Rattle.std.specs.Prelude.{ℕ, ◌≡◌, List, [], length, drop, Option, None}
use Rattle.adb_registry.specs.Registry.{DeviceTable}
use Rattle.adb_forward.specs.declared.row.ForwardRow.{ForwardRow}
use Rattle.adb_history.specs.Asking.{Asked, reads_on}
use Rattle.adb_hub_clients.specs.declared.plan.Plan.{Plan}

-- a client that holds these bytes and selected this transport, before they are read
abbrev pub asking : List ℕ → Option ℕ → Asked
asking held selected = record { replies = []; used = 0; rest = held; selected = selected; next = None }

-- what a plan says that these bytes ask
abbrev pub asked_by : Plan → List ℕ → Asked
asked_by plan held =
    record {
      replies = plan.replies;
      used = plan.used;
      rest = drop plan.used held;
      selected = plan.selected;
      next =
          plan.next;
    }

-- A piece that comes behind nothing is whole requests, and asks this of a client that selected that transport.
pub record IsWholePlan (devices : DeviceTable) (forwards : List (ℕ × ForwardRow)) (selected : Option ℕ)
    (piece : List ℕ) (plan : Plan) : Type 0 where
  pub asked : asked_by plan piece ≡ reads_on devices forwards (length piece) (asking piece selected)
  pub all : plan.used ≡ length piece
