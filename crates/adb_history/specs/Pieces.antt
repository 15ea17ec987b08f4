-- Requests that come in pieces.
use Rattle.std.specs.Prelude.{ℕ, ◌≡◌, List, ◌++◌, None}
use Rattle.adb_registry.specs.Registry.{DeviceTable}
use Rattle.adb_forward.specs.declared.row.ForwardRow.{ForwardRow}
use Rattle.adb_history.specs.Asking.{Asked, asks_with}

-- Bytes that are read in two pieces ask what they ask when they are read at once, over the same devices and forwards,
-- where a next request is read after
-- the first piece.
abbrev pub AreReadAtOnce : DeviceTable → List (ℕ × ForwardRow) → Type 0
AreReadAtOnce devices forwards =
    (first second : List ℕ) (q : Asked) → (asks_with devices forwards first q).next ≡ None
    → asks_with devices forwards second (asks_with devices forwards first q) ≡ asks_with devices forwards (first ++ second) q
