-- The bytes that payloads are cut from.
use Rattle.std.specs.Prelude.{ℕ, ◌≡◌, ◌≤◌, List, length}
use Rattle.adb_load.specs.Acts.{cycle}

-- The cycle from its first byte on, so many bytes of it at least.
pub record Prepares (least : ℕ) (bytes : List ℕ) : Type 0 where
  pub cycles : bytes ≡ cycle 0 0 (length bytes)
  pub enough : least ≤ length bytes
