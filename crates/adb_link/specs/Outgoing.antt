-- One packet that is due.
use Rattle.std.specs.Prelude.{ℕ, ◌-◌, ◌≡◌, ◌≤◌, List, ◌++◌, length, take, drop}
use Rattle.adb_wire.specs.declared.headers.TheConstants.{MAX_PAYLOAD}
use Rattle.adb_link.specs.declared.outgoing.TheConstants.{START_LEN}

-- the bytes of its start between two places, and those of its payload
abbrev pub left_of : List ℕ → ℕ → ℕ → List ℕ → List ℕ
left_of start from to payload = take (to - from) (drop from start) ++ payload

-- The places lie in the start, in order, and the payload is as long as one may be.
pub record IsHeld (start : List ℕ) (from to : ℕ) (payload : List ℕ) : Type 0 where
  pub long : length start ≡ START_LEN
  pub ordered : from ≤ to
  pub within : to ≤ START_LEN
  pub size : length payload ≤ MAX_PAYLOAD
