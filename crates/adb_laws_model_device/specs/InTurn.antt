-- Packets of a stream that come in their turn.
use Rattle.std.specs.Prelude.{ℕ, ◌+◌, ◌≡◌, ◌≤◌, true, List, [], ◌∷◌, Some}
use Rattle.adb_wire.specs.declared.packets.Packet.{Packet}
use Rattle.adb_history.specs.Bytes.{sent}
use Rattle.adb_history.specs.Births.{Birth, born, remote_of, count_from, is_wrte, is_open}
use Rattle.adb_history.specs.Machine.{History}

-- A packet comes in its turn, where the stream was asked for so often before: it is asked for once, and its writes
-- come behind that, to one id.
pub record IsInTurn (l id opens : ℕ) (p : Packet) : Type 0 where
  pub asked : is_open p.command ≡ true → p.arg0 ≡ l → opens ≡ 0
  pub wrte : is_wrte p.command ≡ true → p.arg0 ≡ l → (1 ≤ opens) × (p.arg1 ≡ id)

-- packets that all come in their turn
abbrev pub AreInTurn : (l id opens : ℕ) → List Packet → Type 0
AreInTurn l id opens [] = Unit {0}
AreInTurn l id opens (p ∷ packets) = IsInTurn l id opens p × AreInTurn l id (opens + count_from is_open l (p ∷ [])) packets

-- What was sent of each stream that was born came in its turn, its writes to the id that the device told.
abbrev pub SentInTurn : History → Type 0
SentInTurn h = (l : ℕ) (b : Birth) → born l h ≡ Some b → AreInTurn l (remote_of l b h) 0 (sent 1 h)
