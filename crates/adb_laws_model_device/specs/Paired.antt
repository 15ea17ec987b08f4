-- A history whose first link has a device at its other end.
use Rattle.std.specs.Prelude.{ℕ, ◌+◌, ◌≡◌, ◌≢◌, ◌≤◌, false, [], ◌∷◌, Some}
use Rattle.adb_stream.specs.declared.row.Stream.{Stream}
use Rattle.adb_history.specs.Rows.{Client}
use Rattle.adb_history.specs.Machine.{History, state}
use Rattle.adb_history.specs.Bytes.{brought, sent}
use Rattle.adb_history.specs.Lives.{packets_of}
use Rattle.adb_history.specs.Births.{Birth, born, count_from, is_wrte}
use Rattle.adb_laws_births.specs.Brought.{ComeFirst}
use Rattle.adb_laws_causes.specs.Flows.{waiting}
use Rattle.adb_laws_model_device.specs.Counts.{okays_to}
use Rattle.adb_laws_model_device.specs.Devices.{RemoteEnd}

-- At each entry what the first link brought is a front of what its device owes for what it was sent before.
abbrev pub IsPaired : RemoteEnd → History → Type 0
IsPaired owes [] = Unit {0}
IsPaired owes (e ∷ older) = IsPaired owes older × ComeFirst (brought 1 (e ∷ older)) (owes (sent 1 older))

-- Nothing is on its way: all that became due on the link was sent, and all that the device owes was brought.
pub record IsStill (owes : RemoteEnd) (h : History) : Type 0 where
  pub sent_all : sent 1 h ≡ packets_of 1 h
  pub brought_all : brought 1 h ≡ owes (sent 1 h)

-- A stream of the link has no credit, and the device acknowledged its OPEN and all its writes.
pub record IsAcknowledged (owes : RemoteEnd) (h : History) (l : ℕ) (b : Birth) : Type 0 where
  pub own : b.link ≡ 1
  pub plain : b.credit ≡ false
  pub all : 1 + count_from is_wrte l (sent 1 h) ≤ okays_to l (owes (sent 1 h))

-- Where nothing is on its way, no write waits of an open stream that the device acknowledged and whose client is there.
abbrev pub NoWriteWaits : RemoteEnd → History → Type 0
NoWriteWaits owes h = IsStill owes h → (l : ℕ) (b : Birth) (x : Stream) (k : Client) → born l h ≡ Some b → (state h).streams l ≡ Some x
    → x.part.orphan ≡ false → x.part.remote ≢ 0 → (state h).clients x.client ≡ Some k → IsAcknowledged owes h l b → waiting x.part.flow ≡ 0
