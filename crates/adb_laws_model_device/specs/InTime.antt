-- Acknowledgements of the server that come to the device in time.
use Rattle.std.specs.Prelude.{ℕ, ◌≡◌, ◌≤◌, false, List, [], ◌∷◌, ◌++◌, Some}
use Rattle.adb_wire.specs.declared.packets.Packet.{Packet}
use Rattle.adb_history.specs.Machine.{History}
use Rattle.adb_history.specs.Births.{Birth, born, count_from, is_okay}
use Rattle.adb_laws_model_device.specs.Counts.{writes_to}
use Rattle.adb_laws_model_device.specs.Devices.{RemoteEnd}

-- no stream that was born has credit
abbrev pub AllPlain : History → Type 0
AllPlain h = (l : ℕ) (b : Birth) → born l h ≡ Some b → b.credit ≡ false

-- Each OKAY that the device is sent comes behind the write that it answers: with each packet there are no more of
-- them than it had written before.
abbrev pub IsToldInTime : RemoteEnd → List Packet → Type 0
IsToldInTime owes packets = (l : ℕ) (front : List Packet) (p : Packet) (rest : List Packet) → front ++ p ∷ rest ≡ packets
    → count_from is_okay l (front ++ p ∷ []) ≤ writes_to l (owes front)
