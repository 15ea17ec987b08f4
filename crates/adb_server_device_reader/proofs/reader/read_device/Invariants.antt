use Rattle.std.proofs.Common.{◌≡◌, ◌<◌, ◌≤◌, List, ℕ, Some}
use Rattle.adb_capture.specs.declared.entry.Entry.{Entry}
use Rattle.adb_wire.specs.Slicing.{need_of}
use Rattle.adb_server_hall.specs.Telling.{Telling}
use Rattle.adb_server_hall.specs.Made.{Tells}
use Rattle.adb_server_device_reader.specs.Reading.{IsReading}
use Rattle.adb_server_device_reader.proofs.reader.read_device.Given as goal

abbrev pub invariant-loop : goal.invariant-loop
invariant-loop g l =
    (goal.iterator-loop g).can_next l.iterator' × (goal.iterator-loop g).is_finite l.iterator'
    × (l.pass.pass.number ≡ l.fn.pass.pass.number) × (0 < need_of l.packets) × (g.H.Hall.marked l.hall ≡ g.H.Hall.marked l.fn.hall)
    × (g.I.DeviceIn.faults l.fn.port ≤ g.I.DeviceIn.faults l.port) × (g.I.DeviceIn.plugs l.port ≡ g.I.DeviceIn.plugs l.fn.port)
    × ((a : Telling) (entries : List Entry) (bytes : List ℕ) → g.H.Hall.tells l.fn.hall ≡ Some a → Tells a entries
    → g.I.DeviceIn.left l.fn.port ≡ Some bytes
    → IsReading l.fn.pass.pass.number
    (record { entries = entries; bytes = bytes; faults = g.I.DeviceIn.faults l.fn.port; starved = l.fn.pass.pass.starved }) l.packets
    (g.I.DeviceIn.faults l.port) l.pass.pass.starved (g.H.Hall.tells l.hall) (g.I.DeviceIn.left l.port))
