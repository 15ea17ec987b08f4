-- What a model device owes for the packets of its host, in packets and in bytes.
use Rattle.std.specs.Prelude.{ℕ, List, map}
use Rattle.adb_wire.specs.declared.packets.Packet.{Packet}
use Rattle.adb_daemon.specs.Serving.{Sent, sent_bytes}
use Rattle.adb_daemon.specs.Daemon.{device_of}
use Rattle.adb_daemon.specs.Device.{Setting, device_behind}

-- the packets of what became due
abbrev pub packets_of_sent : List Sent → List Packet
packets_of_sent made = map (λ (one : Sent). one.packet) made

-- all packets that a device owes behind packets of its host
abbrev pub packets_owed : Setting → List Packet → List Packet
packets_owed setting packets = packets_of_sent (device_behind setting packets).serving.made

-- all bytes that it owes behind bytes of its host
abbrev pub bytes_owed : Setting → List ℕ → List ℕ
bytes_owed setting fed = sent_bytes (device_of setting fed).serving.made
