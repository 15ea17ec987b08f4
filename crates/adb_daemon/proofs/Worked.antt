-- Worked sessions with a model device, computed from the definitions.
use Rattle.std.specs.Prelude.{ℕ, ◌≡◌, Bool, true, false, List, [], ◌∷◌, ◌++◌, codes, refl}
use Rattle.adb_wire.specs.declared.command.Command.{Command}
use Rattle.adb_wire.specs.declared.command.Command.TheVariants as commands
use Rattle.adb_wire.specs.declared.packets.Packet.{Packet}
use Rattle.adb_banner.specs.Banner.{identity_of, last_value}
use Rattle.adb_device_streams.specs.Stream.{wrte, okay, clse}
use Rattle.adb_daemon.specs.Serving.{Sent, with_sum}
use Rattle.adb_daemon.specs.Device.{Setting, step, device_behind, own_cnxn}

abbrev of : Command → ℕ → ℕ → List ℕ → Packet
of command arg0 arg1 payload = record { command = command; arg0 = arg0; arg1 = arg1; payload = payload }

-- the CNXN of a host with credit in bytes, and of one without
abbrev host : Packet
host = of commands.Cnxn 0x01000001 1048576 (codes "host::features=shell_v2,hub_credit")

abbrev plain_host : Packet
plain_host = of commands.Cnxn 0x01000001 1048576 (codes "host::features=shell_v2")

abbrev setting : Bool → Setting
setting credit = record { most = 4096; credit = credit; files = [] }

-- what becomes due behind the device's own CNXN
abbrev owed_to : Bool → List Packet → List Sent → Type 0
owed_to credit packets sent = (device_behind (setting credit) packets).serving.made ≡ own_cnxn (setting credit) ∷ sent

credit_is_given_and_given_back :
    owed_to true (host ∷ of commands.Open 1 262144 (codes "echo:" ++ 0 ∷ []) ∷ of commands.Wrte 1 1 (codes "abc") ∷ [])
    (with_sum false (okay 1 1 (0 ∷ 0 ∷ 4 ∷ 0 ∷ [])) ∷ with_sum false (okay 1 1 (3 ∷ 0 ∷ 0 ∷ 0 ∷ []))
    ∷ with_sum false (wrte 1 1 (codes "abc")) ∷ [])
unfolding step identity_of last_value
credit_is_given_and_given_back = refl

-- one write at a time; the last OKAY brings the CLSE
pub shell_v2_packets :
    owed_to false (plain_host ∷ of commands.Open 7 0 (codes "shell,v2,raw:echo hi") ∷ of commands.Okay 7 1 [] ∷ [])
    (with_sum false (okay 1 7 [])
    ∷ with_sum false (wrte 1 7 (1 ∷ 3 ∷ 0 ∷ 0 ∷ 0 ∷ 104 ∷ 105 ∷ 10 ∷ 3 ∷ 1 ∷ 0 ∷ 0 ∷ 0 ∷ 0 ∷ []))
    ∷ with_sum false
    (clse 1 7) ∷ [])
unfolding step identity_of last_value
shell_v2_packets = refl
