-- The states of a device, and their texts.
use Rattle.std.specs.Prelude.{ℕ, List, if◌then◌else◌, codes, bytes_eq}
use Rattle.adb_outside.specs.declared.identity.State.{State}
use Rattle.adb_outside.specs.declared.identity.State.TheVariants.{Offline, Unauthorized, Device, Bootloader, Recovery, Sideload, Rescue}
use Rattle.adb_outside.specs.declared.identity.State.TheVariants.{Host}

-- the state that a system of an identity means
abbrev pub state_of_system : List ℕ → State
state_of_system system =
    if bytes_eq system (codes "device") then Device
    else (if bytes_eq system (codes "bootloader") then Bootloader
    else (if bytes_eq system (codes "recovery") then Recovery
    else (if bytes_eq system (codes "sideload") then Sideload
    else (if bytes_eq system (codes "rescue") then Rescue
    else Host))))

-- the text of a state
abbrev pub text_of_state : State → List ℕ
text_of_state Offline = codes "offline"
text_of_state Unauthorized = codes "unauthorized"
text_of_state Device = codes "device"
text_of_state Bootloader = codes "bootloader"
text_of_state Recovery = codes "recovery"
text_of_state Sideload = codes "sideload"
text_of_state Rescue = codes "rescue"
text_of_state Host = codes "host"
