-- The words of the client tools.
use Rattle.std.specs.Prelude.{ℕ, ◌^◌, ◌-◌, ◌&&◌, ◌||◌, Bool, false, nat_le, if◌then◌else◌, List, [], ◌∷◌, length, codes, bytes_eq}
use Rattle.std.specs.Prelude.{Option, Some, None, option_map, option_and_then}
use Rattle.adb_outside.specs.declared.identity.State.{State}
use Rattle.adb_outside.specs.declared.identity.State.TheVariants.{Offline, Unauthorized, Device, Bootloader, Recovery, Sideload, Rescue}
use Rattle.adb_outside.specs.declared.identity.State.TheVariants.{Host}
use Rattle.adb_words.specs.declared.tool.Tool.{Tool}
use Rattle.adb_words.specs.declared.tool.Tool.TheVariants.{Devices, Push, Pull, Shell, Wait}
use Rattle.adb_words.specs.declared.tool.Call.{Call}
use Rattle.adb_words.specs.declared.command.TheConstants.{MAX_OPERAND}
use Rattle.adb_words.specs.Words.{number_within}
use Rattle.adb_words.specs.Given.{Layout, Given, given_in, values_of}
use Rattle.adb_words.specs.Serve.{port_of, serial_of}

-- a tool that has these options, and operands
abbrev pub tool_layout : List (List ℕ) → Layout
tool_layout options = record { options = options; flags = []; operand = Some (codes "operand") }

abbrev pub port_layout : Layout
port_layout = tool_layout (codes "port" ∷ [])

abbrev pub serial_layout : Layout
serial_layout = tool_layout (codes "port" ∷ codes "serial" ∷ [])

abbrev pub push_layout : Layout
push_layout = tool_layout (codes "port" ∷ codes "serial" ∷ codes "mtime" ∷ [])

-- the serial that an option gives at most once
abbrev pub wanted_of : List (List ℕ) → Option (Option (List ℕ))
wanted_of [] = Some None
wanted_of (text ∷ []) = option_map (λ serial. Some serial) (serial_of text)
wanted_of _ = None

-- the time that an option gives at most once
abbrev pub mtime_of : List (List ℕ) → Option ℕ
mtime_of [] = Some 0
mtime_of (text ∷ []) = number_within 0 (2 ^ 32 - 1) text
mtime_of _ = None

-- the one operand: a path or a command
abbrev pub operand_of : List (List ℕ) → Option (List ℕ)
operand_of (text ∷ []) = if nat_le 1 (length text) && nat_le (length text) MAX_OPERAND then Some text else None
operand_of _ = None

-- the state that a text names
abbrev pub state_named : List ℕ → Option State
state_named text =
    if bytes_eq text (codes "offline") then Some Offline
    else (if bytes_eq text (codes "unauthorized") then Some Unauthorized
    else (if bytes_eq text (codes "device") then Some Device
    else (if bytes_eq text (codes "bootloader") then Some Bootloader
    else (if bytes_eq text (codes "recovery") then Some Recovery
    else (if bytes_eq text (codes "sideload") then Some Sideload
    else (if bytes_eq text (codes "rescue") then Some Rescue
    else (if bytes_eq text (codes "host") then Some Host
    else None)))))))

abbrev pub devices_of : List (List ℕ) → Option Tool
devices_of [] = Some Devices
devices_of _ = None

abbrev pub wait_by : Option (List ℕ) → Option State → Option Tool
wait_by (Some serial) (Some state) = Some (Wait serial state)
wait_by _ _ = None

abbrev pub wait_of : List (List ℕ) → Option Tool
wait_of (serial ∷ state ∷ []) = wait_by (serial_of serial) (state_named state)
wait_of _ = None

abbrev pub push_of : Option (List ℕ) → Option ℕ → Option (Option (List ℕ)) → Option Tool
push_of (Some path) (Some mtime) (Some serial) = Some (Push path mtime serial)
push_of _ _ _ = None

abbrev pub pull_of : Option (List ℕ) → Option (Option (List ℕ)) → Option Tool
pull_of (Some path) (Some serial) = Some (Pull path serial)
pull_of _ _ = None

abbrev pub shell_of : Option (List ℕ) → Option (Option (List ℕ)) → Option Tool
shell_of (Some command) (Some serial) = Some (Shell command serial)
shell_of _ _ = None

-- a tool's call, at a port
abbrev pub call_of : Option ℕ → Option Tool → Option Call
call_of (Some port) (Some tool) = Some (record { port = port; tool = tool })
call_of _ _ = None

abbrev pub is_tool : List ℕ → Bool
is_tool name = bytes_eq name (codes "devices") || bytes_eq name (codes "push") || bytes_eq name (codes "pull")
    || bytes_eq name (codes "shell") || bytes_eq name (codes "wait")

-- the options and operands of a tool
abbrev pub layout_named : List ℕ → Layout
layout_named name =
    if bytes_eq name (codes "push") then push_layout
    else (if bytes_eq name (codes "pull") || bytes_eq name (codes "shell") then serial_layout
    else port_layout)

-- a tool by its operands, and the values of `--serial` and `--mtime`
abbrev pub tool_by : List ℕ → List (List ℕ) → List (List ℕ) → List (List ℕ) → Option Tool
tool_by name operands serials mtimes =
    if bytes_eq name (codes "devices") then devices_of operands
    else (if bytes_eq name (codes "push") then push_of (operand_of operands) (mtime_of mtimes) (wanted_of serials)
    else (if bytes_eq name (codes "pull") then pull_of (operand_of operands) (wanted_of serials)
    else (if bytes_eq name (codes "shell") then shell_of (operand_of operands) (wanted_of serials)
    else wait_of operands)))

-- the call of a tool by the values of each name
abbrev pub called_by : List ℕ → (List ℕ → List (List ℕ)) → Option Call
called_by name values = call_of (port_of 1 (values (codes "port")))
    (tool_by name (values (codes "operand")) (values (codes "serial")) (values (codes "mtime")))

abbrev pub called : List ℕ → Given → Option Call
called name given = called_by name (λ id. values_of id given)

-- the call of a tool, of the words behind its name
abbrev pub tool_named : List ℕ → List (List ℕ) → Option Call
tool_named name words = option_and_then (called name) (given_in (layout_named name) words)

-- the call of a tool that words are
abbrev pub tool_of : List (List ℕ) → Option Call
tool_of [] = None
tool_of (name ∷ words) = if is_tool name then tool_named name words else None

-- whether the first word is the name of a tool
abbrev pub names_tool : List (List ℕ) → Bool
names_tool [] = false
names_tool (name ∷ words) = is_tool name
