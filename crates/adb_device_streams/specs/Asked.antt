-- What an OPEN asks for (SERVICES.TXT).
use Rattle.std.specs.Prelude.{ℕ, ◌+◌, ◌-◌, ◌==◌, ◌&&◌, nat_lt, if◌then◌else◌, Bool, false, List, length, take, drop, slice_index}
use Rattle.std.specs.Prelude.{Option, Some, None, codes, bytes_eq, nat_eq}
use Rattle.std.specs.List.{slice_split, list_any, starts_with, position}
use Rattle.adb_device_streams.specs.declared.asked.Asked.{Asked}
use Rattle.adb_device_streams.specs.declared.asked.Asked.TheVariants as askeds

-- a service: one that writes back what it gets, the file sync service, or a command whose streams are packets or not
pub data Kind : Type 0 where
  Echoes : Kind
  Syncs : Kind
  Shells : (packets : Bool) (command : List ℕ) → Kind

-- the same of what the code says
abbrev pub kind_of : Asked → Kind
kind_of askeds.Echo = Echoes
kind_of askeds.Sync = Syncs
kind_of (askeds.Shell packets command) = Shells packets command.now

-- the name of the service that a payload asks for: without its last byte where that is a NUL
abbrev pub name_of : List ℕ → List ℕ
name_of payload =
    if nat_lt 0 (length payload) && slice_index payload (length payload - 1) == 0 then take (length payload - 1) payload else payload

-- whether `v2` is among comma-separated words
abbrev pub has_v2 : List ℕ → Bool
has_v2 words = list_any (λ word. bytes_eq word (codes "v2")) (slice_split (λ byte. byte == 44) words)

-- the shell service of words, a colon and a command
abbrev pub shell_cut : List ℕ → Option ℕ → Option Kind
shell_cut rest None = None
shell_cut rest (Some colon) = Some (Shells (has_v2 (take colon rest)) (drop (colon + 1) rest))

abbrev pub colon_in : List ℕ → Option ℕ
colon_in rest = position (λ byte. byte == 58) rest

abbrev pub shell_with : List ℕ → Option Kind
shell_with rest = shell_cut rest (colon_in rest)

-- the service of a name, where the device knows one
abbrev pub service_of : List ℕ → Option Kind
service_of name =
    if bytes_eq name (codes "echo:") then Some Echoes
    else (if bytes_eq name (codes "sync:") then Some Syncs
    else (if starts_with nat_eq name (codes "shell:") then Some (Shells false (drop 6 name))
    else (if starts_with nat_eq name (codes "shell,") then shell_with (drop 6 name)
    else None)))
