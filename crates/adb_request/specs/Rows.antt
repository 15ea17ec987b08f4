-- Texts whose request says nothing else, each with it: the rows of the table of requests that are one text (SERVICES.TXT, "HOST SERVICES").
use Rattle.std.specs.Prelude.{ℕ, true, false, if◌then◌else◌, List, [], ◌∷◌, ◌++◌, map, Option, Some, None, codes, bytes_eq}
use Rattle.adb_outside.specs.declared.kinds.Selector.TheVariants.{Any, Usb, Local}
use Rattle.adb_request.specs.declared.request.Which.{Which}
use Rattle.adb_request.specs.declared.request.Which.TheVariants.{Own, By}
use Rattle.adb_request.specs.declared.request.Request.{Request}
use Rattle.adb_request.specs.declared.request.Request.TheVariants.{Version, Kill, Devices, Track, Transport, Serialno, Devpath, GetState}
use Rattle.adb_request.specs.declared.request.Request.TheVariants.{Features}
use Rattle.adb_request.specs.declared.request.Request.TheVariants.{KillAll, ListForward}

-- the requests behind `host:` that say nothing else
abbrev pub plain_rows : List (List ℕ × Request)
plain_rows =
    (codes "version", Version) ∷ (codes "kill", Kill)
    ∷ (codes "devices", Devices false) ∷ (codes "devices-l", Devices true)
    ∷ (codes "track-devices", Track false) ∷ (codes "track-devices-l", Track true) ∷ []

-- those that select a device by its kind
abbrev pub transport_rows : List (List ℕ × Request)
transport_rows =
    (codes "transport-usb", Transport Usb false) ∷ (codes "transport-local", Transport Local false)
    ∷ (codes "transport-any", Transport Any false) ∷ (codes "tport:usb", Transport Usb true)
    ∷ (codes "tport:local", Transport Local true) ∷ (codes "tport:any", Transport Any true) ∷ []

-- the request of the row that a text is
abbrev pub row_of : List (List ℕ × Request) → List ℕ → Option Request
row_of [] text = None
row_of (first ∷ rows) text = if bytes_eq text first.0 then Some first.1 else row_of rows text

abbrev pub behind_host : List (List ℕ × Request) → List (List ℕ × Request)
behind_host rows = map (λ row. (codes "host:" ++ row.0, row.1)) rows

-- the rows behind a prefix, and the device that it means
abbrev pub rows_behind : List ℕ → Which → List (List ℕ × Request)
rows_behind prefix on =
    (prefix ++ codes "get-serialno", Serialno on) ∷ (prefix ++ codes "get-devpath", Devpath on)
    ∷ (prefix ++ codes "get-state", GetState on) ∷ (prefix ++ codes "features", Features on)
    ∷ (prefix ++ codes "killforward-all", KillAll) ∷ (prefix ++ codes "list-forward", ListForward) ∷ []

abbrev pub fixed_rows : List (List ℕ × Request)
fixed_rows =
    behind_host (plain_rows ++ transport_rows) ++ rows_behind (codes "host:") Own ++ rows_behind (codes "host-usb:") (By Usb)
    ++ rows_behind (codes "host-local:") (By Local)
