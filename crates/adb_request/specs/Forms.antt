-- The forms of requests that stand behind a prefix, which says of which device they ask (SERVICES.TXT, `<host-prefix>:<command>`).
use Rattle.std.specs.Prelude.{ℕ, ◌+◌, Bool, true, false, ◌||◌, ◌&&◌, ◌==◌, nat_eq, nat_lt, nat_le, if◌then◌else◌, List, length, take, drop}
use Rattle.std.specs.Prelude.{Option}
use Rattle.std.specs.Prelude.{Some, None, codes, bytes_eq, option_and_then, option_map, position}
use Rattle.std.specs.Option.{option_or}
use Rattle.std.specs.List.{starts_with}
use Rattle.adb_outside.specs.Bytes.{is_graphic}
use Rattle.adb_outside.specs.Decimal.{number_in}
use Rattle.adb_outside.specs.declared.remote.TheConstants.{MAX_REMOTE}
use Rattle.adb_request.specs.declared.request.Which.{Which}
use Rattle.adb_request.specs.declared.request.Request.{Request}
use Rattle.adb_request.specs.declared.request.Request.TheVariants.{Serialno, Devpath, GetState, Features, Forward, BadForward, KillForward}
use Rattle.adb_request.specs.declared.request.Request.TheVariants.{KillAll}
use Rattle.adb_request.specs.declared.request.Request.TheVariants.{ListForward}

-- what stands behind a word that a text begins with
abbrev pub behind : List ℕ → List ℕ → Option (List ℕ)
behind word text = if starts_with nat_eq text word then Some (drop (length word) text) else None

-- a number no larger than that
abbrev pub at_most : ℕ → ℕ → Option ℕ
at_most most n = if nat_le n most then Some n else None

-- the port of a local end, `tcp:` and 1 to 5 digits of at most 65,535
abbrev pub local_in : List ℕ → Option ℕ
local_in text = option_and_then (at_most 65535) (option_and_then (number_in 5) (behind (codes "tcp:") text))

-- whether a text can be the remote end of a forward: 1 to 512 bytes that are printed, and no space
abbrev pub is_remote : List ℕ → Bool
is_remote text = nat_lt 0 (length text) && nat_le (length text) MAX_REMOTE && is_graphic text

-- `;`
abbrev pub semicolon : ℕ
semicolon = 59

abbrev pub forward_between : Which → Bool → Option ℕ → List ℕ → Request
forward_between on norebind None remote = BadForward
forward_between on norebind (Some local) remote = if is_remote remote then Forward on norebind local remote else BadForward

abbrev pub forward_at : Which → Bool → List ℕ → Option ℕ → Request
forward_at on norebind spec None = BadForward
forward_at on norebind spec (Some place) = forward_between on norebind (local_in (take place spec)) (drop (place + 1) spec)

-- the forward of a specification `<local>;<remote>`, which is cut at its first `;`
abbrev pub forward_of : Which → Bool → List ℕ → Request
forward_of on norebind spec = forward_at on norebind spec (position (λ byte. byte == semicolon) spec)

-- the forward that goes, of its local end, whose port is not 0
abbrev pub killed_at : Option ℕ → Request
killed_at None = BadForward
killed_at (Some port) = if nat_eq port 0 then BadForward else KillForward port

-- a row of a table of texts: the request of that text
abbrev pub row : List ℕ → Request → List ℕ → Option Request
row word request text = if bytes_eq text word then Some request else None

-- the forms behind a prefix that say nothing else
abbrev pub fixed_form : Which → List ℕ → Option Request
fixed_form on text =
    option_or (row (codes "get-serialno") (Serialno on) text)
    (option_or (row (codes "get-devpath") (Devpath on) text)
    (option_or (row (codes "get-state") (GetState on) text)
    (option_or (row (codes "features") (Features on) text)
    (option_or (row (codes "killforward-all") KillAll text)
    (row (codes "list-forward") ListForward text)))))

-- the forms behind a prefix that name a forward; one of `norebind` is read so, and not by the row below it
abbrev pub forward_form : Which → List ℕ → Option Request
forward_form on text =
    option_or (option_map (forward_of on true) (behind (codes "forward:norebind:") text))
    (option_or (option_map (forward_of on false) (behind (codes "forward:") text))
    (option_map (λ local. killed_at (local_in local)) (behind (codes "killforward:") text)))

-- The forms behind a prefix. But for `norebind` at most one row fits a text.
abbrev pub form : Which → List ℕ → Option Request
form on text = option_or (fixed_form on text) (forward_form on text)

-- whether a text is one of the forms that say nothing else
abbrev pub is_fixed : List ℕ → Bool
is_fixed text =
    bytes_eq text (codes "get-serialno") || (bytes_eq text (codes "get-devpath") || (bytes_eq text (codes "get-state")
    || (bytes_eq text (codes "features") || (bytes_eq text (codes "killforward-all") || bytes_eq text (codes "list-forward")))))

-- whether a text is one of the forms, whatever its prefix
abbrev pub is_form : List ℕ → Bool
is_form text = is_fixed text || (starts_with nat_eq text (codes "forward:") || starts_with nat_eq text (codes "killforward:"))
