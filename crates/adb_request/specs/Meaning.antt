-- What a request's text means: the table of requests, whose rows are tried as whole texts (SERVICES.TXT, "HOST SERVICES").
use Rattle.std.specs.Prelude.{ℕ, ◌+◌, ◌==◌, true, false, if◌then◌else◌, List, [], ◌∷◌, ◌++◌, take, drop, Option, codes, unwrap_or}
use Rattle.std.specs.Prelude.{option_and_then, option_map, position, find}
use Rattle.std.specs.Option.{option_or}
use Rattle.adb_outside.specs.Decimal.{number_in}
use Rattle.adb_outside.specs.declared.kinds.Selector.TheVariants.{Usb, Local, Serial, Id}
use Rattle.adb_request.specs.Forms.{behind, at_most, form, is_form}
use Rattle.adb_request.specs.Rows.{plain_rows, transport_rows, row_of}
use Rattle.adb_request.specs.declared.request.Which.TheVariants.{Own, By}
use Rattle.adb_request.specs.declared.request.Request.{Request}
use Rattle.adb_request.specs.declared.request.Request.TheVariants.{Transport, Service, UnknownHost}

-- a transport id: 1 to 10 digits of at most 4,294,967,295
abbrev pub id_in : List ℕ → Option ℕ
id_in text = option_and_then (at_most 4294967295) (number_in 10 text)

-- the requests behind `host:` that are one text
abbrev pub fixed_request : List ℕ → Option Request
fixed_request text = row_of (plain_rows ++ transport_rows) text

-- the request behind `host:`; a serial is the whole rest, also an empty one
abbrev pub host_request : List ℕ → Option Request
host_request text =
    option_or (fixed_request text)
    (option_or (option_map (λ serial. Transport (Serial serial) false) (behind (codes "transport:") text))
    (option_or (option_map (λ serial. Transport (Serial serial) true) (behind (codes "tport:serial:") text))
    (option_or (option_map (λ id. Transport (Id id) false) (option_and_then id_in (behind (codes "transport-id:") text)))
    (form Own text))))

-- `:`
abbrev pub colon : ℕ
colon = 58

-- what stands before and behind a colon
pub record Split : Type 0 where
  pub before : List ℕ
  pub after : List ℕ

-- a text cut at a place
abbrev pub split_at : List ℕ → ℕ → Split
split_at text place = record { before = take place text; after = drop (place + 1) text }

-- a text behind some bytes, cut at each of its colons
abbrev pub splits_behind : List ℕ → List ℕ → List Split
splits_behind front [] = []
splits_behind front (b ∷ text) =
    if b == colon then record { before = front; after = text } ∷ splits_behind (front ++ b ∷ []) text
    else splits_behind (front ++ b ∷ []) text

-- what stands behind `host-serial:`, whose serial ends at the first colon behind which a form stands
abbrev pub serial_request : List ℕ → Option Request
serial_request text =
    option_and_then (λ split. form (By (Serial split.before)) split.after) (find (λ split. is_form split.after) (splits_behind [] text))

-- what stands behind `host-transport-id:`, whose id ends at the first colon
abbrev pub id_request : List ℕ → Option Request
id_request text =
    option_and_then (λ place. option_and_then (λ id. form (By (Id id)) (drop (place + 1) text)) (id_in (take place text)))
    (position (λ byte. byte == colon) text)

-- a text that asks the host, and means nothing where no row fits it
abbrev pub or_unknown : Option Request → Request
or_unknown request = unwrap_or request UnknownHost

-- A text behind one of the five prefixes asks the host; no two of them begin one text.
abbrev pub host_meaning : List ℕ → Option Request
host_meaning text =
    option_or (option_map (λ rest. or_unknown (host_request rest)) (behind (codes "host:") text))
    (option_or (option_map (λ rest. or_unknown (serial_request rest)) (behind (codes "host-serial:") text))
    (option_or (option_map (λ rest. or_unknown (form (By Usb) rest)) (behind (codes "host-usb:") text))
    (option_or (option_map (λ rest. or_unknown (form (By Local) rest)) (behind (codes "host-local:") text))
    (option_map (λ rest. or_unknown (id_request rest)) (behind (codes "host-transport-id:") text)))))

-- what a text means: any other text asks for a service
unfoldable pub meaning : List ℕ → Request
meaning text = unwrap_or (host_meaning text) (Service text)
