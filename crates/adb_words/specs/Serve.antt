-- The words of `serve`.
use Rattle.std.specs.Prelude.{ℕ, ◌+◌, Bool, true, false, nat_le, if◌then◌else◌, List, [], ◌∷◌, length, codes, bytes_eq}
use Rattle.std.specs.Prelude.{Option, Some, None, option_map, option_and_then}
use Rattle.adb_outside.specs.Serial.{is_serial}
use Rattle.adb_words.specs.declared.serve.Serve.{Serve}
use Rattle.adb_words.specs.declared.command.TheConstants.{MAX_SERVED, DEFAULT_PORT}
use Rattle.adb_words.specs.Words.{number_within}
use Rattle.adb_words.specs.Given.{Layout, Given, given_in, values_of}

abbrev pub serve_layout : Layout
serve_layout = record {
  options = codes "port" ∷ codes "device" ∷ codes "connect" ∷ [];
  flags = codes "record" ∷ [];
  operand = None;
}

-- what a server is to do
pub record Serving : Type 0 where
  pub port : ℕ
  pub records : Bool
  -- the serials of its model devices
  pub devices : List (List ℕ)
  -- the ports that it dials
  pub connects : List ℕ

-- what a server's plain data says
abbrev pub serving : Serve → Serving
serving serve = record {
  port = serve.port;
  records = serve.records;
  devices = serve.ports.devices.items;
  connects = serve.ports.connects.items;
}

-- the port that an option gives at most once: a number from `least` on
abbrev pub port_of : ℕ → List (List ℕ) → Option ℕ
port_of least [] = Some DEFAULT_PORT
port_of least (text ∷ []) = number_within least 65535 text
port_of least _ = None

-- whether a flag stands, which stands at most once
abbrev pub flag_of : List (List ℕ) → Option Bool
flag_of [] = Some false
flag_of (_ ∷ []) = Some true
flag_of _ = None

abbrev pub serial_of : List ℕ → Option (List ℕ)
serial_of text = if is_serial text then Some text else None

-- what all texts are, each by itself
abbrev pub each_of : {A : Type 0} → (List ℕ → Option A) → List (List ℕ) → Option (List A)
each_of read [] = Some []
each_of read (text ∷ texts) = option_and_then (λ x. option_map (λ xs. x ∷ xs) (each_of read texts)) (read text)

-- the server of the values of `--port`, `--record`, `--device` and `--connect`
abbrev pub serving_by : List (List ℕ) → List (List ℕ) → List (List ℕ) → List (List ℕ) → Option Serving
serving_by ports records devices connects =
    if nat_le (length devices + length connects) MAX_SERVED then
    option_and_then (λ port. option_and_then (λ flag. option_and_then (λ serials. option_map
    (λ dialled. record { port = port; records = flag; devices = serials; connects = dialled })
    (each_of (number_within 1 65535) connects)) (each_of serial_of devices)) (flag_of records)) (port_of 0 ports)
    else None

-- the server of the values of each name
abbrev pub served_by : (List ℕ → List (List ℕ)) → Option Serving
served_by values = serving_by (values (codes "port")) (values (codes "record")) (values (codes "device")) (values (codes "connect"))

abbrev pub served : Given → Option Serving
served given = served_by (λ name. values_of name given)

-- the server of the words behind `serve`
abbrev pub served_in : List (List ℕ) → Option Serving
served_in words = option_and_then served (given_in serve_layout words)

-- whether the first word is `serve`
abbrev pub is_serve : List (List ℕ) → Bool
is_serve [] = false
is_serve (name ∷ words) = bytes_eq name (codes "serve")

-- the server that words are
abbrev pub serve_of : List (List ℕ) → Option Serving
serve_of [] = None
serve_of (name ∷ words) = if bytes_eq name (codes "serve") then served_in words else None
