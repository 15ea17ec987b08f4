-- What a session writes: a request that selects the model device, one for a service, and a text.
use Rattle.std.specs.Prelude.{ℕ, ◌≡◌, ◌≤◌, true, is_some, List, ◌++◌, length, codes}
use Rattle.adb_outside.specs.Bytes.{IsPrefixOf}
use Rattle.adb_request.specs.Requests.{hex_digits}
use Rattle.adb_device_streams.specs.Asked.{service_of}

-- the serial of the model device
abbrev pub serial : List ℕ
serial = codes "model-1"

-- the request that selects it
abbrev pub selects : List ℕ
selects = codes "0016host:transport:model-1"

-- the requests of a session
abbrev pub requests_for : List ℕ → List ℕ
requests_for service = selects ++ (hex_digits (length service) ++ service)

-- all that a session writes
abbrev pub words_of : List ℕ → List ℕ → List ℕ
words_of service text = requests_for service ++ text

-- a service that the model device knows, in no more bytes than a session may ask for
abbrev pub most_service : ℕ
most_service = 1024

pub record IsKnown (service : List ℕ) : Type 0 where
  pub known : is_some (service_of service) ≡ true
  pub short : length service ≤ most_service

-- Bytes that are a front of what a session writes.
pub record IsOfSession (bytes : List ℕ) : Type 0 where
  pub service : List ℕ
  pub text : List ℕ
  pub known : IsKnown service
  pub front : IsPrefixOf bytes (words_of service text)
