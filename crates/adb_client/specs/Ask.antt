-- What a client asks: the first request of its unread bytes.
use Rattle.std.specs.Prelude.{ℕ, ◌+◌, List, take, drop}
use Rattle.adb_request.specs.Requests.{request_at}
use Rattle.adb_request.specs.Meaning.{meaning}
use Rattle.adb_request.specs.declared.cutting.Found.{Found}
use Rattle.adb_request.specs.declared.cutting.Found.TheVariants.{More as NotYet, Malformed as NoLength, Whole as Cut}
use Rattle.adb_client.specs.declared.ask.Ask.TheVariants.{More, Malformed, Whole}
use Rattle.adb_client.specs.declared.ask.Asked.{Asked}

-- what bytes ask that begin with what was found: a whole request is its text's meaning
abbrev pub asked_by : Found → List ℕ → Asked
asked_by NotYet bytes = record { ask = More; len = 0 }
asked_by NoLength bytes = record { ask = Malformed; len = 0 }
asked_by (Cut len) bytes = record { ask = Whole (meaning (take len (drop 4 bytes))); len = 4 + len }

-- what some bytes ask first, and how many bytes that takes
abbrev pub asked_in : List ℕ → Asked
asked_in bytes = asked_by (request_at bytes) bytes
