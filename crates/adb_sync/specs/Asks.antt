-- What the asking side writes (SYNC.TXT): STAT, LIST and RECV with a path; SEND with a path and a mode, then any
-- number of DATA, then DONE; QUIT.
use Rattle.std.specs.Prelude.{ℕ, ◌+◌, ◌^◌, ◌<◌, ◌≤◌, ◌≡◌, if◌then◌else◌, Bool, true, false, not, List, [], ◌∷◌, ◌++◌, length, take, drop}
use Rattle.std.specs.Prelude.{Option, Some, None, Result, Ok, Err, codes, bytes_eq, All}
use Rattle.std.specs.List.{flat_map}
use Rattle.adb_outside.specs.declared.framer.Front.{Front}
use Rattle.adb_outside.specs.Framing.{Cut, cut, given_in, fault_in, offset_past, Stands, IsRightCut}
use Rattle.adb_sync.specs.declared.ask.SyncAsk.{SyncAsk}
use Rattle.adb_sync.specs.declared.ask.SyncAsk.TheVariants as asks
use Rattle.adb_sync.specs.declared.ask_id.AskId.{AskId}
use Rattle.adb_sync.specs.declared.ask_id.AskId.TheVariants as ids
use Rattle.adb_sync.specs.declared.ask_format.AskFormat.{AskFormat}
use Rattle.adb_sync.specs.declared.error.SyncRule.{SyncRule}
use Rattle.adb_sync.specs.declared.error.SyncRule.TheVariants as rules
use Rattle.adb_sync.specs.declared.error.SyncFault.{SyncFault}
use Rattle.adb_sync.specs.declared.layout.Layout.{Layout}
use Rattle.adb_sync.specs.declared.layout.TheConstants.{MAX_PATH, MAX_CHUNK}
use Rattle.adb_sync.specs.Messages.{message, number_at, numbers, text, path_limit, chunk_limit, front, last_comma}

-- the id that four bytes are, where they are one
abbrev pub ask_id_of : List ℕ → Option AskId
ask_id_of bytes =
    if bytes_eq bytes (codes "STAT") then Some ids.Stat
    else (if bytes_eq bytes (codes "LIST") then Some ids.List
    else (if bytes_eq bytes (codes "RECV") then Some ids.Recv
    else (if bytes_eq bytes (codes "SEND") then Some ids.Send
    else (if bytes_eq bytes (codes "DATA") then Some ids.Data
    else (if bytes_eq bytes (codes "DONE") then Some ids.Done
    else (if bytes_eq bytes (codes "QUIT") then Some ids.Quit
    else None))))))

-- whether an id may stand inside a SEND, or outside one
abbrev pub is_in_place : Bool → AskId → Bool
is_in_place sending ids.Stat = not sending
is_in_place sending ids.List = not sending
is_in_place sending ids.Recv = not sending
is_in_place sending ids.Send = not sending
is_in_place sending ids.Data = sending
is_in_place sending ids.Done = sending
is_in_place sending ids.Quit = not sending

-- What stands behind an id: a path, in a SEND with a comma; a chunk; the time of a DONE; and behind a QUIT only zero.
abbrev pub ask_layout : AskId → Layout
ask_layout ids.Stat = text 1 path_limit
ask_layout ids.List = text 1 path_limit
ask_layout ids.Recv = text 1 path_limit
ask_layout ids.Send = record { head = 4; limit = path_limit; counted = true; comma = true }
ask_layout ids.Data = text 1 chunk_limit
ask_layout ids.Done = numbers 1
ask_layout ids.Quit = record { head = 4; limit = Some (record { most = 0; rule = rules.UnknownId }); counted = false; comma = false }

-- An id outside a SEND that is none is unknown; one that may not stand here, and inside a SEND each other than DATA
-- and DONE, is out of place.
abbrev pub ask_in_place : Bool → Option AskId → Result Layout SyncRule
ask_in_place sending None = Err (if sending then rules.BadPlace else rules.UnknownId)
ask_in_place sending (Some id) = if is_in_place sending id then Ok (ask_layout id) else Err rules.BadPlace

abbrev pub asked_at : AskFormat → List ℕ → Result Layout SyncRule
asked_at format id = ask_in_place format.sending (ask_id_of id)

-- what bytes begin with
abbrev pub ask_front : AskFormat → List ℕ → Front SyncFault
ask_front = front (λ format. format.offset) asked_at

-- a SEND's text is its path, a comma, and its mode, which has none
abbrev pub send_cut : List ℕ → Option ℕ → SyncAsk
send_cut text (Some comma) = asks.Send (take comma text) (drop (comma + 1) text)
send_cut text None = asks.Send text []

-- The request of an id, a number and a body. Whole bytes always have an id.
abbrev pub ask_by : Option AskId → ℕ → List ℕ → SyncAsk
ask_by (Some ids.Stat) number body = asks.Stat body
ask_by (Some ids.List) number body = asks.List body
ask_by (Some ids.Recv) number body = asks.Recv body
ask_by (Some ids.Send) number body = send_cut body (last_comma body)
ask_by (Some ids.Data) number body = asks.Chunk body
ask_by (Some ids.Done) number body = asks.Finish number
ask_by (Some ids.Quit) number body = asks.Quit
ask_by None number body = asks.Quit

-- the request of its whole bytes
abbrev pub ask_of : AskFormat → List ℕ → SyncAsk
ask_of format bytes = ask_by (ask_id_of (take 4 bytes)) (number_at 4 bytes) (drop 8 bytes)

-- whether what follows a request is inside a SEND
abbrev pub is_sending_after : Option AskId → Bool
is_sending_after (Some ids.Send) = true
is_sending_after (Some ids.Data) = true
is_sending_after (Some ids.Stat) = false
is_sending_after (Some ids.List) = false
is_sending_after (Some ids.Recv) = false
is_sending_after (Some ids.Done) = false
is_sending_after (Some ids.Quit) = false
is_sending_after None = false

-- The next request begins where the one before it ended. The offset stays at the last number of 64 bits.
abbrev pub past_ask : AskFormat → List ℕ → AskFormat
past_ask format bytes = record { offset = offset_past format.offset (length bytes); sending = is_sending_after (ask_id_of (take 4 bytes)) }

-- the requests of some bytes and their fault
abbrev pub AskReading : Type 0
AskReading = Cut AskFormat SyncAsk SyncFault

-- the requests of bytes that begin at an offset, the bytes past the last one, and the fault there
abbrev pub asks_from : AskFormat → List ℕ → AskReading
asks_from = cut ask_front ask_of past_ask

-- where a stream begins
abbrev pub asks_start : AskFormat
asks_start = record { offset = 0; sending = false }

-- all the requests that bytes hold before their first fault, each DATA and DONE as one of its own
abbrev pub asks_in : List ℕ → List SyncAsk
asks_in = given_in ask_front ask_of past_ask asks_start

-- the first fault of bytes
abbrev pub ask_fault_in : List ℕ → Option SyncFault
ask_fault_in = fault_in ask_front ask_of past_ask asks_start

-- what a reader holds of all the bytes that it was fed and the requests that it gave
abbrev pub StandsForAsks : List ℕ → List SyncAsk → AskReading → Type 0
StandsForAsks = Stands ask_front ask_of past_ask asks_start

-- the id that a request begins with
abbrev pub id_of_ask : SyncAsk → AskId
id_of_ask (asks.Stat path) = ids.Stat
id_of_ask (asks.List path) = ids.List
id_of_ask (asks.Recv path) = ids.Recv
id_of_ask (asks.Send path mode) = ids.Send
id_of_ask (asks.Chunk bytes) = ids.Data
id_of_ask (asks.Finish mtime) = ids.Done
id_of_ask asks.Quit = ids.Quit

-- what may be written: a path request of at most 1,024 bytes, in a SEND counted with its comma and mode, a mode without a
-- comma, and a chunk of at most 65,536 bytes
abbrev pub IsAsk : SyncAsk → Type 0
IsAsk (asks.Stat path) = length path ≤ MAX_PATH
IsAsk (asks.List path) = length path ≤ MAX_PATH
IsAsk (asks.Recv path) = length path ≤ MAX_PATH
IsAsk (asks.Send path mode) = (length path + 1 + length mode ≤ MAX_PATH) × (last_comma mode ≡ None)
IsAsk (asks.Chunk bytes) = length bytes ≤ MAX_CHUNK
IsAsk (asks.Finish mtime) = Unit {0}
IsAsk asks.Quit = Unit {0}

-- a time has 32 bits
abbrev pub HasAskWords : SyncAsk → Type 0
HasAskWords (asks.Finish mtime) = mtime < 2 ^ 32
HasAskWords (asks.Stat path) = Unit {0}
HasAskWords (asks.List path) = Unit {0}
HasAskWords (asks.Recv path) = Unit {0}
HasAskWords (asks.Send path mode) = Unit {0}
HasAskWords (asks.Chunk bytes) = Unit {0}
HasAskWords asks.Quit = Unit {0}

-- the bytes of a request
abbrev pub ask_bytes : SyncAsk → List ℕ
ask_bytes (asks.Stat path) = message (codes "STAT") (length path) path
ask_bytes (asks.List path) = message (codes "LIST") (length path) path
ask_bytes (asks.Recv path) = message (codes "RECV") (length path) path
ask_bytes (asks.Send path mode) = message (codes "SEND") (length (path ++ 44 ∷ mode)) (path ++ 44 ∷ mode)
ask_bytes (asks.Chunk bytes) = message (codes "DATA") (length bytes) bytes
ask_bytes (asks.Finish mtime) = message (codes "DONE") mtime []
ask_bytes asks.Quit = message (codes "QUIT") 0 []

-- each request stands where it may, inside a SEND or outside one, given those before it; and whether what follows the
-- last one is inside a SEND
abbrev pub StandInPlace : Bool → List SyncAsk → Bool → Type 0
StandInPlace sending [] behind = behind ≡ sending
StandInPlace sending (ask ∷ others) behind = (is_in_place sending (id_of_ask ask) ≡ true)
    × StandInPlace (is_sending_after (Some (id_of_ask ask))) others behind

-- The bytes are those of requests that may be written and stand where they may, and then a rest.
pub record SpellsAsks (from : AskFormat) (bytes : List ℕ) (given : List SyncAsk) (reading : AskFormat) (rest : List ℕ) : Type 0 where
  pub whole : bytes ≡ flat_map ask_bytes given ++ rest
  pub each : All IsAsk given
  pub words : All HasAskWords given
  pub in_place : StandInPlace from.sending given reading.sending

-- A cut is right: it spells the bytes; the rest begins at the offset that it is read from; it begins with no whole request,
-- and where it begins with a fault, that is the fault.
abbrev pub IsAskCut : AskFormat → List ℕ → AskReading → Type 0
IsAskCut = IsRightCut ask_front ask_of past_ask (λ format. format.offset) SpellsAsks
