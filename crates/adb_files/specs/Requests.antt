-- The whole requests of the bytes that a sync service was fed (SYNC.TXT): a SEND with its DATA and its DONE is one,
-- and a fault of the bytes is one.
use Rattle.std.specs.Prelude.{ℕ, List, [], ◌∷◌, ◌++◌, Option, Some, None}
use Rattle.adb_sync.specs.declared.ask.SyncAsk.{SyncAsk}
use Rattle.adb_sync.specs.declared.ask.SyncAsk.TheVariants as asks
use Rattle.adb_sync.specs.declared.error.SyncFault.{SyncFault}
use Rattle.adb_sync.specs.Asks.{asks_in, ask_fault_in}

-- a whole request
pub data Request : Type 0 where
  Stats : (path : List ℕ) → Request
  Lists : (path : List ℕ) → Request
  Receives : (path : List ℕ) → Request
  Sends : (path mode bytes : List ℕ) (mtime : ℕ) → Request
  Quits : Request
  Fails : (fault : SyncFault) → Request

-- a SEND whose DONE has not come yet: its path, its mode and the bytes of its DATA so far
pub record OpenSend : Type 0 where
  pub path : List ℕ
  pub mode : List ℕ
  pub bytes : List ℕ

-- a SEND that a DONE made whole
abbrev pub finished : Option OpenSend → ℕ → List Request
finished None mtime = []
finished (Some send) mtime = Sends send.path send.mode send.bytes mtime ∷ []

-- the request that a message makes whole, where it makes one
abbrev pub completed : Option OpenSend → SyncAsk → List Request
completed sending (asks.Stat path) = Stats path ∷ []
completed sending (asks.List path) = Lists path ∷ []
completed sending (asks.Recv path) = Receives path ∷ []
completed sending (asks.Send path mode) = []
completed sending (asks.Chunk bytes) = []
completed sending (asks.Finish mtime) = finished sending mtime
completed sending asks.Quit = Quits ∷ []

-- a SEND with further bytes
abbrev pub continued : Option OpenSend → List ℕ → Option OpenSend
continued None bytes = None
continued (Some send) bytes = Some (record send { bytes = send.bytes ++ bytes })

-- the SEND that is open past a message
abbrev pub open_past : Option OpenSend → SyncAsk → Option OpenSend
open_past sending (asks.Stat path) = sending
open_past sending (asks.List path) = sending
open_past sending (asks.Recv path) = sending
open_past sending (asks.Send path mode) = Some (record { path = path; mode = mode; bytes = [] })
open_past sending (asks.Chunk bytes) = continued sending bytes
open_past sending (asks.Finish mtime) = None
open_past sending asks.Quit = sending

-- the whole requests of messages, behind an open SEND or none, and the SEND that they leave open
abbrev pub requests_of : Option OpenSend → List SyncAsk → List Request
requests_of sending [] = []
requests_of sending (ask ∷ more) = completed sending ask ++ requests_of (open_past sending ask) more

abbrev pub open_after : Option OpenSend → List SyncAsk → Option OpenSend
open_after sending [] = sending
open_after sending (ask ∷ more) = open_after (open_past sending ask) more

-- the request that a fault is
abbrev pub fault_request : Option SyncFault → List Request
fault_request None = []
fault_request (Some fault) = Fails fault ∷ []

-- all the whole requests of bytes, in order
abbrev pub requests_in : List ℕ → List Request
requests_in bytes = requests_of None (asks_in bytes) ++ fault_request (ask_fault_in bytes)
