-- What a sync service holds, and what it does with a piece of its stream.
use Rattle.std.specs.Prelude.{ℕ, ◌+◌, ◌≡◌, ◌≤◌, min, Bool, false, List, [], ◌++◌, length, Option, Some, None}
use Rattle.adb_outside.specs.Framing.{Cut}
use Rattle.adb_sync.specs.Asks.{asks_in, StandsForAsks}
use Rattle.adb_sync.specs.declared.ask.SyncAsk.{SyncAsk}
use Rattle.adb_sync.specs.declared.ask.SyncAsk.TheVariants as asks
use Rattle.adb_sync.specs.declared.ask_format.AskFormat.{AskFormat}
use Rattle.adb_sync.specs.declared.error.SyncFault.{SyncFault}
use Rattle.adb_files.specs.Entries.{Entry}
use Rattle.adb_files.specs.declared.session.Sending.{Sending}
use Rattle.adb_files.specs.declared.session.Session.{Session}
use Rattle.adb_files.specs.declared.files.TheConstants.{MAX_STORED}
use Rattle.adb_files.specs.Requests.{OpenSend, Request, requests_of, open_after, requests_in}
use Rattle.adb_files.specs.Served.{serve_all, served}

-- the reader of requests, the SEND that is open, the answers that were not taken yet, whether the service has ended,
-- and whether it is spent by want of memory
pub record Service : Type 0 where
  pub reading : Cut AskFormat SyncAsk SyncFault
  pub sending : Option Sending
  pub out : List ℕ
  pub ended : Bool
  pub spent : Bool

-- What is kept of an open SEND: all its bytes, or where they are more than all files may have no more than so many.
pub record IsKept (send : OpenSend) (kept : Sending) : Type 0 where
  pub path : kept.path ≡ send.path
  pub mode : kept.mode ≡ send.mode
  pub size : kept.size ≡ min (length send.bytes) (MAX_STORED + 1)
  pub bytes : length send.bytes ≤ MAX_STORED → kept.bytes ≡ send.bytes
  pub bound : length kept.bytes ≤ MAX_STORED

abbrev pub KeepsSend : Option OpenSend → Option Sending → Type 0
KeepsSend None None = Unit {0}
KeepsSend None (Some kept) = ⊥
KeepsSend (Some send) None = ⊥
KeepsSend (Some send) (Some kept) = IsKept send kept

-- what a service that serves has at a moment: the files that are lent to it, the answers that were not taken yet, and whether it has ended
pub record Moment : Type 0 where
  pub files : List Entry
  pub out : List ℕ
  pub ended : Bool

abbrev pub moment : List Entry → Session → Moment
moment files session = record { files = files; out = session.out; ended = session.ended }

-- a moment of a service, its answers behind those that were taken
abbrev pub moment_behind : List ℕ → List Entry → Service → Moment
moment_behind taken files service = record { files = files; out = taken ++ service.out; ended = service.ended }

-- a service that was asked nothing yet, over some files
abbrev pub moment_first : List Entry → Moment
moment_first files = record { files = files; out = []; ended = false }

-- Requests were served: the files are those that they leave, their answer stands behind what was there, and the
-- service has ended where they end it.
pub record Serves (requests : List Request) (old new : Moment) : Type 0 where
  pub files : new.files ≡ (serve_all old.files requests).files
  pub answer : new.out ≡ old.out ++ (serve_all old.files requests).answer
  pub ends : new.ended ≡ (serve_all old.files requests).ended

-- Of an answer this is not told yet; what is told of it stands behind what was there.
pub record TellsUpTo (answer unsaid out out' : List ℕ) : Type 0 where
  pub said : List ℕ
  pub behind : out' ≡ out ++ said
  pub within : answer ≡ said ++ unsaid

-- a front of an answer is told
abbrev pub TellsFront : List ℕ → List ℕ → List ℕ → Type 0
TellsFront answer out out' = (unsaid : List ℕ) × TellsUpTo answer unsaid out out'

-- Memory ran out while requests were served. The first of them were served and wholly answered. Of at most one more
-- the files are what it leaves, and a front
-- of its answer is told. No other was served.
pub record ServesFront (requests : List Request) (old new : Moment) : Type 0 where
  pub whole : List Request
  pub last : List Request
  pub back : List Request
  pub is : requests ≡ whole ++ (last ++ back)
  pub one : length last ≤ 1
  pub files : new.files ≡ (serve_all old.files (whole ++ last)).files
  pub said : List ℕ
  pub unsaid : List ℕ
  pub answer : new.out ≡ old.out ++ ((serve_all old.files whole).answer ++ said)
  pub within : (serve_all old.files (whole ++ last)).answer ≡ ((serve_all old.files whole).answer ++ said) ++ unsaid

-- the path of a SEND has at most 1,024 bytes
abbrev pub HasShortPath : SyncAsk → Type 0
HasShortPath (asks.Stat path) = Unit {0}
HasShortPath (asks.List path) = Unit {0}
HasShortPath (asks.Recv path) = Unit {0}
HasShortPath (asks.Send path mode) = length path ≤ 1024
HasShortPath (asks.Chunk bytes) = Unit {0}
HasShortPath (asks.Finish mtime) = Unit {0}
HasShortPath asks.Quit = Unit {0}

abbrev pub HasShortSend : Option Sending → Type 0
HasShortSend None = Unit {0}
HasShortSend (Some sending) = length sending.path ≤ 1024

-- the reader of requests, the session that serves them, and the files that are lent to it
pub record Run : Type 0 where
  pub reader : Cut AskFormat SyncAsk SyncFault
  pub session : Session
  pub files : List Entry

abbrev pub run : Cut AskFormat SyncAsk SyncFault → Session → List Entry → Run
run reader session files = record { reader = reader; session = session; files = files }

abbrev pub moment_of : Run → Moment
moment_of r = moment r.files r.session

-- a service that is not spent
abbrev pub held : Cut AskFormat SyncAsk SyncFault → Session → Service
held reader session = record { reading = reader; sending = session.sending; out = session.out; ended = session.ended; spent = false }

-- The requests that a reader gives were served. Where the service goes on the reader has none left, and what is kept
-- is that of the SEND that they leave open.
pub record ServesGiven (send : Option OpenSend) (old new : Run) : Type 0 where
  pub serves : Serves (requests_of send old.reader.given) (moment_of old) (moment_of new)
  pub empty : new.session.ended ≡ false → new.reader ≡ record old.reader { given = [] }
  pub keeps : new.session.ended ≡ false → KeepsSend (open_after send old.reader.given) new.session.sending

-- Of the messages that a reader gave so far these are done, and their requests were served.
pub record Done (send : Option OpenSend) (old new : Run) : Type 0 where
  pub done : List SyncAsk
  pub is : old.reader.given ≡ done ++ new.reader.given
  pub same : new.reader ≡ record old.reader { given = new.reader.given }
  pub serves : Serves (requests_of send done) (moment_of old) (moment_of new)
  pub keeps : KeepsSend (open_after send done) new.session.sending

-- What a service that goes on holds of all the bytes that it was fed: their requests were served, no fault is among
-- them, and what is kept is that of the SEND
-- that they leave open.
pub record StandsFor (fed : List ℕ) (service : Service) : Type 0 where
  pub reads : service.ended ≡ false → StandsForAsks fed (asks_in fed) service.reading
  pub sound : service.ended ≡ false → service.reading.fault ≡ None
  pub keeps : service.ended ≡ false → KeepsSend (open_after None (asks_in fed)) service.sending

-- A piece was taken: the requests that it completes are those of all bytes behind those of the bytes before it, and
-- they were served over the files that were
-- lent.
pub record Feeds (fed piece : List ℕ) (old new : Service) (files files' : List Entry) : Type 0 where
  pub requests : List Request
  pub is : requests_in (fed ++ piece) ≡ requests_in fed ++ requests
  pub serves : Serves requests (moment_behind [] files old) (moment_behind [] files' new)
  pub stands : StandsFor (fed ++ piece) new

-- Memory ran out at a piece: a front of the requests that it completes was served.
pub record FeedsFront (fed piece : List ℕ) (old new : Service) (files files' : List Entry) : Type 0 where
  pub requests : List Request
  pub is : requests_in (fed ++ piece) ≡ requests_in fed ++ requests
  pub front : ServesFront requests (moment_behind [] files old) (moment_behind [] files' new)

-- A service that began over some files, that was fed these bytes and of whose answers these were taken, where nobody
-- else changed the files between its feeds:
-- the files, its answers, the taken ones and those that are left, and whether it has ended are as all the bytes are served.
pub record HasServed (first : List Entry) (fed taken : List ℕ) (service : Service) (files : List Entry) : Type 0 where
  pub stands : StandsFor fed service
  pub left : files ≡ (served first fed).files
  pub given_out : taken ++ service.out ≡ (served first fed).answer
  pub ends : service.ended ≡ (served first fed).ended
