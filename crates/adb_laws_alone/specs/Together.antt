-- What a model device makes of the packets of streams that were asked for behind others: they run over one set of
-- files, one call after the other.
use Rattle.std.specs.Prelude.{ℕ, ◌≡◌, ◌⊎◌, ◌≤◌, ◌<◌, List, [], ◌∷◌, ◌++◌, Some}
use Rattle.std.specs.List.{AllByRecursion}
use Rattle.adb_outside.specs.Tables.{at}
use Rattle.adb_wire.specs.declared.command.Command.{Command}
use Rattle.adb_wire.specs.declared.command.Command.TheVariants as commands
use Rattle.adb_wire.specs.declared.packets.Packet.{Packet}
use Rattle.adb_files.specs.Entries.{Entry}
use Rattle.adb_files.specs.Requests.{requests_in}
use Rattle.adb_history.specs.Births.{count_from, is_open}
use Rattle.adb_device_streams.specs.Asked.{Kind, Echoes, Syncs, Shells, name_of, service_of}
use Rattle.adb_device_streams.specs.Service.{Came, bytes_in, sync_answer}
use Rattle.adb_device_streams.specs.Stream.{Row}
use Rattle.adb_daemon.specs.Daemon.{CutAt}
use Rattle.adb_daemon.specs.Device.{Setting, device_behind}
use Rattle.adb_daemon.specs.Serving.{Serving, Ended}
use Rattle.adb_daemon.specs.Streams.{over_at}
use Rattle.adb_laws_alone.specs.Alone.{AsksNone, Every}
use Rattle.adb_laws_alone.specs.Calls.{Ask, AreFirst, Call, asks_of, asks_in, answers_of, files_after, found_by, has_last}

-- a packet that asks for a stream, or writes something, does so for an id past another
abbrev pub IsOfLater : ℕ → Command → Packet → Type 0
IsOfLater d commands.Open p = d < p.arg0
IsOfLater d commands.Wrte p = (p.payload ≡ []) ⊎ (d < p.arg0)
IsOfLater d _ p = Unit {0}

-- a service answered its payloads through calls over some files: a sync service by its own calls, a command over the files that it found
abbrev pub AnswersThrough : Kind → (first : List Entry) → List Call → ℕ → (opened : List Entry) → List Came → Type 0
AnswersThrough Echoes first calls l opened past = Unit {0}
AnswersThrough Syncs first calls l opened past =
    ((sync_answer past).bytes ≡ answers_of l first calls) × ((sync_answer past).ended ≡ has_last (requests_in (bytes_in past)))
AnswersThrough (Shells packets command) first calls l opened past = opened ≡ found_by l first calls

-- A service of a stream ran through calls: it asked for what came to it, and nothing else.
pub record RanThrough (first : List Entry) (calls : List Call) (l : ℕ) (kind : Kind) (opened : List Entry) (past : List Came) : Type 0 where
  pub asks : asks_of l calls ≡ asks_in kind (bytes_in past)
  pub answers : AnswersThrough kind first calls l opened past

abbrev pub RowRan : (first : List Entry) → List Call → Row → Type 0
RowRan first calls row = RanThrough first calls row.host row.kind row.first row.past

-- a call is one of a stream past another that these packets ask for
abbrev pub IsAskedIn : ℕ → List Packet → Call → Type 0
IsAskedIn d ps call = (d < call.caller) × (1 ≤ count_from is_open call.caller ps)

-- All calls in one order lead from some files to those of a device, and each row of a later id ran through them, be
-- it live or one that has ended.
pub record RanTogether (d : ℕ) (first : List Entry) (ps : List Packet) (s : Serving) : Type 0 where
  pub calls : List Call
  pub left : s.files ≡ files_after first calls
  pub live : (own : ℕ) (row : Row) → at own s.rows ≡ Some row → d < row.host → RowRan first calls row
  pub over : (own : ℕ) (e : Ended) → over_at own s.ended ≡ Some e → d < e.row.host → RowRan first calls e.row
  pub asked : AllByRecursion (IsAskedIn d ps) calls

-- It is so of ids that were asked for once at most, where all packets since are of them.
abbrev pub RunTogether : Setting → Type 0
RunTogether setting = (d : ℕ) (before ps : List Packet) → Every (AsksNone (λ (host : ℕ). d < host)) before → Every (IsOfLater d) ps
    → ((l : ℕ) → d < l → count_from is_open l ps ≤ 1)
    → RanTogether d (device_behind setting before).serving.files ps (device_behind setting (before ++ ps)).serving

-- ---- an allocation failure
-- one of these packets asks for a stream of this kind
abbrev pub IsOpenFor : ℕ → Kind → Packet → Type 0
IsOpenFor l kind p = (p.command ≡ commands.Open) × ((p.arg0 ≡ l) × (service_of (name_of p.payload) ≡ Some kind))

abbrev pub IsOpenedFor : ℕ → Kind → List Packet → Type 0
IsOpenedFor l kind [] = ⊥
IsOpenedFor l kind (p ∷ ps) = IsOpenFor l kind p ⊎ IsOpenedFor l kind ps

-- A packet of these is a write of a stream to its live row, and these are the bytes that came for the row with it.
-- The rows are those after packets.
pub record WasWritten (rows : List Packet → List (ℕ × Row)) (l : ℕ) (ps : List Packet) (came : List ℕ) : Type 0 where
  pub front : List Packet
  pub packet : Packet
  pub rest : List Packet
  pub is : ps ≡ front ++ packet ∷ rest
  pub writes : packet.command ≡ commands.Wrte
  pub of : packet.arg0 ≡ l
  pub row : Row
  pub live : at packet.arg1 (rows front) ≡ Some row
  pub host : row.host ≡ l
  pub came_is : came ≡ bytes_in row.past ++ packet.payload

-- A stream was asked for, and asked for a prefix of what its service asks for of what came for it.
pub record HasAsked (rows : List Packet → List (ℕ × Row)) (l : ℕ) (ps : List Packet) (asks : List Ask) : Type 0 where
  pub kind : Kind
  pub opened : IsOpenedFor l kind ps
  pub came : List ℕ
  pub from : (came ≡ []) ⊎ WasWritten rows l ps came
  pub first : AreFirst asks (asks_in kind came)

-- All calls in one order lead from some files to others, and each stream of a later id asked for a prefix of what came for it.
pub record RanInPart (rows : List Packet → List (ℕ × Row)) (d : ℕ) (first : List Entry) (ps : List Packet)
    (files : List Entry) : Type 0 where
  pub calls : List Call
  pub left : files ≡ files_after first calls
  pub asks : (l : ℕ) → d < l → (asks_of l calls ≡ []) ⊎ HasAsked rows l ps (asks_of l calls)
  pub asked : AllByRecursion (IsAskedIn d ps) calls

-- the live rows of a device after packets
abbrev pub rows_after : Setting → (before ps : List Packet) → List (ℕ × Row)
rows_after setting before ps = (device_behind setting (before ++ ps)).serving.rows

-- It is so of the files of a device whose memory ran out after some of the packets, or at the next of them.
abbrev pub RunInPart : Setting → Type 0
RunInPart setting = (d : ℕ) (before ps rest : List Packet) (files : List Entry) → Every (AsksNone (λ (host : ℕ). d < host)) before
    → Every (IsOfLater d) (ps ++ rest) → ((l : ℕ) → d < l → count_from is_open l (ps ++ rest) ≤ 1)
    → CutAt rest (device_behind setting (before ++ ps)).serving files
    → RanInPart (rows_after setting before) d (device_behind setting before).serving.files (ps ++ rest) files
