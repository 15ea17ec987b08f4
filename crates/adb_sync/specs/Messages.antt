-- Sync messages, requests and answers (SYNC.TXT): four bytes of id, a head of numbers, the lowest byte first, and a body as
-- long as the last number says, or none.
use Rattle.std.specs.Prelude.{ℕ, ◌+◌, ◌-◌, ◌*◌, ◌≤◌, ◌==◌, nat_lt, if◌then◌else◌, true, false, List, [], ◌∷◌, ◌++◌, length, take, drop, suc}
use Rattle.std.specs.Prelude.{Option, Some, None, Result, Ok, Err}
use Rattle.byteorder.specs.Endian.{little_number, little_bytes}
use Rattle.adb_outside.specs.declared.framer.Front.{Front}
use Rattle.adb_outside.specs.declared.framer.Front.TheVariants.{More, Bad, Whole}
use Rattle.adb_outside.specs.declared.framer.FeedError.{FeedError}
use Rattle.adb_outside.specs.declared.framer.FeedError.TheVariants as failures
use Rattle.adb_sync.specs.declared.error.SyncRule.{SyncRule}
use Rattle.adb_sync.specs.declared.error.SyncRule.TheVariants as rules
use Rattle.adb_sync.specs.declared.error.SyncFault.{SyncFault}
use Rattle.adb_sync.specs.declared.error.SyncError.{SyncError}
use Rattle.adb_sync.specs.declared.error.SyncError.TheVariants as errors
use Rattle.adb_sync.specs.declared.layout.Limit.{Limit}
use Rattle.adb_sync.specs.declared.layout.Layout.{Layout}
use Rattle.adb_sync.specs.declared.layout.TheConstants.{MAX_PATH, MAX_CHUNK}

-- the bytes of a message whose head is one number
abbrev pub message : List ℕ → ℕ → List ℕ → List ℕ
message id number body = id ++ little_bytes 4 number ++ body

-- the number at a place
abbrev pub number_at : ℕ → List ℕ → ℕ
number_at i bytes = little_number 4 (drop i bytes)

-- the place of the last comma, given that of the bytes behind the first byte
abbrev pub comma_behind : ℕ → Option ℕ → Option ℕ
comma_behind byte (Some i) = Some (suc i)
comma_behind byte None = if byte == 44 then Some 0 else None

-- the place of the last comma
abbrev pub last_comma : List ℕ → Option ℕ
last_comma [] = None
last_comma (byte ∷ bytes) = comma_behind byte (last_comma bytes)

-- so many numbers alone
abbrev pub numbers : ℕ → Layout
numbers count = record { head = 4 * count; limit = None; counted = false; comma = false }

-- so many numbers, the last of which counts the bytes of a text
abbrev pub text : ℕ → Option Limit → Layout
text count limit = record { head = 4 * count; limit = limit; counted = true; comma = false }

-- how long a path and a chunk may be
abbrev pub path_limit : Option Limit
path_limit = Some (record { most = MAX_PATH; rule = rules.PathTooLong })

abbrev pub chunk_limit : Option Limit
chunk_limit = Some (record { most = MAX_CHUNK; rule = rules.ChunkTooLong })

-- one number at least, and no more than four
abbrev pub HasHead : Layout → Type 0
HasHead layout = (4 ≤ layout.head) × (layout.head ≤ 16)

-- the last number of a head
abbrev pub head_number : Layout → List ℕ → ℕ
head_number layout rest = number_at (layout.head - 4) rest

-- what a number breaks
abbrev pub limit_fault : Option Limit → ℕ → Option SyncRule
limit_fault None number = None
limit_fault (Some limit) number = if nat_lt limit.most number then Some limit.rule else None

-- how many bytes a body has
abbrev pub body_len : Layout → ℕ → ℕ
body_len layout number = if layout.counted then number else 0

-- what a text breaks that has to have a comma
abbrev pub comma_fault : Option ℕ → Option SyncRule
comma_fault None = Some rules.BadSend
comma_fault (Some i) = None

-- what a body breaks
abbrev pub body_fault : Layout → List ℕ → Option SyncRule
body_fault layout body = if layout.comma then comma_fault (last_comma body) else None

-- the fault of what is broken at an offset, or else what is told
abbrev pub or_bad : ℕ → Option SyncRule → Front SyncFault → Front SyncFault
or_bad offset None told = told
or_bad offset (Some rule) told = Bad (record { offset = offset; rule = rule })

-- what a body is, behind a head with a number
abbrev pub front_of_body : ℕ → Layout → ℕ → List ℕ → Front SyncFault
front_of_body offset layout number rest =
    if nat_lt (length rest) (body_len layout number) then More
    else or_bad offset (body_fault layout (take (body_len layout number) rest)) (Whole (4 + layout.head + body_len layout number))

-- what bytes past an id are: its fault; or a head, then the fault of its number; then a body, and its fault
abbrev pub front_past_id : ℕ → Result Layout SyncRule → List ℕ → Front SyncFault
front_past_id offset (Err rule) rest = Bad (record { offset = offset; rule = rule })
front_past_id offset (Ok layout) rest =
    if nat_lt (length rest) layout.head then More
    else or_bad offset (limit_fault layout.limit (head_number layout rest))
    (front_of_body offset layout (head_number layout rest) (drop layout.head rest))

-- What bytes begin with, by what stands behind each id.
abbrev pub front : {S : Type 0} → (S → ℕ) → (S → List ℕ → Result Layout SyncRule) → S → List ℕ → Front SyncFault
front offset layout_at s bytes =
    if nat_lt (length bytes) 4 then More else front_past_id (offset s) (layout_at s (take 4 bytes)) (drop 4 bytes)

-- the error that a rule's breach is
abbrev pub error_at : ℕ → SyncRule → SyncError
error_at offset rules.UnknownId = errors.UnknownId offset
error_at offset rules.PathTooLong = errors.PathTooLong offset
error_at offset rules.BadSend = errors.BadSend offset
error_at offset rules.ChunkTooLong = errors.ChunkTooLong offset
error_at offset rules.BadPlace = errors.BadPlace offset

-- the error that a fault is
abbrev pub error_of : SyncFault → SyncError
error_of fault = error_at fault.offset fault.rule

-- the fault that an error is, where it is one
abbrev pub told_by : SyncError → Option SyncFault
told_by errors.OutOfMemory = None
told_by (errors.UnknownId offset) = Some (record { offset = offset; rule = rules.UnknownId })
told_by (errors.PathTooLong offset) = Some (record { offset = offset; rule = rules.PathTooLong })
told_by (errors.BadSend offset) = Some (record { offset = offset; rule = rules.BadSend })
told_by (errors.ChunkTooLong offset) = Some (record { offset = offset; rule = rules.ChunkTooLong })
told_by (errors.BadPlace offset) = Some (record { offset = offset; rule = rules.BadPlace })

-- the error that a framer's is
abbrev pub failure_of : FeedError SyncFault → SyncError
failure_of failures.OutOfMemory = errors.OutOfMemory
failure_of (failures.Fault fault) = error_of fault
