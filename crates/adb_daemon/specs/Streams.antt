-- What each stream wrote, in all that became due.
use Rattle.std.specs.Prelude.{ℕ, ◌+◌, ◌≡◌, ◌≤◌, ◌==◌, ◌&&◌, if◌then◌else◌, Bool, true, false, List, [], ◌∷◌, ◌++◌, length, find, Option}
use Rattle.std.specs.Prelude.{Some, None, unwrap_or}
use Rattle.byteorder.specs.Endian.{little_bytes}
use Rattle.adb_stream.specs.declared.credit.TheConstants.{CREDIT_WINDOW}
use Rattle.adb_stream.specs.Flow.{has_credit}
use Rattle.adb_stream.specs.declared.flow.Flow.{Flow}
use Rattle.adb_stream.specs.declared.flow.Flow.TheVariants as flows
use Rattle.std.specs.List.{flat_map, list_any}
use Rattle.adb_wire.specs.declared.command.Command.{Command}
use Rattle.adb_wire.specs.declared.command.Command.TheVariants.{Okay, Wrte, Clse}
use Rattle.adb_device_streams.specs.Service.{Came, service_answer}
use Rattle.adb_device_streams.specs.Stream.{Row, unsent, next_payload, is_done}
use Rattle.adb_wire.specs.declared.packets.Packet.{Packet}
use Rattle.adb_daemon.specs.Serving.{Sent, Ack, Ended}
use Rattle.adb_daemon.specs.Device.{Setting, device_behind}

abbrev pub is_write : Command → Bool
is_write Wrte = true
is_write _ = false

abbrev pub is_close : Command → Bool
is_close Clse = true
is_close _ = false

-- the joined payloads of the writes of a stream
abbrev pub payload_of : ℕ → Sent → List ℕ
payload_of own one = if is_write one.packet.command && one.packet.arg0 == own then one.packet.payload else []

abbrev pub written : ℕ → List Sent → List ℕ
written own made = flat_map (payload_of own) made

-- whether the device closed a stream
abbrev pub closes : ℕ → Sent → Bool
closes own one = is_close one.packet.command && one.packet.arg0 == own

abbrev pub is_closed : ℕ → List Sent → Bool
is_closed own made = list_any (closes own) made

-- whether a packet that became due is one of a stream
abbrev pub is_of : ℕ → Sent → Bool
is_of own one = one.packet.arg0 == own

-- Behind the CLSE that the device sends of a stream nothing of that stream becomes due.
abbrev pub EndsAtClose : ℕ → List Sent → Type 0
EndsAtClose own [] = Unit {0}
EndsAtClose own (one ∷ more) = (closes own one ≡ true → list_any (is_of own) more ≡ false) × EndsAtClose own more

-- how many writes a stream made
abbrev pub writes_of : ℕ → List Sent → ℕ
writes_of own [] = 0
writes_of own (one ∷ more) = (if is_write one.packet.command && one.packet.arg0 == own then 1 else 0) + writes_of own more

-- how many OKAYs a stream took, its OPEN among them, and the sum of their credit words
abbrev pub acks_of : ℕ → List Ack → ℕ
acks_of own [] = 0
acks_of own (ack ∷ more) = (if ack.own == own then 1 else 0) + acks_of own more

abbrev pub words_of : ℕ → List Ack → ℕ
words_of own [] = 0
words_of own (ack ∷ more) = (if ack.own == own then unwrap_or ack.word 0 else 0) + words_of own more

-- what a stream may still write: one write where none is outstanding, or its credit
abbrev pub free_of : Bool → ℕ
free_of outstanding = if outstanding then 0 else 1

abbrev pub IsWithin : (count bytes acks words : ℕ) → Flow → Type 0
IsWithin count bytes acks words (flows.One window) = count + free_of window.outstanding ≤ acks
IsWithin count bytes acks words (flows.Credit credit) = bytes + credit.to_send ≤ words

-- A stream keeps its window: on a plain link its writes, and those that it may still make, are no more than the OKAYs
-- that it took, its OPEN among them; where
-- the link has credit in bytes what it wrote and may still write is no longer than the sum of their credit words.
abbrev pub KeepsWindow : ℕ → List Sent → List Ack → Flow → Type 0
KeepsWindow own made acks flow = IsWithin (writes_of own made) (length (written own made)) (acks_of own acks) (words_of own acks) flow

-- the stream of an id among those that have ended
abbrev pub over_at : ℕ → List Ended → Option Ended
over_at own ended = find (λ (e : Ended). e.own == own) ended

-- What a stream wrote is a front of its service's answer to the payloads that came.
pub record WritesFront (own : ℕ) (row : Row) (made : List Sent) : Type 0 where
  pub written : written own made ≡ row.sent
  pub front : row.sent ++ unsent row ≡ (service_answer row.kind row.first row.past).bytes

-- It wrote all of it, and the service has ended.
pub record WritesAll (row : Row) : Type 0 where
  pub all : unsent row ≡ []
  pub ended : (service_answer row.kind row.first row.past).ended ≡ true

-- A stream that has ended wrote a front of the answer; one that the device closed wrote all of it.
pub record IsOver (e : Ended) (made : List Sent) : Type 0 where
  pub writes : WritesFront e.own e.row made
  pub closed : is_closed e.own made ≡ e.closed
  pub whole : e.closed ≡ true → WritesAll e.row

-- What becomes due for an id: a live stream writes a front of its answer within its window, and is not closed; of an
-- id that was not drawn nothing is due.
abbrev pub Writes : ℕ → List Sent → List Ack → Option Row → Option Ended → Type 0
Writes own made acks (Some row) over = WritesFront own row made × (is_closed own made ≡ false) × KeepsWindow own made acks row.flow
Writes own made acks None (Some e) = (e.own ≡ own) × IsOver e made × KeepsWindow own made acks e.row.flow
Writes own made acks None None = (written own made ≡ []) × (is_closed own made ≡ false) × (writes_of own made ≡ 0)

-- the payloads of the OKAYs for a stream
abbrev pub is_okay : Command → Bool
is_okay Okay = true
is_okay _ = false

abbrev pub okay_of : ℕ → Sent → List (List ℕ)
okay_of own one = if is_okay one.packet.command && one.packet.arg0 == own then one.packet.payload ∷ [] else []

abbrev pub okays_of : ℕ → List Sent → List (List ℕ)
okays_of own made = flat_map (okay_of own) made

-- What these have to be for the payloads that came, the newest first: behind that of the OPEN one for each write;
-- where the link has credit in bytes the first
-- holds the whole window and the others give the bytes back, and there is none where there are none.
abbrev pub ack_for : Bool → ℕ → List (List ℕ)
ack_for false n = [] ∷ []
ack_for true n = if n == 0 then [] else little_bytes 4 n ∷ []

abbrev pub acks_due : Bool → List Came → List (List ℕ)
acks_due credit [] = (if credit then little_bytes 4 CREDIT_WINDOW else []) ∷ []
acks_due credit (came ∷ past) = acks_due credit past ++ ack_for credit (length came.bytes)

-- The OPEN of a stream and each write that came for it are acknowledged, in order, and nothing else is.
abbrev pub IsAcked : ℕ → List Sent → Option Row → Option Ended → Type 0
IsAcked own made (Some row) over = okays_of own made ≡ acks_due (has_credit row.flow) row.past
IsAcked own made None (Some e) = okays_of own made ≡ acks_due (has_credit e.row.flow) e.row.past
IsAcked own made None None = okays_of own made ≡ []

-- A live stream has settled: its window lets no write go, or none is left, and it is not done.
pub record HasSettled (most : ℕ) (row : Row) : Type 0 where
  pub none_goes : next_payload most row ≡ []
  pub goes_on : is_done row ≡ false

-- A stream on a plain link made as many writes, with the one that it may still make, as it took OKAYs, its OPEN among them.
abbrev pub IsExact : (count acks : ℕ) → Flow → Type 0
IsExact count acks (flows.One window) = acks ≤ count + free_of window.outstanding
IsExact count acks (flows.Credit credit) = Unit {0}

abbrev pub ExactAt : ℕ → List Sent → List Ack → Option Row → Type 0
ExactAt own made acks None = Unit {0}
ExactAt own made acks (Some row) = IsExact (writes_of own made) (acks_of own acks) row.flow

-- No OKAY came to a stream before the write that it answers.
abbrev pub IsAckedInTime : Setting → ℕ → List Packet → Type 0
IsAckedInTime setting own packets = (front : List Packet) (p : Packet) (rest : List Packet) → front ++ p ∷ rest ≡ packets
    → acks_of own (device_behind setting (front ++ p ∷ [])).serving.acks ≤ 1 + writes_of own (device_behind setting front).serving.made
