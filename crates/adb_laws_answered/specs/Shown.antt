-- Whether the client of a stream heard that it is open, against what the packets of its link say.
use Rattle.std.specs.Prelude.{ℕ, ◌≡◌, ◌≢◌, ◌≤◌, ◌⊎◌, ◌==◌, Bool, true, false, if◌then◌else◌, ◌&&◌, not, nat_eq, List, [], ◌∷◌, ◌++◌, Option}
use Rattle.std.specs.Prelude.{Some, None}
use Rattle.adb_wire.specs.declared.command.Command.{Command}
use Rattle.adb_wire.specs.declared.command.Command.TheVariants.{Cnxn, Okay, Clse}
use Rattle.adb_wire.specs.declared.packets.Packet.{Packet}
use Rattle.adb_stream.specs.declared.row.Stream.{Stream}
use Rattle.adb_reply.specs.Strings.{okay}
use Rattle.adb_history.specs.Rows.{Client, State}
use Rattle.adb_history.specs.Events.{Event, owed_to}
use Rattle.adb_history.specs.Births.{is_between, opening_in, remote_in}
use Rattle.adb_history.specs.Answered.{closed_reply}
use Rattle.adb_history.specs.Owned.{IsOwned}
use Rattle.adb_history.specs.Turns.{Scope}
use Rattle.adb_laws_answered.specs.Served.{RowServed}

-- ---- what packets say of a stream
-- whether a stream can be opened no more: before any opening it is closed, or the link has another CNXN
abbrev pub seals_by : Command → ℕ → Packet → Bool → Bool
seals_by Okay l p others = if nat_eq p.arg1 l && not (p.arg0 == 0) then false else others
seals_by Clse l p others = if is_between 0 l p then true else others
seals_by Cnxn l p others = true
seals_by _ l p others = others

abbrev pub sealed_in : ℕ → List Packet → Bool
sealed_in l [] = false
sealed_in l (p ∷ later) = seals_by p.command l p (sealed_in l later)

-- the device's id of a stream, 0 while it has told none, and whether it will tell none
pub record Seen : Type 0 where
  pub remote : ℕ
  pub sealed : Bool

abbrev pub seen : ℕ → List Packet → Seen
seen l packets = record { remote = remote_in (opening_in l packets); sealed = sealed_in l packets }

-- ---- a stream and its client
-- A stream that a client asked for, its link, the replies before; whether its client may hear that it opens, whether
-- its client failed, and whether its link
-- may be gone.
pub record Subject : Type 0 where
  pub stream : ℕ
  pub client : ℕ
  pub link : ℕ
  pub replies : List ℕ
  pub may : Bool
  pub failed : Bool
  pub cut : Bool

-- its row: as far as its device told, it has the device's id, and until then it may still be opened
pub record IsShownRow (x : Subject) (seen : Seen) (stream : Stream) : Type 0 where
  pub client : stream.client ≡ x.client
  pub link : stream.link ≡ x.link
  pub remote : stream.part.remote ≡ seen.remote
  pub pending : seen.remote ≡ 0 → seen.sealed ≡ false
  pub may : stream.part.orphan ≡ false → x.may ≡ true
  pub orphan : stream.part.orphan ≡ true → x.failed ≡ true

-- the stream has no client that waits for it or has it open
abbrev pub IsGone : (ℕ → Option Stream) → ℕ → Type 0
IsGone streams l = (stream : Stream) → streams l ≡ Some stream → stream.part.orphan ≡ true

-- why a stream that was not opened will not be: its device will not open it, its link is gone, or its client failed
abbrev pub WillNotOpen : Subject → Bool → State → Type 0
WillNotOpen x sealed s = (sealed ≡ true) ⊎ (((x.cut ≡ true) × (s.links x.link ≡ None)) ⊎ (x.failed ≡ true))

-- its client did not hear that it is open
pub record IsUnopened (x : Subject) (seen : Seen) (s : State) (out : List ℕ) : Type 0 where
  pub closed : Bool
  pub out_is : out ≡ x.replies ++ closed_reply closed
  pub waits : (stream : Stream) → s.streams x.stream ≡ Some stream → stream.part.orphan ≡ false → closed ≡ false
  pub gone : IsGone s.streams x.stream → WillNotOpen x seen.sealed s
  pub none : x.cut ≡ false → (seen.remote ≡ 0) ⊎ (x.failed ≡ true)

-- its client heard that it is open
pub record IsOpened (x : Subject) (remote : ℕ) (out : List ℕ) : Type 0 where
  pub bytes : List ℕ
  pub out_is : out ≡ x.replies ++ (okay ++ bytes)
  pub may : x.may ≡ true
  pub told : remote ≢ 0

abbrev pub ShownOut : Bool → Subject → Seen → State → List ℕ → Type 0
ShownOut false x seen s out = IsUnopened x seen s out
ShownOut true x seen s out = IsOpened x seen.remote out

-- A stream and its client are as the packets of its link say.
pub record IsShown (heard : Bool) (x : Subject) (seen : Seen) (s : State) (events : List Event) : Type 0 where
  pub owned : IsOwned s
  pub row : (client : Client) → s.clients x.client ≡ Some client → RowServed x.stream heard client
  pub own : (stream : Stream) → s.streams x.stream ≡ Some stream → IsShownRow x seen stream
  pub drawn : x.stream ≤ s.drawn
  pub out : ShownOut heard x seen s (owed_to x.client events)

-- what does not concern a stream: packets that do not name it, and other links; and where it is said, that its client
-- fails, or its link is gone
abbrev pub aside : Subject → Scope
aside x = record {
  reaches = λ l. l ≢ x.stream;
  renews = λ t. t ≢ x.link;
  fails = λ c. c ≡ x.client → x.failed ≡ true;
  cuts = λ t. t ≡ x.link → x.cut ≡ true;
  stops = x.cut ≡ true;
}

-- a packet that says nothing of a stream: neither of its opening nor of its close
abbrev pub SaysNothing : Command → ℕ → Packet → Type 0
SaysNothing Okay l p = p.arg1 ≢ l
SaysNothing Clse l p = p.arg1 ≢ l
SaysNothing Cnxn l p = ⊥
SaysNothing _ l p = Unit {0}
