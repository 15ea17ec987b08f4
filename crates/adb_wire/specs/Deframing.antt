-- What a deframer holds, and what it stands for.
use Rattle.std.specs.Prelude.{ℕ, ◌≡◌, ◌≤◌, false, List, [], ◌∷◌, ◌++◌, length, Option, Some, None, IfSome, IfNone, option_to_list, Result}
use Rattle.std.specs.Prelude.{Ok, Err}
use Rattle.std.specs.List.{All}
use Rattle.adb_outside.specs.declared.framer.Front.TheVariants.{More}
use Rattle.adb_outside.specs.Framing.{Cut, uncut, joined}
use Rattle.adb_wire.specs.declared.headers.TheConstants.{MAX_PAYLOAD}
use Rattle.adb_wire.specs.declared.packets.Packet.{Packet}
use Rattle.adb_wire.specs.declared.format.PacketFault.{PacketFault}
use Rattle.adb_wire.specs.declared.format.PacketFault.TheVariants.{Broken, BadSum}
use Rattle.adb_wire.specs.declared.format.PacketFormat.{PacketFormat}
use Rattle.adb_wire.specs.declared.deframer.WireError.{WireError}
use Rattle.adb_wire.specs.declared.deframer.WireError.TheVariants as errors
use Rattle.adb_wire.specs.Format.{front_of}
use Rattle.adb_wire.specs.Cutting.{Parts, Cuts, IsNextOf, wants_sums, cut_packets}

-- The packets that are still to be given, whether check words are looked at behind them, the bytes past them, and the fault there.
abbrev pub Deframing : Type 0
Deframing = Cut PacketFormat Packet PacketFault

abbrev pub no_bytes : Deframing
no_bytes = uncut (record { sums = false }) [] None

-- what feeding answers at a fault
abbrev pub answer_of : Option PacketFault → Result (Unit {0}) WireError
answer_of None = Ok tt
answer_of (Some (Broken fault)) = Err (errors.Broken fault)
answer_of (Some (BadSum said is)) = Err (errors.BadSum said is)

-- Of all the bytes that were fed, and the packets that were given, what is held are the other packets of their parts, the
-- fault, and where there is none the rest.
pub record StandsFor (fed : List ℕ) (given : List Packet) (now : Deframing) : Type 0 where
  pub rest : List ℕ
  pub cuts : Cuts fed (record { packets = given ++ now.given; rest = rest; fault = now.fault })
  pub open_rest : now.fault ≡ None → now.rest ≡ rest
  pub open_reading : now.fault ≡ None → now.reading.sums ≡ wants_sums (given ++ now.given)

-- what is held after a further piece: where there is a fault, all stays
abbrev pub held_after : Deframing → List ℕ → Option PacketFault → Deframing
held_after held piece None = joined held.given (cut_packets held.reading (held.rest ++ piece))
held_after held piece (Some fault) = held

-- No packet is whole in the bytes past the packets, and where there is no fault, none is there.
abbrev pub IsOpen : Deframing → Type 0
IsOpen held = held.fault ≡ None → front_of held.reading held.rest ≡ More

-- What a deframer may hold: none of its payloads is too long, and it is open.
pub record IsSound (held : Deframing) : Type 0 where
  pub sized : All (λ (p : Packet). length p.payload ≤ MAX_PAYLOAD) held.given
  pub opened : IsOpen held

-- A piece completes nothing: it is held behind the bytes that are held.
abbrev pub Waits : Deframing → List ℕ → Type 0
Waits held piece = held_after held piece None ≡ record held { rest = held.rest ++ piece }

-- A piece was taken: what is held is that after it; what it stood for has the piece too; and its fault is that of all the bytes.
pub record Takes (old : Deframing) (piece : List ℕ) (new : Deframing) : Type 0 where
  pub held : new ≡ held_after old piece old.fault
  pub stands : (fed : List ℕ) (given : List Packet) → StandsFor fed given old → StandsFor (fed ++ piece) given new
  pub first_fault : (fed : List ℕ) (given : List Packet) (parts : Parts) → StandsFor fed given old
      → Cuts (fed ++ piece) parts → new.fault ≡ parts.fault

-- The next packet was given, the first of those that are held; and it is the next of all that were fed, or there is none.
pub record Gives (old new : Deframing) (given : Option Packet) : Type 0 where
  pub some : IfSome given (λ packet. old ≡ record new { given = packet ∷ new.given })
  pub none : IfNone given ((old.given ≡ []) × (new ≡ old))
  pub stands : (fed : List ℕ) (before : List Packet) → StandsFor fed before old → StandsFor fed (before ++ option_to_list given) new
  pub next : (fed : List ℕ) (before : List Packet) (parts : Parts) → StandsFor fed before old → Cuts fed parts
      → IsNextOf parts.packets before given
