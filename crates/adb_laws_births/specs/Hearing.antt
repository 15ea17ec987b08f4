-- What the packets of a link make of the streams, and what the server answers them.
use Rattle.std.specs.Prelude.{ℕ, ◌≡◌, ◌≢◌, ◌⊎◌, All, List, [], ◌∷◌, Option, Some}
use Rattle.adb_outside.specs.Tables.{Rows}
use Rattle.adb_wire.specs.declared.command.Command.TheVariants.{Open, Okay}
use Rattle.adb_wire.specs.declared.packets.Packet.{Packet}
use Rattle.adb_stream.specs.declared.row.Stream.{Stream}
use Rattle.adb_stream.specs.Flow.{has_credit}
use Rattle.adb_history.specs.Events.{Made, Event, due_to_client, due_to_link, ended}
use Rattle.adb_history.specs.Links.{close_packet}
use Rattle.adb_laws_births.specs.Going.{IsOfRow, IsShort}
use Rattle.adb_laws_births.specs.Openings.{Hears}

-- A stream was there before these packets of a link, and has heard them where it is one of the link.
pub record Heard (t : ℕ) (ps : List Packet) (l : ℕ) (before : Option Stream) (b : Stream) : Type 0 where
  pub stream : Stream
  pub is : before ≡ Some stream
  pub id : b.id ≡ stream.id
  pub client : b.client ≡ stream.client
  pub link : b.link ≡ stream.link
  pub credit : has_credit b.part.flow ≡ has_credit stream.part.flow
  pub here : b.link ≡ t → Hears l ps stream.part.remote b.part.remote
  pub other : b.link ≢ t → b.part.remote ≡ stream.part.remote

abbrev pub AllHear : ℕ → List Packet → Rows (Option Stream) → Rows (Option Stream) → Type 0
AllHear t ps before after = (l : ℕ) (b : Stream) → after l ≡ Some b → Heard t ps l (before l) b

-- a stream that the device asked for is refused
pub record Refuses (t : ℕ) (p : Packet) (link : ℕ) (q : Packet) : Type 0 where
  pub on : link ≡ t
  pub asks : p.command ≡ Open
  pub packet : q ≡ close_packet 0 p.arg0

-- a stream whose client failed is closed as soon as the device opens it
pub record ClosesLate (streams : Rows (Option Stream)) (t : ℕ) (p : Packet) (link : ℕ) (q : Packet) : Type 0 where
  pub stream : Stream
  pub is : streams p.arg1 ≡ Some stream
  pub own : stream.link ≡ t
  pub on : link ≡ t
  pub fresh : stream.part.remote ≡ 0
  pub okay : p.command ≡ Okay
  pub known : p.arg0 ≢ 0
  pub packet : q ≡ close_packet p.arg1 p.arg0

-- what becomes due by a packet
abbrev pub IsAnswer : Rows (Option Stream) → ℕ → Packet → Event → Type 0
IsAnswer streams t p (due_to_client client bytes) = Unit {0}
IsAnswer streams t p (due_to_link link q check) =
    (IsOfRow streams link q ⊎ (Refuses t p link q ⊎ ClosesLate streams t p link q)) × IsShort q check
IsAnswer streams t p (ended stream ending) = Unit {0}

-- What a packet of a link makes of these streams.
pub record Treats (t : ℕ) (p : Packet) (streams : Rows (Option Stream)) (drawn : ℕ) (m : Made) : Type 0 where
  pub hear : AllHear t (p ∷ []) streams m.state.streams
  pub drawn_is : m.state.drawn ≡ drawn
  pub told : All (IsAnswer streams t p) m.told
