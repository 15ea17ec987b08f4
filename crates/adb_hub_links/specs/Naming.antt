-- The streams that OKAYs name (protocol.txt, READY).
use Rattle.std.specs.Prelude.{ℕ, ◌≡◌, true, is_some, List, ◌⊎◌, Bool, if◌then◌else◌, Option, Some, None}
use Rattle.adb_stream.specs.declared.row.Stream.{Stream}
use Rattle.adb_stream.specs.Streams.{found}
use Rattle.adb_wire.specs.declared.command.Command.{Command}
use Rattle.adb_wire.specs.declared.command.Command.TheVariants.{Okay}
use Rattle.adb_wire.specs.declared.packets.Packet.{Packet}
use Rattle.adb_hub_tables.specs.Tracked.{IsAmong}
use Rattle.adb_laws_resting.specs.Named.{named_by}

-- the stream that a packet names, where it lives and is one of that link
abbrev pub named_if : Command → ℕ → Bool → Option ℕ
named_if Okay l lives = if lives then Some l else None
named_if _ l lives = None

abbrev pub named_on : ℕ → Packet → List (ℕ × Stream) → Option ℕ
named_on link p streams = named_if p.command p.arg1 (is_some (found link p.arg1 streams))

-- An id is among those that were there, or is the one that is named.
pub record NamesAlso (named : Option ℕ) (old new : List ℕ) : Type 0 where
  pub kept : (l : ℕ) → IsAmong l old → IsAmong l new
  pub added : (l : ℕ) → named ≡ Some l → IsAmong l new
  pub only : (l : ℕ) → IsAmong l new → IsAmong l old ⊎ (named ≡ Some l)

-- These ids are those of the streams of a link that live and that packets name.
pub record AreNamedOn (link : ℕ) (packets : List Packet) (streams : List (ℕ × Stream)) (ids : List ℕ) : Type 0 where
  pub live : (l : ℕ) → IsAmong l ids → is_some (found link l streams) ≡ true
  pub all : (l : ℕ) → IsAmong l (named_by packets) → is_some (found link l streams) ≡ true → IsAmong l ids

-- They are, but for some packets that are still to be looked at.
pub record AreNamedBefore (link : ℕ) (packets rest : List Packet) (streams : List (ℕ × Stream)) (ids : List ℕ) : Type 0 where
  pub live : (l : ℕ) → IsAmong l ids → is_some (found link l streams) ≡ true
  pub all : (l : ℕ) → IsAmong l (named_by packets) → is_some (found link l streams) ≡ true → IsAmong l ids ⊎ IsAmong l (named_by rest)
