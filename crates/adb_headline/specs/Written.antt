-- Two streams never see each other's bytes: what a client was handed for its stream, its device wrote to that stream.
use Rattle.std.specs.Prelude.{ℕ, ◌+◌, ◌≡◌, ◌≤◌, List, ◌∷◌, ◌++◌, length, slice_get, Some}
use Rattle.adb_wire.specs.declared.command.Command.TheVariants.{Wrte}
use Rattle.adb_wire.specs.declared.packets.Packet.{Packet}
use Rattle.adb_history.specs.Machine.{History}
use Rattle.adb_history.specs.Bytes.{brought}
use Rattle.adb_history.specs.Births.{Birth, remote_of, told_to, joined, handed_to}
use Rattle.adb_history.specs.Fifo.{OfEachStream}

-- The packet of this number that the link of a stream brought is a write of its device to the stream, and came after the birth.
pub record IsWriteTo (h : History) (l : ℕ) (b : Birth) (number : ℕ) (write : Packet) : Type 0 where
  pub came : slice_get (brought b.link h) number ≡ Some write
  pub after : b.packets_before ≤ number
  pub command : write.command ≡ Wrte
  pub from : write.arg0 ≡ remote_of l b h
  pub to : write.arg1 ≡ l

-- A byte that a device wrote to a stream behind so many others: the write that it came in, the writes around that, and its place there.
pub record IsWritten (h : History) (l : ℕ) (b : Birth) (many byte : ℕ) : Type 0 where
  pub number : ℕ
  pub write : Packet
  pub is : IsWriteTo h l b number write
  pub before : List (List ℕ)
  pub behind : List (List ℕ)
  pub told : told_to l b h ≡ before ++ write.payload ∷ behind
  pub place : ℕ
  pub here : slice_get write.payload place ≡ Some byte
  pub order : length (joined before) + place ≡ many

-- Each byte that a client was handed for its stream was written to that stream, by its device, on its link, as that one in the order.
abbrev pub HandsWritten : History → Type 0
HandsWritten h = OfEachStream h (λ l b. (many byte : ℕ) → slice_get (handed_to l b h) many ≡ Some byte → IsWritten h l b many byte)
