-- Streams that live, against their births.
use Rattle.std.specs.Prelude.{ℕ, ◌≡◌, ◌≤◌, List, length, drop, min, Option, Some}
use Rattle.adb_outside.specs.Tables.{Rows}
use Rattle.adb_wire.specs.declared.packets.Packet.{Packet}
use Rattle.adb_stream.specs.declared.row.Stream.{Stream}
use Rattle.adb_stream.specs.Flow.{has_credit}
use Rattle.adb_history.specs.Streams.{stream_ids}
use Rattle.adb_history.specs.Machine.{History, state}
use Rattle.adb_history.specs.Bytes.{brought}
use Rattle.adb_history.specs.Births.{Birth, births, born}
use Rattle.adb_laws_births.specs.Openings.{IsHeard}

-- A stream that lives is kept as it was born, and has heard what its link brought since.
pub record IsBornAs (h : History) (heard : ℕ → List Packet) (l : ℕ) (stream : Stream) : Type 0 where
  pub birth : Birth
  pub is : born l h ≡ Some birth
  pub id : stream.id ≡ l
  pub client : stream.client ≡ birth.client
  pub link : stream.link ≡ birth.link
  pub credit : has_credit stream.part.flow ≡ birth.credit
  pub before : birth.packets_before ≤ length (heard birth.link)
  pub heard_of : IsHeard l stream.part.remote (drop birth.packets_before (heard birth.link))

abbrev pub AllBornAs : History → (ℕ → List Packet) → Rows (Option Stream) → Type 0
AllBornAs h heard streams = (l : ℕ) (stream : Stream) → streams l ≡ Some stream → IsBornAs h heard l stream

-- what each link brought
abbrev pub all_brought : History → ℕ → List Packet
all_brought h t = brought t h

-- The streams are the births in their order, as long as there are ids.
pub record AreBorn (h : History) : Type 0 where
  pub drawn : (state h).drawn ≡ min (length (births h)) stream_ids
  pub kept : AllBornAs h (all_brought h) (state h).streams
