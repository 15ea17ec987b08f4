-- What is to be shown of a promise on one stream: that it is kept at each turn of what is seen of the stream.
use Rattle.std.specs.Prelude.{ℕ, ◌≡◌, ◌⊎◌, Bool, true, false, List, [], ◌∷◌, ◌++◌, length, Option, Some}
use Rattle.adb_outside.specs.Bytes.{IsPrefixOf}
use Rattle.adb_outside.specs.declared.kinds.Cause.{Cause}
use Rattle.adb_wire.specs.declared.packets.Packet.{Packet}
use Rattle.adb_history.specs.Rows.{State}
use Rattle.adb_history.specs.Events.{Event}
use Rattle.adb_history.specs.declared.ending.Ending.{Ending}
use Rattle.adb_history.specs.declared.ending.Ending.TheVariants.{ClientClosed, Lost, Broken}
use Rattle.adb_laws_fifo_down.specs.Line.{Line, SeenStream, SeenClient, View, Shows, IsOpenIn, over}
use Rattle.adb_laws_fifo_down.specs.Treated.{treated}
use Rattle.adb_laws_fifo_down.specs.Turned.{IsServed, IsStop, failed_by, killed, handed_out}

-- What is promised of a stream: of the packets that its link brought after its birth, of whether it brings no more,
-- of the bytes that were put to its client,
-- and of what is seen.
abbrev pub Promise : Type 1
Promise = (packets : List Packet) (shut : Bool) (out : List ℕ) (v : View) → Type 0

-- what each turn of what is seen keeps
pub record Turns (b : Line) (P : Promise) : Type 0 where
  pub served : (packets : List Packet) (shut : Bool) (out : List ℕ) (v : View) → P packets shut out v → IsServed b v
  -- the stream is closed for its client
  pub closes : (packets : List Packet) (shut : Bool) (out : List ℕ) (v : View) (y : IsOpenIn b v) → P packets shut out v
      → P packets shut out (over y.row.orphan ClientClosed v)
  -- its client fails, or another one stops the server
  pub fails : (packets : List Packet) (shut : Bool) (out : List ℕ) (v : View) (cause : Cause) (a : SeenClient) → v.client ≡ Some a
      → P packets shut out v → P packets shut out (failed_by cause a v)
  pub stops : (packets : List Packet) (shut : Bool) (out : List ℕ) (v : View) (ending : Option Ending) → IsStop ending
      → P packets shut out v
      → P packets shut out (killed ending v)
  -- bytes are handed out to its client
  pub hands : (packets : List Packet) (shut : Bool) (out : List ℕ) (v : View) (a : SeenClient) (bytes : List ℕ) → v.client ≡ Some a
      → IsPrefixOf bytes a.due → P packets shut out v → P packets shut (out ++ bytes) (handed_out b (length bytes) a v)
  -- its link brings a packet, or no more
  pub treats : (packets : List Packet) (out : List ℕ) (v : View) (p : Packet) → P packets false out v
      → P (packets ++ p ∷ []) false out (treated b p v)
  pub shuts : (packets : List Packet) (shut : Bool) (out : List ℕ) (v : View) → P packets shut out v → P packets true out v
  pub breaks : (packets : List Packet) (out : List ℕ) (v : View) (x : SeenStream) (ending : Ending) → v.stream ≡ Some x
      → (ending ≡ Lost) ⊎ (ending ≡ Broken) → P packets true out v → P packets true out (over x.orphan ending v)

-- it holds of a state and what was told until then
pub record Holds (b : Line) (P : Promise) (packets : List Packet) (shut : Bool) (out : List ℕ) (s : State) (w : List Event) : Type 0 where
  pub seen : View
  pub shows : Shows b seen s w
  pub keeps : P packets shut out seen
