-- What the entries of its client make of what is seen of a stream.
use Rattle.std.specs.Prelude.{ℕ, ◌+◌, ◌-◌, ◌≡◌, ◌⊎◌, Bool, true, false, if◌then◌else◌, nat_eq, List, [], ◌∷◌, ◌++◌, length, drop, min}
use Rattle.std.specs.Prelude.{Option, Some, None}
use Rattle.std.specs.Prelude.{zero, suc}
use Rattle.adb_outside.specs.declared.kinds.Cause.{Cause}
use Rattle.adb_wire.specs.declared.packets.Packet.{Packet}
use Rattle.adb_stream.specs.Credit.{given_back}
use Rattle.adb_client.specs.declared.phase.Phase.{Phase}
use Rattle.adb_client.specs.declared.phase.Phase.TheVariants.{Opening, Streaming, Closing}
use Rattle.adb_history.specs.declared.ending.Ending.{Ending}
use Rattle.adb_history.specs.declared.ending.Ending.TheVariants.{ClientFailed, Stopped}
use Rattle.adb_history.specs.Links.{okay_packet, credit_packet}
use Rattle.adb_laws_fifo_down.specs.Line.{Line, SeenStream, SeenClient, View, first_of, closing_seen}

-- ---- what holds of the client of a stream
abbrev pub IsInLine : ℕ → Phase → Type 0
IsInLine l (Opening k) = k ≡ l
IsInLine l (Streaming k) = k ≡ l
IsInLine l Closing = Unit {0}
IsInLine l _ = ⊥

-- a client that is there waits for the stream, has it open, or is closing
abbrev pub IsServed : Line → View → Type 0
IsServed b v = (a : SeenClient) → v.client ≡ Some a → IsInLine b.id a.phase

-- ---- its connection fails
abbrev pub row_fails : Phase → Ending → Option SeenStream → View → View
row_fails (Streaming l) ending (Some x) v = record v { stream = None; client = None; ending = first_of v.ending (Some ending) }
row_fails (Opening l) ending (Some x) v =
    record v { stream = Some (record x { orphan = true }); client = None; ending = first_of v.ending (Some ending) }
row_fails _ ending o v = record v { client = None }

abbrev pub failed_by : Cause → SeenClient → View → View
failed_by cause a v = row_fails a.phase (ClientFailed cause) v.stream v

-- ---- the server stops
abbrev pub IsStop : Option Ending → Type 0
IsStop ending = (ending ≡ None) ⊎ (ending ≡ Some Stopped)

abbrev pub killed : Option Ending → View → View
killed ending v = record v { stream = None; client = None; ending = first_of v.ending ending }

-- ---- bytes are handed out to it
abbrev pub back_of : ℕ → SeenStream → ℕ
back_of left x = given_back left (x.gathered + (x.to_hand - left))

-- the row when so many are left
abbrev pub row_left : ℕ → SeenStream → SeenStream
row_left left x =
    if x.credit then record x {
      left = x.left + back_of left x;
      to_hand = left;
      gathered =
          x.gathered + (x.to_hand - left) - back_of left x;
    }
    else record x { to_hand = left }

abbrev pub more_okays : List Packet → View → View
more_okays okays v = record v { okays = v.okays ++ okays }

-- what its device is told
abbrev pub credit_told : ℕ → ℕ → SeenStream → View → View
credit_told zero l x v = v
credit_told (suc n) l x v = more_okays (credit_packet l x.remote (suc n) ∷ []) v

abbrev pub whole_told : ℕ → ℕ → SeenStream → View → View
whole_told zero l x v = more_okays (okay_packet l x.remote ∷ []) v
whole_told (suc left) l x v = v

abbrev pub left_told : Bool → (left l : ℕ) → SeenStream → View → View
left_told true left l x v = credit_told (back_of left x) l x v
left_told false left l x v = whole_told left l x v

abbrev pub stream_left_as : (left l : ℕ) → SeenStream → View → View
stream_left_as left l x v =
    if nat_eq left x.to_hand then v else left_told x.credit left l x (record v { stream = Some (row_left left x) })

-- the stream of a client to which so many bytes are due now
abbrev pub row_handed : ℕ → ℕ → Option SeenStream → View → View
row_handed due l None v = v
row_handed due l (Some x) v = stream_left_as (min x.to_hand due) l x v

abbrev pub handed_in : Phase → ℕ → ℕ → SeenClient → View → View
handed_in (Streaming l) k n a v = row_handed (length (drop n a.due)) k v.stream
    (record v { client = Some (record a { due = drop n a.due }) })
handed_in Closing k n a v = record v { client = closing_seen (drop n a.due) a }
handed_in _ k n a v = record v { client = Some (record a { due = drop n a.due }) }

-- so many bytes are handed out
abbrev pub handed_out : Line → ℕ → SeenClient → View → View
handed_out b n a v = handed_in a.phase b.id n a v
