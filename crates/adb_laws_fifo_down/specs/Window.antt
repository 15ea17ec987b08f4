-- What the device of a stream is told of what was handed out, in what is seen of the stream.
use Rattle.std.specs.Prelude.{ℕ, ⊤, ◌+◌, ◌≡◌, ◌≤◌, Bool, true, false, List, [], length, drop, Option, Some, None, zero, suc}
use Rattle.adb_wire.specs.declared.packets.Packet.{Packet}
use Rattle.adb_history.specs.Births as birth
use Rattle.adb_history.specs.Births.{opening_in, told_in, joined}
use Rattle.adb_history.specs.Fifo.{whole_within, credit_of, GivesBack}
use Rattle.adb_laws_fifo_down.specs.Line.{SeenStream, View}
use Rattle.adb_laws_fifo_down.specs.Life.{Cradle, lead, Life}

-- how many bytes of a stream were handed out
abbrev pub handed_past : Cradle → List ℕ → ℕ
handed_past k out = length (drop (length (lead k)) out)

-- what is acknowledged was handed out
abbrev pub IsBackedBy : Bool → List (List ℕ) → List Packet → ℕ → Type 0
IsBackedBy false told okays handed = length okays ≤ whole_within handed told
IsBackedBy true told okays handed = GivesBack okays handed

abbrev pub IsBacked : Option birth.Opening → (l : ℕ) → Bool → List Packet → ℕ → Type 0
IsBacked None l credit okays handed = okays ≡ []
IsBacked (Some o) l credit okays handed = IsBackedBy credit (told_in o.remote l o.later) okays handed

-- whether a write waits to be handed out whole
abbrev pub waiting_write : ℕ → ℕ
waiting_write zero = 0
waiting_write (suc n) = 1

-- Each write but the last is acknowledged at most once, and the last only when it was handed out; or each byte of
-- credit that was given back was handed out.
abbrev pub Counts : Bool → SeenStream → List (List ℕ) → List Packet → ℕ → Type 0
Counts false x told okays handed = length okays + waiting_write x.to_hand ≡ length told
Counts true x told okays handed = credit_of okays + x.gathered ≤ handed

pub record IsFlowing (k : Cradle) (x : SeenStream) (told : List (List ℕ)) (okays : List Packet) (handed : ℕ) : Type 0 where
  pub left : x.to_hand + handed ≡ length (joined told)
  pub counts : Counts k.credit x told okays handed

pub record IsUnused (x : SeenStream) (okays : List Packet) : Type 0 where
  pub none : okays ≡ []
  pub to_hand : x.to_hand ≡ 0
  pub gathered : x.gathered ≡ 0

-- by what the packets say of its opening
abbrev pub FlowsBy : Option birth.Opening → (l : ℕ) → Cradle → SeenStream → List Packet → ℕ → Type 0
FlowsBy None l k x okays handed = IsUnused x okays
FlowsBy (Some o) l k x okays handed = IsFlowing k x (told_in o.remote l o.later) okays handed

abbrev pub FlowAs : Bool → (l : ℕ) → Cradle → List Packet → SeenStream → List Packet → ℕ → Type 0
FlowAs true l k packets x okays handed = IsUnused x okays
FlowAs false l k packets x okays handed = FlowsBy (opening_in l packets) l k x okays handed

abbrev pub FlowIn : Option SeenStream → ℕ → Cradle → List Packet → List Packet → ℕ → Type 0
FlowIn None l k packets okays handed = ⊤
FlowIn (Some x) l k packets okays handed = (x.credit ≡ k.credit) × FlowAs x.orphan l k packets x okays handed

pub record Window (l : ℕ) (k : Cradle) (packets : List Packet) (shut : Bool) (out : List ℕ) (v : View) : Type 0 where
  pub life : Life l k packets shut out v
  pub backed : IsBacked (opening_in l packets) l k.credit v.okays (handed_past k out)
  pub flow : FlowIn v.stream l k packets v.okays (handed_past k out)
