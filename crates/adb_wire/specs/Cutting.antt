-- The cutting of whole streams into packets, in the protocol's words.
use Rattle.std.specs.Prelude.{ℕ, ◌^◌, ◌≡◌, ◌<◌, ◌≤◌, ◌⊎◌, Bool, false, ◌||◌, ◌==◌, IsTrue, List, [], ◌∷◌, ◌++◌, length, reverse, find}
use Rattle.std.specs.Prelude.{Option, Some, None, Ok, Err}
use Rattle.adb_outside.specs.Framing.{Cut, cut}
use Rattle.adb_wire.specs.declared.headers.Head.{Head}
use Rattle.adb_wire.specs.declared.headers.TheConstants.{HEADER_LEN}
use Rattle.adb_wire.specs.declared.packets.Packet.{Packet}
use Rattle.adb_wire.specs.declared.format.PacketFault.{PacketFault}
use Rattle.adb_wire.specs.declared.format.PacketFault.TheVariants.{Broken, BadSum}
use Rattle.adb_wire.specs.declared.format.PacketFormat.{PacketFormat}
use Rattle.adb_wire.specs.Header.{IsBytes, byte_sum_of, head_at}
use Rattle.adb_wire.specs.Packet.{IsPacket, spelling}
use Rattle.adb_wire.specs.Format.{is_cnxn, may_carry, has_sums, payload_at, packet_len, front_of, packet_of, format_after}

-- whether check words are looked at behind that CNXN, or behind none
abbrev pub wants_behind : Option Packet → Bool
wants_behind None = false
wants_behind (Some cnxn) = has_sums cnxn.arg0

-- Whether check words are looked at behind these packets: the last CNXN among them has a version that does so.
abbrev pub wants_sums : List Packet → Bool
wants_sums before = wants_behind (find (λ p. is_cnxn p.command) (reverse before))

-- A packet may carry that check word behind these packets.
abbrev pub MayCarry : List Packet → Packet → ℕ → Type 0
MayCarry before p check = IsTrue (may_carry (wants_sums before) p.command check (byte_sum_of p.payload))

-- The bytes begin with a good packet, behind these packets, and more follows.
pub record Begins (before : List Packet) (p : Packet) (bytes more : List ℕ) : Type 0 where
  pub check : ℕ
  pub packet : IsPacket p
  pub word : check < 2 ^ 32
  pub allowed : MayCarry before p check
  pub spelled : bytes ≡ spelling p check ++ more

-- The bytes are good packets, the first of them behind those before, and the rest.
abbrev pub Spells : List Packet → List ℕ → List Packet → List ℕ → Type 0
Spells before bytes [] rest = bytes ≡ rest
Spells before bytes (p ∷ ps) rest = (more : List ℕ) × Begins before p bytes more × Spells (before ++ p ∷ []) more ps rest

-- Behind these packets no good packet is whole at the front of the bytes, and this is the fault there: none, where bytes
-- are missing; the header's first; or the check word that was said, and the sum that is.
abbrev pub Stops : List Packet → List ℕ → Option PacketFault → Type 0
Stops before rest None = (length rest < HEADER_LEN) ⊎ ((head : Head) × (head_at rest ≡ Ok head) × (length rest < packet_len head))
Stops before rest (Some (Broken fault)) = (HEADER_LEN ≤ length rest) × (head_at rest ≡ Err fault)
Stops before rest (Some (BadSum said is)) =
    (head : Head) × (head_at rest ≡ Ok head) × (packet_len head ≤ length rest) × (said ≡ head.check)
    × (is ≡ byte_sum_of (payload_at head rest)) × (may_carry (wants_sums before) head.command said is ≡ false)

-- A stream in parts: good packets, the bytes past them, and the fault there.
pub record Parts : Type 0 where
  pub packets : List Packet
  pub rest : List ℕ
  pub fault : Option PacketFault

-- the parts of a stream that is whole packets
abbrev pub whole_packets : List Packet → Parts
whole_packets packets = record { packets = packets; rest = []; fault = None }

-- The bytes are cut so: they are these good packets and the rest, which begins with no good whole packet and has this fault.
pub record Cuts (bytes : List ℕ) (parts : Parts) : Type 0 where
  pub in_range : IsBytes bytes
  pub spelled : Spells [] bytes parts.packets parts.rest
  pub stops : Stops parts.packets parts.rest parts.fault

-- what the framing computes of bytes that are read so
abbrev pub cut_packets : PacketFormat → List ℕ → Cut PacketFormat Packet PacketFault
cut_packets = cut front_of (λ _ frame. packet_of frame) (λ format frame. format_after format (packet_of frame))

-- what the framing computes of a whole stream
abbrev pub framed : List ℕ → Cut PacketFormat Packet PacketFault
framed bytes = cut_packets (record { sums = false }) bytes

-- the parts that the framing computes
abbrev pub parts_of : List ℕ → Parts
parts_of bytes = record { packets = (framed bytes).given; rest = (framed bytes).rest; fault = (framed bytes).fault }

-- Of these packets the given come first, and then that one, or none.
abbrev pub IsNextOf : List Packet → List Packet → Option Packet → Type 0
IsNextOf packets given None = packets ≡ given
IsNextOf packets given (Some p) = (others : List Packet) × (packets ≡ given ++ p ∷ others)

-- What was added to the bytes is cut to that packet behind any whole packets, whatever follows, if its check word may stand there.
abbrev pub Adds : List ℕ → List ℕ → Packet → ℕ → Type 0
Adds old new p check = (before : List Packet) (more : List ℕ) (parts : Parts) → Cuts old (whole_packets before) → MayCarry before p check
    → Cuts (new ++ more) parts → IsNextOf parts.packets before (Some p)

-- The packets of all begin with those of a front, and where that has a fault it stays.
pub record Continues (front all : Parts) : Type 0 where
  pub others : List Packet
  pub begins : all.packets ≡ front.packets ++ others
  pub stays : (f : PacketFault) → front.fault ≡ Some f → (all.packets ≡ front.packets) × (all.fault ≡ Some f)

-- A packet goes out with its sum: a CNXN does, and another does on a link of version 0x01000000.
abbrev pub goes_with_sum : ℕ → Packet → Bool
goes_with_sum version p = is_cnxn p.command || version == 0x01000000
