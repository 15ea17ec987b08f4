-- Packets that came whole.
use Rattle.std.specs.Prelude.{ℕ, ◌≡◌, ◌≤◌, ◌∷◌, [], Bool, true, false, ◌&&◌, not, List, length, drop, Option, Some, None, Ok}
use Rattle.adb_wire.specs.declared.headers.Head.{Head}
use Rattle.adb_wire.specs.declared.headers.TheConstants.{HEADER_LEN, MAX_PAYLOAD}
use Rattle.adb_wire.specs.declared.packets.Packet.{Packet}
use Rattle.adb_wire.specs.Header.{head_at, byte_sum_of}
use Rattle.adb_wire.specs.Format.{packet_len, may_carry, is_cnxn, has_sums}
use Rattle.adb_wire.specs.Deframing.{Deframing, no_bytes}
use Rattle.adb_hub_tables.specs.declared.ports.Port.{Port}
use Rattle.adb_hub_links.specs.Cutting.{cut_of}

-- The bytes begin with that header, and are its packet.
pub record IsWhole (head : Head) (bytes : List ℕ) : Type 0 where
  pub read : head_at bytes ≡ Ok head
  pub long : length bytes ≡ packet_len head

-- Whether a packet is good where no check words are looked at, and asks for none behind it.
abbrev pub is_plain : Head → List ℕ → Bool
is_plain head payload =
    may_carry false head.command head.check (byte_sum_of payload) && not (is_cnxn head.command && has_sums head.arg0)

-- The bytes are a packet of that header, good where no check words are looked at, and it asks for none behind it.
pub record IsPlain (head : Head) (bytes : List ℕ) : Type 0 where
  pub whole : IsWhole head bytes
  pub plain : is_plain head (drop HEADER_LEN bytes) ≡ true

-- one packet, and nothing else that is held
abbrev pub alone : Packet → Deframing
alone p = record no_bytes { given = p ∷ [] }

-- On a link to which nothing was fed the bytes are that one good packet, and leave it as if nothing was fed.
abbrev pub StandsAlone : List ℕ → Packet → Type 0
StandsAlone bytes p = cut_of no_bytes bytes ≡ alone p

-- They are, and it is not too long.
pub record IsAlone (bytes : List ℕ) (p : Packet) : Type 0 where
  pub stands : StandsAlone bytes p
  pub size : length p.payload ≤ MAX_PAYLOAD

-- A link lives that holds nothing, and on which no check words are looked at.
abbrev pub IsFreshAt : Option Port → Type 0
IsFreshAt None = ⊥
IsFreshAt (Some port) = port.link.incoming ≡ no_bytes
