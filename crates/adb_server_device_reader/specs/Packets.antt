-- The packets that a device sends, gathered.
use Rattle.std.specs.Prelude.{ℕ, ◌+◌, ◌≡◌, ◌≤◌, List, [], ◌∷◌, ◌++◌, length, Option, Some, None, Ok}
use Rattle.bytes.specs.Filled.{Filled}
use Rattle.adb_wire.specs.declared.headers.Head.{Head}
use Rattle.adb_wire.specs.declared.headers.TheConstants.{HEADER_LEN}
use Rattle.adb_wire.specs.Header.{head_at}
use Rattle.adb_wire.specs.Format.{packet_len}
use Rattle.adb_wire.specs.Slicing.{slice_len, IsSlice, HasSliced}

-- The bytes are a front of that header's packet, and there is room for all of it.
pub record IsFrontOf (head : Head) (front : Filled) : Type 0 where
  pub read : head_at front.items ≡ Ok head
  pub begun : HEADER_LEN ≤ length front.items
  pub within : length front.items ≤ packet_len head
  pub room : packet_len head ≤ length front.items + front.spare

-- the bytes that are held: those of a packet that has memory of its own, or those of the slicer
abbrev pub held_of : Option (List ℕ) → List ℕ → List ℕ
held_of None held = held
held_of (Some front) held = front

-- Where a packet has memory of its own, the slicer holds nothing, and the packet is not too long.
abbrev pub IsAlone : Option (List ℕ) → List ℕ → Type 0
IsAlone None held = Unit {0}
IsAlone (Some front) held = (held ≡ []) × (length front ≤ slice_len front)

-- The packet was whole and is given, and nothing is held.
pub record Shares (old new whole : List ℕ) : Type 0 where
  pub given : whole ≡ old
  pub empty : new ≡ []
  pub slice : IsSlice whole
  pub stands : (fed : List ℕ) (gave : List (List ℕ)) → HasSliced fed gave old → HasSliced fed (gave ++ old ∷ []) new
