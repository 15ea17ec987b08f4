-- Cutting a stream into slices by form: each slice is a packet, or a header with a fault. Check words are not looked at.
use Rattle.std.specs.Prelude.{ℕ, ◌-◌, ◌≡◌, ◌<◌, ◌==◌, ◌⊎◌, if◌then◌else◌, nat_lt, map, List, [], ◌∷◌, ◌++◌, length, take, Some, None}
use Rattle.std.specs.Prelude.{Result, Ok, Err}
use Rattle.std.specs.List.{All, concat}
use Rattle.adb_outside.specs.declared.framer.Front.{Front}
use Rattle.adb_outside.specs.declared.framer.Front.TheVariants.{More, Whole}
use Rattle.adb_outside.specs.Framing.{Cut, cut}
use Rattle.adb_wire.specs.declared.headers.Head.{Head}
use Rattle.adb_wire.specs.declared.headers.HeadFault.{HeadFault}
use Rattle.adb_wire.specs.declared.headers.TheConstants.{HEADER_LEN}
use Rattle.adb_wire.specs.declared.format.PacketFault.TheVariants.{Broken, BadSum}
use Rattle.adb_wire.specs.Header.{head_at}
use Rattle.adb_wire.specs.Format.{packet_len, packet_of}
use Rattle.adb_wire.specs.Cutting.{Parts}

-- how long the slice of a header is: its packet's length, or the header's where it has a fault
abbrev pub headed_len : Result Head HeadFault → ℕ
headed_len (Ok head) = packet_len head
headed_len (Err fault) = HEADER_LEN

-- how long the slice is that the bytes begin: a header's length as long as the header is not whole
unfoldable pub slice_len : List ℕ → ℕ
slice_len bytes = if nat_lt (length bytes) HEADER_LEN then HEADER_LEN else headed_len (head_at bytes)

-- how many bytes that slice still misses: to the header, and then to what the header tells
abbrev pub need_of : List ℕ → ℕ
need_of bytes = slice_len bytes - length bytes

-- The bytes are one slice: a packet whose header has no fault, or a header with a fault.
abbrev pub IsSlice : List ℕ → Type 0
IsSlice bytes =
    ((head : Head) × (head_at bytes ≡ Ok head) × (length bytes ≡ packet_len head))
    ⊎ ((fault : HeadFault) × (head_at bytes ≡ Err fault) × (length bytes ≡ HEADER_LEN))

-- the slice that the bytes begin with, once it is whole
abbrev pub slice_front : Unit {0} → List ℕ → Front ⊥
slice_front _ bytes = if nat_lt (length bytes) (slice_len bytes) then More else Whole (slice_len bytes)

-- the slices of a stream, and the bytes past them
abbrev pub cut_slices : List ℕ → Cut (Unit {0}) (List ℕ) ⊥
cut_slices bytes = cut slice_front (λ _ frame. frame) (λ s _. s) tt bytes

-- the slice that is held, where it is whole
abbrev pub whole_of : List ℕ → List (List ℕ)
whole_of held = if need_of held == 0 then held ∷ [] else []

-- the bytes that are held, where they are no whole slice
abbrev pub open_of : List ℕ → List ℕ
open_of held = if need_of held == 0 then [] else held

-- All the bytes that were fed are the slices that were given and what is held; these are the first slices of the stream, and that
-- is the next one, or its front.
pub record HasSliced (fed : List ℕ) (gave : List (List ℕ)) (held : List ℕ) : Type 0 where
  pub bytes : concat gave ++ held ≡ fed
  pub each : All IsSlice gave
  pub slices : (cut_slices fed).given ≡ gave ++ whole_of held
  pub rest : (cut_slices fed).rest ≡ open_of held

-- The bytes are these slices, one behind the other, and a rest in which none is whole.
pub record AreSlices (bytes : List ℕ) (slices : List (List ℕ)) (rest : List ℕ) : Type 0 where
  pub each : All IsSlice slices
  pub spelled : concat slices ++ rest ≡ bytes
  pub short : length rest < slice_len rest

-- The slices are the packets of the stream's parts, and then others, which are the slices of the bytes past them:
-- none where the stream has no fault; the
-- header first that has one; and the packet first whose check word is wrong.
pub record Follow (slices : List (List ℕ)) (rest : List ℕ) (parts : Parts) : Type 0 where
  pub spelled : List (List ℕ)
  pub others : List (List ℕ)
  pub begins : slices ≡ spelled ++ others
  pub packets : map packet_of spelled ≡ parts.packets
  pub behind : AreSlices parts.rest others rest
  pub sound : parts.fault ≡ None → (others ≡ []) × (rest ≡ parts.rest)
  pub broken : (fault : HeadFault) → parts.fault ≡ Some (Broken fault)
      → (more : List (List ℕ)) × (others ≡ take HEADER_LEN parts.rest ∷ more)
  pub bad_sum : (said is : ℕ) → parts.fault ≡ Some (BadSum said is)
      → (head : Head) × (more : List (List ℕ)) × (head_at parts.rest ≡ Ok head) × (others ≡ take (packet_len head) parts.rest ∷ more)
