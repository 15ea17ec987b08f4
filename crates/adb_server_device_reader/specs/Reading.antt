-- What a device's reader does, over a hall that shows its entries and a device that shows its bytes.
use Rattle.std.specs.Prelude.{ℕ, ◌≡◌, ◌≢◌, ◌<◌, Bool, true, false, List, [], ◌∷◌, ◌++◌, length, Option, Some, ◌⊎◌}
use Rattle.std.specs.List.{All, concat}
use Rattle.adb_outside.specs.Outside.{Rises}
use Rattle.adb_outside.specs.declared.kinds.Cause.{Cause}
use Rattle.adb_outside.specs.declared.kinds.Cause.TheVariants.{Eof, Fault, Starved, NoThread}
use Rattle.adb_wire.specs.Slicing.{slice_len, IsSlice, HasSliced}
use Rattle.adb_capture.specs.declared.entry.Entry.{Entry}
use Rattle.adb_server_hall.specs.Telling.{Telling}
use Rattle.adb_server_device_reader.specs.Handing.{Stands, IsCutOff, IsEnd, IsSpared, Stays, Breaks, received}

-- where a reader begins: the entries that the hall shows, the bytes that the device has still to send, the count of
-- its faults, and whether an
-- allocation for the pass had failed
pub record Start : Type 0 where
  pub entries : List Entry
  pub bytes : List ℕ
  pub faults : ℕ
  pub starved : Bool

-- ---- what it does to the end
-- The device is at its end, or a read failed.
abbrev pub HasEnded : Start → List ℕ → ℕ → Type 0
HasEnded start rest faults = ((rest ≡ []) × (faults ≡ start.faults)) ⊎ Rises start.faults faults

-- bytes that were held when the device had ended, and are no whole slice
pub record IsRest (start : Start) (rest : List ℕ) (faults : ℕ) (piece : List ℕ) : Type 0 where
  pub some : piece ≢ []
  pub short : length piece < slice_len piece
  pub ended : HasEnded start rest faults

-- no piece, or one that is such a rest
abbrev pub IsEnding : Start → List ℕ → ℕ → List (List ℕ) → Type 0
IsEnding start rest faults ending =
    (ending ≡ []) ⊎ ((piece : List ℕ) × (ending ≡ piece ∷ []) × IsRest start rest faults piece)

-- No read failed; or the hall refused the rest that was held then.
abbrev pub IsUnfailed : Start → List ℕ → ℕ → List ℕ → Type 0
IsUnfailed start rest faults lost = (faults ≡ start.faults) ⊎ IsRest start rest faults lost

-- why a link's input is ended: the device is at its end and no read failed, a read failed, or an allocation failed
abbrev pub EndsBy : Start → List ℕ → ℕ → List ℕ → Bool → Telling → Cause → Type 0
EndsBy start rest faults lost starved now Eof = (rest ≡ []) × (faults ≡ start.faults) × IsSpared start.starved starved now
EndsBy start rest faults lost starved now Fault = Rises start.faults faults × IsSpared start.starved starved now
EndsBy start rest faults lost starved now Starved = (starved ≡ true) × IsUnfailed start rest faults lost
EndsBy start rest faults lost starved now NoThread = ⊥

-- The link's input was to be ended after these entries.
pub record Ends (t : ℕ) (start : Start) (rest : List ℕ) (faults : ℕ) (lost : List ℕ) (starved : Bool) (entries last : List Entry)
    (now : Telling) : Type 0 where
  pub cause : Cause
  pub by : EndsBy start rest faults lost starved now cause
  pub end : IsEnd t cause entries now last

-- The reader stops after these entries with no end of the input: the link is gone, the hall is shut, or a kill was
-- made. No read failed, or the
-- rest that was held then was handed in or refused.
pub record Rests (t : ℕ) (start : Start) (rest : List ℕ) (faults : ℕ) (lost : List ℕ) (starved : Bool)
    (entries last : List Entry) (now : Telling)
    (ending : List (List ℕ)) : Type 0 where
  pub stays : Stays t entries last start.starved starved now
  pub unfailed : IsUnfailed start rest faults lost ⊎ (ending ≢ [])

-- What was handed in, each piece by one entry, is slices and at most one rest after them. Joined, the pieces are what
-- was taken of the device;
-- bytes are lost only where the reader was cut off. At most one entry more ends the link's input. The reader has a cause to stop.
pub record Done (t : ℕ) (start : Start) (rest : List ℕ) (faults : ℕ) (starved : Bool) (tells : Option Telling) : Type 0 where
  pub pieces : List (List ℕ)
  pub slices : List (List ℕ)
  pub ending : List (List ℕ)
  pub last : List Entry
  pub lost : List ℕ
  pub pieces_are : pieces ≡ slices ++ ending
  pub each : All IsSlice slices
  pub short : IsEnding start rest faults ending
  pub taken : start.bytes ≡ concat pieces ++ lost ++ rest
  pub hall : Stands (start.entries ++ received t pieces ++ last) tells
  pub whole : (lost ≡ []) ⊎ IsCutOff t (start.entries ++ received t pieces) hall.now starved
  pub why : Rests t start rest faults lost starved (start.entries ++ received t pieces) last hall.now ending
      ⊎ Ends t start rest faults lost starved (start.entries ++ received t pieces) last hall.now

-- The reader is done, and the device shows what is left of it.
pub record HasRead (t : ℕ) (start : Start) (faults : ℕ) (starved : Bool) (tells : Option Telling) (left : Option (List ℕ)) : Type 0 where
  pub rest : List ℕ
  pub left_now : left ≡ Some rest
  pub done : Done t start rest faults starved tells

-- ---- what it did so far
-- Each slice of the bytes that the slicer took was handed in, except what it holds; these bytes are still to come. No allocation
-- failed.
pub record SoFar (t : ℕ) (start : Start) (held coming : List ℕ) (starved : Bool) (tells : Option Telling) : Type 0 where
  pub fed : List ℕ
  pub slices : List (List ℕ)
  pub sliced : HasSliced fed slices held
  pub taken : start.bytes ≡ fed ++ coming
  pub hall : Stands (start.entries ++ received t slices) tells
  pub memory : starved ≡ start.starved

-- The reader is cut off before its device has ended.
pub record Cut (t : ℕ) (start : Start) (rest : List ℕ) (starved : Bool) (tells : Option Telling) : Type 0 where
  pub slices : List (List ℕ)
  pub last : List Entry
  pub lost : List ℕ
  pub each : All IsSlice slices
  pub taken : start.bytes ≡ concat slices ++ lost ++ rest
  pub breaks : Breaks t (start.entries ++ received t slices) last start.starved starved tells

abbrev pub Fed : Bool → ℕ → Start → List ℕ → List ℕ → Bool → Option Telling → Type 0
Fed true t start held rest starved tells = SoFar t start held rest starved tells
Fed false t start held rest starved tells = Cut t start rest starved tells

-- The device has ended for that cause.
abbrev pub HasEndedBy : Start → List ℕ → ℕ → Cause → Type 0
HasEndedBy start rest faults Eof = (rest ≡ []) × (faults ≡ start.faults)
HasEndedBy start rest faults Fault = Rises start.faults faults
HasEndedBy start rest faults Starved = ⊥
HasEndedBy start rest faults NoThread = ⊥

-- The reader goes on, no read failed, and the device shows what is left of it.
pub record IsReading (t : ℕ) (start : Start) (held : List ℕ) (faults : ℕ) (starved : Bool) (tells : Option Telling)
    (left : Option (List ℕ)) : Type 0 where
  pub rest : List ℕ
  pub left_now : left ≡ Some rest
  pub so_far : SoFar t start held rest starved tells
  pub unfailed : faults ≡ start.faults

abbrev pub Turned : Bool → ℕ → Start → List ℕ → ℕ → Bool → Option Telling → Option (List ℕ) → Type 0
Turned true t start held faults starved tells left = IsReading t start held faults starved tells left
Turned false t start held faults starved tells left = HasRead t start faults starved tells left
