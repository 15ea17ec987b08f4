-- Cutting bytes into frames: what a front of the bytes is, and what follows from it alone.
use Rattle.std.specs.Prelude.{ℕ, ◌+◌, ◌-◌, ◌^◌, ◌≡◌, ◌≢◌, ◌≤◌, ◌<◌, min, List, [], ◌∷◌, ◌++◌, length, take, drop, zero, suc}
use Rattle.std.specs.Prelude.{Option, Some, None, IfSome, IfNone, option_to_list, Result, Ok, Err}
use Rattle.adb_outside.specs.declared.framer.Front.{Front}
use Rattle.adb_outside.specs.declared.framer.Front.TheVariants.{More, Bad, Whole}

-- The frames of some bytes: what each holds, how the bytes past them are read, those bytes, and the fault there.
pub record Cut (S V F : Type 0) : Type 0 where
  pub given : List V
  pub reading : S
  pub rest : List ℕ
  pub fault : Option F

-- nothing is cut
abbrev pub uncut : {S V F : Type 0} → S → List ℕ → Option F → Cut S V F
uncut s bytes fault = record { given = []; reading = s; rest = bytes; fault = fault }

-- frames before those of a cut
abbrev pub joined : {S V F : Type 0} → List V → Cut S V F → Cut S V F
joined vs c = record { given = vs ++ c.given; reading = c.reading; rest = c.rest; fault = c.fault }

-- the fault at a front
abbrev pub fault_of : {F : Type 0} → Front F → Option F
fault_of More = None
fault_of (Bad fault) = Some fault
fault_of (Whole n) = None

-- the answer of a call that reports a fault, where there is one
abbrev pub answer_of : {F E : Type 0} → (F → E) → Option F → Result (Unit {0}) E
answer_of fails None = Ok tt
answer_of fails (Some fault) = Err (fails fault)

-- the offset so many bytes on: it stays at the last number of 64 bits
abbrev pub offset_past : ℕ → ℕ → ℕ
offset_past offset n = min (offset + n) (2 ^ 64 - 1)

-- A format: what a front of the bytes is, what a whole frame holds, and how the bytes after it are read.
module _ {S V F : Type 0} (find : S → List ℕ → Front F) (item : S → List ℕ → V) (after : S → List ℕ → S) where
  abbrev pub cut_by : S → List ℕ → Front F → (S → List ℕ → Cut S V F) → Cut S V F
  cut_by s bytes More others = uncut s bytes None
  cut_by s bytes (Bad fault) others = uncut s bytes (Some fault)
  cut_by s bytes (Whole n) others = joined (item s (take n bytes) ∷ []) (others (after s (take n bytes)) (drop n bytes))

  -- at most k frames
  abbrev pub cut_at : ℕ → S → List ℕ → Cut S V F
  cut_at zero s bytes = uncut s bytes None
  cut_at (suc k) s bytes = cut_by s bytes (find s bytes) (cut_at k)

  -- all the frames: none is empty, so there are no more of them than bytes
  abbrev pub cut : S → List ℕ → Cut S V F
  cut s bytes = cut_at (length bytes) s bytes

  -- Whether a front of the bytes is a whole frame or a fault stays so, whatever follows; a frame is not empty, lies within the
  -- bytes, and is a frame without those behind it too.
  pub record IsFraming : Type 0 where
    pub empty : (s : S) → find s [] ≡ More
    pub bad : (s : S) (x y : List ℕ) (fault : F) → find s x ≡ Bad fault → find s (x ++ y) ≡ Bad fault
    pub whole : (s : S) (x y : List ℕ) (n : ℕ) → find s x ≡ Whole n → find s (x ++ y) ≡ Whole n
    pub fits : (s : S) (x : List ℕ) (n : ℕ) → find s x ≡ Whole n → (0 < n) × (n ≤ length x)
    pub alone : (s : S) (x : List ℕ) (n : ℕ) → find s x ≡ Whole n → find s (take n x) ≡ Whole n

  -- all the frames of the bytes of a stream before their first fault
  abbrev pub given_in : S → List ℕ → List V
  given_in start bytes = (cut start bytes).given

  -- the first fault of the bytes of a stream
  abbrev pub fault_in : S → List ℕ → Option F
  fault_in start bytes = (cut start bytes).fault

  -- what is held after a further piece: where there is a fault, all stays
  abbrev pub held_after : Cut S V F → List ℕ → Option F → Cut S V F
  held_after held piece None = joined held.given (cut held.reading (held.rest ++ piece))
  held_after held piece (Some fault) = held

  -- A cut may stop here: the rest begins with no whole frame, and where it begins with a fault, that is the fault.
  pub record Stops (reading : S) (rest : List ℕ) (fault : Option F) : Type 0 where
    pub told : fault ≡ fault_of (find reading rest)
    pub none_left : (n : ℕ) → find reading rest ≢ Whole n

  -- A cut is right: the bytes spell its frames and its rest, in a format's own words; the rest begins where it is
  -- read from; and it may stop there.
  pub record IsRightCut (offset : S → ℕ) (Spells : S → List ℕ → List V → S → List ℕ → Type 0) (from : S)
      (bytes : List ℕ) (c : Cut S V F) : Type 0 where
    pub spelled : Spells from bytes c.given c.reading c.rest
    pub place : offset c.reading ≡ offset_past (offset from) (length bytes - length c.rest)
    pub stops : Stops c.reading c.rest c.fault

  -- What is held of a stream: of all the bytes that were fed and the frames that were taken it still has the other frames, the
  -- fault, and where there is none the bytes past the last frame.
  pub record Stands (start : S) (fed : List ℕ) (taken : List V) (now : Cut S V F) : Type 0 where
    pub frames : (cut start fed).given ≡ taken ++ now.given
    pub fault : (cut start fed).fault ≡ now.fault
    pub open_rest : now.fault ≡ None → ((cut start fed).rest ≡ now.rest) × ((cut start fed).reading ≡ now.reading)

  -- A piece was taken: what is held is that after it; what it stood for has the piece too; and its fault is the first of all the
  -- bytes.
  pub record Takes (old : Cut S V F) (piece : List ℕ) (new : Cut S V F) : Type 0 where
    pub held : new ≡ held_after old piece old.fault
    pub stands : (start : S) (fed : List ℕ) (taken : List V) → Stands start fed taken old → Stands start (fed ++ piece) taken new
    pub first_fault : (start : S) (fed : List ℕ) (taken : List V) → Stands start fed taken old → new.fault ≡ fault_in start (fed ++ piece)

  -- The next frame was given, the first of those that are held; or all that the bytes have were given before.
  pub record Gives (old new : Cut S V F) (given : Option V) : Type 0 where
    pub some : IfSome given (λ v. old ≡ record new { given = v ∷ new.given })
    pub none : IfNone given ((old.given ≡ []) × (new ≡ old))
    pub stands : (start : S) (fed : List ℕ) (taken : List V) → Stands start fed taken old
        → Stands start fed (taken ++ option_to_list given) new
    pub none_left : IfNone given ((start : S) (fed : List ℕ) (taken : List V) → Stands start fed taken old → given_in start fed ≡ taken)
