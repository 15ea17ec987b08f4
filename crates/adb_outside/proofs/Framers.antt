-- The loop that cuts bytes into frames: how far it has come.
use Rattle.std.proofs.Common.{ℕ, ◌+◌, ◌-◌, ◌≡◌, ◌≤◌, List, [], ◌∷◌, ◌++◌, length, take, drop, refl, sym, ◌∙◌, ap, subst, arith}
use Rattle.std.proofs.lemmas.List.{length-drop, length-take, take-append-le, drop-drop, append_assoc, append-nil}
use Rattle.std.proofs.Math.Seq.{take-length}
use Rattle.adb_outside.specs.declared.framer.Front.{Front}
use Rattle.adb_outside.specs.declared.framer.Front.TheVariants.{More, Bad, Whole}
use Rattle.adb_outside.specs.Framing.{uncut, joined, cut_by, cut, IsFraming, fault_of}
use Rattle.adb_outside.proofs.FramingLaws.{cut_first}

-- the bytes of a slice from a place on
pub from_place : (i : ℕ) (xs : List ℕ) → take (length xs - i) (drop i xs) ≡ drop i xs
from_place i xs = ap (λ k. take k (drop i xs)) (sym (length-drop i xs)) ∙ take-length (drop i xs)

-- A moment of the loop: how the bytes are read, and those, the frames before them, and now; how the bytes at the
-- place are read, and what they begin with.
pub record Moment (S V F : Type 0) : Type 0 where
  pub start : S
  pub bytes : List ℕ
  pub before : List V
  pub given : List V
  pub reading : S
  pub place : ℕ
  pub front : Front F

module _ {S V F : Type 0} (find : S → List ℕ → Front F) (item : S → List ℕ → V) (after : S → List ℕ → S) where
  -- The frames up to the place were cut: they stand behind those before.
  pub record Cutting (m : Moment S V F) : Type 0 where
    pub within : m.place ≤ length m.bytes
    pub found : m.front ≡ find m.reading (drop m.place m.bytes)
    pub frames : joined m.before (cut find item after m.start m.bytes)
        ≡ joined m.given (cut find item after m.reading (drop m.place m.bytes))
    pub front_of : take (length m.before) m.given ≡ m.before

  -- A turn of the loop at a moment: the frame that was read there, and what it leaves.
  pub record Turn (m : Moment S V F) : Type 0 where
    pub size : ℕ
    pub whole : m.front ≡ Whole size
    pub value : V
    pub holds : value ≡ item m.reading (take ((m.place + size) - m.place) (drop m.place m.bytes))
    pub given : List V
    pub more : given ≡ m.given ++ value ∷ []
    pub reading : S
    pub past : reading ≡ after m.reading (take ((m.place + size) - m.place) (drop m.place m.bytes))
    pub front : Front F
    pub found : front ≡ find reading (take (length m.bytes - (m.place + size)) (drop (m.place + size) m.bytes))

  module _ (laws : IsFraming find item after) where
    -- a whole frame within the bytes is what the format may read
    pub frame_alone : (reading : S) (bytes : List ℕ) (place n : ℕ) → find reading (drop place bytes) ≡ Whole n
        → find reading (take (place + n - place) (drop place bytes)) ≡ Whole (length (take (place + n - place) (drop place bytes)))
    frame_alone reading bytes place n e =
        let same : (place + n) - place ≡ n = omega arith in
        let fits = laws.fits reading (drop place bytes) n e in
        let len : length (take n (drop place bytes)) ≡ n = omega (arith, fits, length-take n (drop place bytes)) in
        subst (λ (k : ℕ). find reading (take k (drop place bytes)) ≡ Whole (length (take k (drop place bytes)))) (sym same)
        (laws.alone reading (drop place bytes) n e ∙ ap Whole (sym len))

    -- the frame at the place is what the format may read
    pub may_read : (m : Moment S V F) → Cutting m → (n : ℕ) → m.front ≡ Whole n
        → find m.reading (take ((m.place + n) - m.place) (drop m.place m.bytes))
        ≡ Whole (length (take ((m.place + n) - m.place) (drop m.place m.bytes)))
    may_read m h n is = frame_alone m.reading m.bytes m.place n (sym h.found ∙ is)

    -- it lies within the bytes
    pub frame_fits : (m : Moment S V F) → Cutting m → (n : ℕ) → m.front ≡ Whole n → m.place + n ≤ length m.bytes
    frame_fits m h n is =
        let fits = laws.fits m.reading (drop m.place m.bytes) n (sym h.found ∙ is) in
        omega (arith, fits, h.within, length-drop m.place m.bytes)

    -- the frame at the place is cut
    pub goes_on : (m : Moment S V F) → Cutting m → (turn : Turn m)
        → Cutting (record m { given = turn.given; reading = turn.reading; place = m.place + turn.size; front = turn.front })
    goes_on m h turn =
        let here = drop m.place m.bytes in
        let next = m.place + turn.size in
        let at : find m.reading here ≡ Whole turn.size = sym h.found ∙ turn.whole in
        let fits = laws.fits m.reading here turn.size at in
        let same : next - m.place ≡ turn.size = omega arith in
        let frame : take (next - m.place) here ≡ take turn.size here = ap (λ k. take k here) same in
        let tail : drop turn.size here ≡ drop next m.bytes = drop-drop turn.size m.place m.bytes in
        let value : item m.reading (take turn.size here) ≡ turn.value = sym (turn.holds ∙ ap (item m.reading) frame) in
        let state : after m.reading (take turn.size here) ≡ turn.reading = sym (turn.past ∙ ap (after m.reading) frame) in
        let others = cut find item after turn.reading (drop next m.bytes) in
        let first : cut find item after m.reading here ≡ joined (turn.value ∷ []) others =
        cut_first find item after laws m.reading here
        ∙ (ap (λ f. cut_by find item after m.reading here f (cut find item after)) at
        ∙ (ap (λ w. joined (w ∷ []) (cut find item after (after m.reading (take turn.size here)) (drop turn.size here))) value
        ∙ (ap (λ s. joined (turn.value ∷ []) (cut find item after s (drop turn.size here))) state
        ∙ ap (λ b. joined (turn.value ∷ []) (cut find item after turn.reading b)) tail))) in
        record {
          within = omega (arith, fits, h.within, length-drop m.place m.bytes);
          found = turn.found ∙ ap (find turn.reading) (from_place next m.bytes);
          frames = h.frames ∙ (ap (joined m.given) first
              ∙ ap (λ vs. record { given = vs; reading = others.reading; rest = others.rest; fault = others.fault })
              (sym (append_assoc m.given (turn.value ∷ []) others.given) ∙ ap (λ vs. vs ++ others.given) (sym turn.more)));
          front_of =
              let room : length m.before ≤ length m.given =
              omega (arith, ap (length {A = V}) h.front_of, length-take (length m.before) m.given) in
              ap (take (length m.before)) turn.more
              ∙ (take-append-le (length m.before) m.given (turn.value ∷ []) room ∙ h.front_of);
        }

    -- bytes that begin with no whole frame are not cut
    pub stops : (s : S) (bytes : List ℕ) (f : Front F) → find s bytes ≡ f → ((n : ℕ) → f ≡ Whole n → ⊥)
        → cut find item after s bytes ≡ uncut s bytes (fault_of f)
    stops s bytes f is none =
        cut_first find item after laws s bytes ∙ (ap (λ f. cut_by find item after s bytes f (cut find item after)) is ∙ go f none)
      where
        go : (f : Front F) → ((n : ℕ) → f ≡ Whole n → ⊥) → cut_by find item after s bytes f (cut find item after)
            ≡ uncut s bytes (fault_of f)
        go More none = refl
        go (Bad fault) none = refl
        go (Whole n) none = absurd (none n refl)

    -- no frame is at the place: all are cut
    pub is_over : (m : Moment S V F) → Cutting m → ((n : ℕ) → m.front ≡ Whole n → ⊥)
        → record { given = m.given; reading = m.reading; rest = drop m.place m.bytes; fault = fault_of m.front }
        ≡ joined m.before (cut find item after m.start m.bytes)
    is_over m h none =
        let first = stops m.reading (drop m.place m.bytes) m.front (sym h.found) none in
        ap (λ vs. record { given = vs; reading = m.reading; rest = drop m.place m.bytes; fault = fault_of m.front })
        (sym (append-nil m.given))
        ∙ sym (h.frames ∙ ap (joined m.given) first)
