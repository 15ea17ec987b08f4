-- Slices: headers alone say how long they are, and a stream is cut into them piece by piece.
use Rattle.std.proofs.Common.{ℕ, ◌≡◌, ◌≤◌, ◌<◌, Bool, cond, List, [], ◌∷◌, ◌++◌, length, take, drop, Option, Some, None, Result, Ok, Err}
use Rattle.std.proofs.Common.{refl, sym, ◌∙◌, ap, subst, arith, inl, inr}
use Rattle.std.proofs.Math.Seq.{take-length}
use Rattle.std.proofs.lemmas.Bool.{cases_lt, lt-ltb, le-ltb, eq-eqb, ne_eqb}
use Rattle.std.proofs.lemmas.List.{length-append, length-take, take-append-drop, append-nil, append_assoc, drop_all}
use Rattle.std.specs.List.{concat}
use Rattle.std.proofs.lemmas.List.Folds.{concat-append}
use Rattle.std.proofs.lemmas.List.Elements.{All-nil, All-push}
use Rattle.adb_outside.specs.declared.framer.Front.{Front}
use Rattle.adb_outside.specs.declared.framer.Front.TheVariants.{More, Bad, Whole}
use Rattle.adb_outside.specs.Framing.{Cut, cut_by, IsFraming}
use Rattle.adb_outside.proofs.FramingLaws.{cut_first, cut_piece}
use Rattle.adb_wire.specs.declared.headers.Head.{Head}
use Rattle.adb_wire.specs.declared.headers.HeadFault.{HeadFault}
use Rattle.adb_wire.specs.declared.headers.TheConstants.{HEADER_LEN}
use Rattle.adb_wire.specs.declared.slicer.TheConstants.{MAX_PACKET}
use Rattle.adb_wire.specs.Header.{head_at}
use Rattle.adb_wire.specs.Format.{packet_len}
use Rattle.adb_wire.specs.FormatLaws.{head_same}
use Rattle.adb_wire.specs.Slicing.{headed_len, slice_len, need_of, IsSlice, slice_front, cut_slices, whole_of, open_of, HasSliced}
use Rattle.adb_wire.proofs.HeaderLaws.{head_reads}

-- ---- how long a slice is
pub slice_short : (bytes : List ℕ) → length bytes < HEADER_LEN → slice_len bytes ≡ HEADER_LEN
unfolding slice_len
slice_short bytes lt = rw (lt-ltb (length bytes) HEADER_LEN lt) refl

pub slice_headed : (bytes : List ℕ) → HEADER_LEN ≤ length bytes → slice_len bytes ≡ headed_len (head_at bytes)
unfolding slice_len
slice_headed bytes le = ap (λ (b : Bool). cond b HEADER_LEN (headed_len (head_at bytes))) (le-ltb (length bytes) HEADER_LEN le)

-- a slice has a header, and is no longer than the longest packet
pub slice_bounds : (bytes : List ℕ) → (HEADER_LEN ≤ slice_len bytes) × (slice_len bytes ≤ MAX_PACKET)
slice_bounds bytes = elim (cases_lt (length bytes) HEADER_LEN) [
  | inl lt ↦ (omega (arith, slice_short bytes lt), omega (arith, slice_short bytes lt))
  | inr le ↦ by_head (head_at bytes) refl (slice_headed bytes le)
]
  where
    by_head : (read : Result Head HeadFault) → head_at bytes ≡ read → slice_len bytes ≡ headed_len (head_at bytes)
        → (HEADER_LEN ≤ slice_len bytes) × (slice_len bytes ≤ MAX_PACKET)
    by_head (Ok head) e is =
        let short = (head_reads bytes head e).short in
        let long : slice_len bytes ≡ packet_len head = is ∙ ap headed_len e in
        (omega (arith, long), omega (arith, long, short))
    by_head (Err fault) e is =
        let long : slice_len bytes ≡ HEADER_LEN = is ∙ ap headed_len e in
        (omega (arith, long), omega (arith, long))

-- once the header is there, what follows does not change how long the slice is
pub slice_same : (x y : List ℕ) → HEADER_LEN ≤ length x → slice_len (x ++ y) ≡ slice_len x
slice_same x y le =
    slice_headed (x ++ y) (omega (arith, length-append x y)) ∙ (ap headed_len (head_same x y le) ∙ sym (slice_headed x le))

-- whole bytes are one slice
pub is_slice : (bytes : List ℕ) → length bytes ≤ slice_len bytes → need_of bytes ≡ 0 → IsSlice bytes
is_slice bytes within none = by_head (head_at bytes) refl (slice_headed bytes long)
  where
    long : HEADER_LEN ≤ length bytes
    long = omega (arith, none, slice_bounds bytes)

    by_head : (read : Result Head HeadFault) → head_at bytes ≡ read → slice_len bytes ≡ headed_len (head_at bytes) → IsSlice bytes
    by_head (Ok head) e is = inl (head, e, omega (arith, within, none, is ∙ ap headed_len e))
    by_head (Err fault) e is = inr (fault, e, omega (arith, within, none, is ∙ ap headed_len e))

-- the first slice of bytes in which it is whole
pub first_is_slice : (bytes : List ℕ) → slice_len bytes ≤ length bytes → IsSlice (take (slice_len bytes) bytes)
first_is_slice bytes le =
    let n = slice_len bytes in
    let long : length (take n bytes) ≡ n = omega (arith, length-take n bytes, le) in
    let same : slice_len bytes ≡ slice_len (take n bytes) =
    ap slice_len (sym (take-append-drop n bytes)) ∙ slice_same (take n bytes) (drop n bytes) (omega (arith, long, slice_bounds bytes)) in
    is_slice (take n bytes) (omega (arith, long, same)) (omega (arith, long, same))

-- more bytes of a slice, no more than it misses, are still within it
pub slice_grows : (held more : List ℕ) → length held ≤ slice_len held → length more ≤ need_of held
    → length (held ++ more) ≤ slice_len (held ++ more)
slice_grows held more within fits = elim (cases_lt (length held) HEADER_LEN) [
  | inl lt ↦ omega (arith, length-append held more, fits, slice_short held lt, slice_bounds (held ++ more))
  | inr le ↦ omega (arith, length-append held more, within, fits, slice_same held more le)
]

-- ---- the framing of slices
pub front_more : (bytes : List ℕ) → length bytes < slice_len bytes → slice_front tt bytes ≡ More
front_more bytes lt = rw (lt-ltb (length bytes) (slice_len bytes) lt) refl

pub front_whole : (bytes : List ℕ) → slice_len bytes ≤ length bytes → slice_front tt bytes ≡ Whole (slice_len bytes)
front_whole bytes le = ap (λ (b : Bool). cond b More (Whole (slice_len bytes))) (le-ltb (length bytes) (slice_len bytes) le)

-- a front that is a whole slice
record IsWhole (bytes : List ℕ) (n : ℕ) : Type 0 where
  pub size : n ≡ slice_len bytes
  pub fits : slice_len bytes ≤ length bytes

is_whole : (bytes : List ℕ) (n : ℕ) → slice_front tt bytes ≡ Whole n → IsWhole bytes n
is_whole bytes n e = elim (cases_lt (length bytes) (slice_len bytes)) [
  | inl lt ↦ absurd (let clash : More ≡ Whole n = sym (front_more bytes lt) ∙ e in cc)
  | inr le ↦ record { size = (let same : Whole n ≡ Whole (slice_len bytes) = sym e ∙ front_whole bytes le in cc); fits = le }
]

no_bad : (bytes : List ℕ) (fault : ⊥) → slice_front tt bytes ≡ Bad fault → ⊥
no_bad bytes fault e = fault

whole_stays : (x y : List ℕ) (n : ℕ) → slice_front tt x ≡ Whole n → slice_front tt (x ++ y) ≡ Whole n
whole_stays x y n e =
    let w = is_whole x n e in
    let same = slice_same x y (omega (arith, w.fits, slice_bounds x)) in
    front_whole (x ++ y) (omega (arith, w.fits, same, length-append x y)) ∙ ap Whole (same ∙ sym w.size)

whole_alone : (x : List ℕ) (n : ℕ) → slice_front tt x ≡ Whole n → slice_front tt (take n x) ≡ Whole n
whole_alone x n e =
    let w = is_whole x n e in
    let long : length (take n x) ≡ n = omega (arith, length-take n x, w.size, w.fits) in
    let same : slice_len x ≡ slice_len (take n x) =
    ap slice_len (sym (take-append-drop n x)) ∙ slice_same (take n x) (drop n x) (omega (arith, long, w.size, slice_bounds x)) in
    front_whole (take n x) (omega (arith, long, w.size, same)) ∙ ap Whole (sym same ∙ sym w.size)

abbrev pub frame : Unit {0} → List ℕ → List ℕ
frame _ bytes = bytes

abbrev pub still : Unit {0} → List ℕ → Unit {0}
still s _ = s

pub slices_are_framed : IsFraming slice_front frame still
slices_are_framed = record {
  empty = λ s. front_more [] (omega (arith, slice_bounds []));
  bad = λ s x y fault e. absurd fault;
  whole = λ s x y n e. whole_stays x y n e;
  fits = λ s x n e. let w = is_whole x n e in (omega (arith, w.size, slice_bounds x), omega (arith, w.size, w.fits));
  alone = λ s x n e. whole_alone x n e;
}

never_faulty : (fault : Option ⊥) → fault ≡ None
never_faulty None = refl
never_faulty (Some fault) = absurd fault

-- ---- one slice, or a front of it
abbrev cut_front : List ℕ → Front ⊥ → Cut (Unit {0}) (List ℕ) ⊥
cut_front bytes front = cut_by slice_front frame still tt bytes front (λ _ rest. cut_slices rest)

pub cut_step : (bytes : List ℕ) (front : Front ⊥) → slice_front tt bytes ≡ front → cut_slices bytes ≡ cut_front bytes front
cut_step bytes front e = cut_first slice_front frame still slices_are_framed tt bytes ∙ ap (cut_front bytes) e

pub whole_held : (held : List ℕ) → need_of held ≡ 0 → (whole_of held ≡ held ∷ []) × (open_of held ≡ [])
whole_held held none = (
  ap (λ (b : Bool). cond b (held ∷ []) []) (eq-eqb (need_of held) 0 none),
  ap (λ (b : Bool). cond b [] held) (eq-eqb (need_of held) 0 none),
)

pub open_held : (held : List ℕ) → 0 < need_of held → (whole_of held ≡ []) × (open_of held ≡ held)
open_held held some =
    let test = ne_eqb (need_of held) 0 (λ e. omega (arith, e)) in
    (ap (λ (b : Bool). cond b (held ∷ []) []) test, ap (λ (b : Bool). cond b [] held) test)

-- the slice that they are, or nothing
pub record CutsAlone (held : List ℕ) : Type 0 where
  pub slices : (cut_slices held).given ≡ whole_of held
  pub rest : (cut_slices held).rest ≡ open_of held

pub cuts_alone : (held : List ℕ) → length held ≤ slice_len held → CutsAlone held
cuts_alone held within = elim (cases_lt (length held) (slice_len held)) [
  | inl lt ↦
      let o = open_held held (omega (arith, lt)) in
      let c = cut_step held More (front_more held lt) in
      record {
        slices = ap (λ (k : Cut (Unit {0}) (List ℕ) ⊥). k.given) c ∙ sym o.0;
        rest =
            ap (λ (k : Cut (Unit {0}) (List ℕ) ⊥). k.rest) c ∙ sym o.1;
      }
  | inr le ↦
      let w = whole_held held (omega (arith, le)) in
      let c = cut_step held (Whole (slice_len held)) (front_whole held le) in
      let size : length held ≡ slice_len held = omega (arith, le, within) in
      let all : take (slice_len held) held ≡ held = ap (λ n. take n held) (sym size) ∙ take-length held in
      let none : drop (slice_len held) held ≡ [] = drop_all (slice_len held) held (omega (arith, size)) in
      record {
        slices = ap (λ (k : Cut (Unit {0}) (List ℕ) ⊥). k.given) c ∙ (ap (λ rest. take (slice_len held) held ∷ (cut_slices rest).given) none
            ∙ ap (λ slice. slice ∷ []) all) ∙ sym w.0;
        rest = ap (λ (k : Cut (Unit {0}) (List ℕ) ⊥). k.rest) c ∙ ap (λ rest. (cut_slices rest).rest) none ∙ sym w.1;
      }
]

-- ---- the calls of a slicer
pub starts : HasSliced [] [] []
starts =
    let o = open_held [] (omega (arith, slice_bounds [])) in
    record { bytes = refl; each = All-nil IsSlice; slices = sym o.0; rest = sym o.1 }

pub takes_more : (held more : List ℕ) → length held ≤ slice_len held → length more ≤ need_of held
    → (fed : List ℕ) (gave : List (List ℕ)) → HasSliced fed gave held → HasSliced (fed ++ more) gave (held ++ more)
takes_more held more within fits fed gave h = elim (cases_lt 0 (need_of held)) [
  | inl some ↦
      let o = open_held held some in
      let a = cuts_alone (held ++ more) (slice_grows held more within fits) in
      let piece = cut_piece slice_front frame still slices_are_framed (length fed) tt fed more (omega arith)
      (never_faulty (cut_slices fed).fault) in
      let gave_before : (cut_slices fed).given ≡ gave = h.slices ∙ (ap (λ s. gave ++ s) o.0 ∙ append-nil gave) in
      let at_rest : (cut_slices fed).rest ≡ held = h.rest ∙ o.1 in
      record {
        bytes = sym (append_assoc (concat gave) held more) ∙ ap (λ b. b ++ more) h.bytes;
        each = h.each;
        slices = ap (λ (k : Cut (Unit {0}) (List ℕ) ⊥). k.given) piece
            ∙ (ap (λ s. s ++ (cut_slices ((cut_slices fed).rest ++ more)).given) gave_before
            ∙ (ap (λ rest. gave ++ (cut_slices (rest ++ more)).given) at_rest ∙ ap (λ s. gave ++ s) a.slices));
        rest = ap (λ (k : Cut (Unit {0}) (List ℕ) ⊥). k.rest) piece ∙ (ap (λ rest. (cut_slices (rest ++ more)).rest) at_rest ∙ a.rest);
      }
  | inr none ↦ subst (λ (m : List ℕ). HasSliced (fed ++ m) gave (held ++ m)) (sym (empty more (omega (arith, fits, none))))
      (subst (λ (f : List ℕ). HasSliced f gave (held ++ [])) (sym (append-nil fed)) (subst (HasSliced fed gave) (sym (append-nil held)) h))
]
  where
    empty : (bytes : List ℕ) → length bytes ≤ 0 → bytes ≡ []
    empty [] h = refl
    empty (b ∷ bytes) h = absurd (omega (arith, h))

pub goes_on : (held : List ℕ) → length held ≤ slice_len held → need_of held ≡ 0
    → (fed : List ℕ) (gave : List (List ℕ)) → HasSliced fed gave held
    → HasSliced fed (gave ++ held ∷ []) []
goes_on held within none fed gave h =
    let w = whole_held held none in
    let o = open_held [] (omega (arith, slice_bounds [])) in
    record {
      bytes = ap (λ b. b ++ []) (concat-append gave (held ∷ [])) ∙ (append-nil (concat gave ++ (held ++ []))
          ∙ (ap (λ b. concat gave ++ b) (append-nil held) ∙ h.bytes));
      each = All-push IsSlice gave held h.each (is_slice held within none);
      slices = h.slices ∙ (ap (λ s. gave ++ s) w.0 ∙ (sym (append-nil (gave ++ held ∷ [])) ∙ ap (λ s. (gave ++ held ∷ []) ++ s) (sym o.0)));
      rest = h.rest ∙ (w.1 ∙ sym o.1);
    }
