-- A record at the front of some bytes: what it tells, and what tells it.
use Rattle.std.proofs.Common.{ℕ, ◌+◌, ◌≡◌, ◌≢◌, ◌≤◌, ◌<◌, Bool, true, false, not, if◌then◌else◌, List, ◌++◌, length, take, drop, Option}
use Rattle.std.proofs.Common.{Some, None, refl}
use Rattle.std.proofs.Common.{sym, ◌∙◌, ap, arith, inl, inr}
use Rattle.std.specs.Prelude.{nat_lt}
use Rattle.std.proofs.lemmas.Bool.{cases_lt, ltb-true, ltb-false, le-ltb}
use Rattle.std.proofs.lemmas.List.{length-append, length-drop, length-take-le, take-append-le, drop-append-le, take-append-drop}
use Rattle.std.proofs.lemmas.List.{get_or_append_left}
use Rattle.byteorder.specs.Endian.{little_number}
use Rattle.byteorder.specs.Numbers.{little_from-append}
use Rattle.adb_outside.specs.declared.framer.Front.{Front}
use Rattle.adb_outside.specs.declared.framer.Front.TheVariants.{More, Bad, Whole}
use Rattle.adb_outside.specs.Framing.{IsFraming}
use Rattle.adb_capture.specs.declared.entry.Entry.{Entry}
use Rattle.adb_capture.specs.declared.limits.TheConstants.{RECORD_HEADER_LEN, MAX_DATA, MAX_CAPTURE}
use Rattle.adb_capture.specs.declared.error.FormFault.{FormFault}
use Rattle.adb_capture.specs.declared.error.FormFault.TheVariants.{BadRecord, TooLong}
use Rattle.adb_capture.specs.declared.error.Why.TheVariants.{UnknownKind, TooLarge}
use Rattle.adb_capture.specs.Records.{record_at, formed, is_kind, kind_in, owner_in, size_in, data_in, entry_at, entry_in, offset_after}

-- the entry of a record's kind, number and data
abbrev pub entry_of : List ℕ → Option Entry
entry_of x = entry_at (kind_in x) (owner_in x) (data_in x)

-- what the bytes behind the header decide
abbrev on_content : ℕ → List ℕ → Front FormFault
on_content offset x = if nat_lt (length x) (RECORD_HEADER_LEN + size_in x) then More else formed offset (size_in x) (entry_of x)

-- the tests of a header, before what is decided then
abbrev on_header : ℕ → ℕ → ℕ → Front FormFault → Front FormFault
on_header offset kind size others =
    if not (is_kind kind) then Bad (BadRecord offset UnknownKind)
    else (if nat_lt MAX_DATA size then Bad (BadRecord offset TooLarge)
    else (if nat_lt MAX_CAPTURE (offset + RECORD_HEADER_LEN + size) then Bad (TooLong offset)
    else others))

as_tested : (offset : ℕ) (x : List ℕ)
    → record_at offset x
    ≡ (if nat_lt (length x) RECORD_HEADER_LEN then More else on_header offset (kind_in x) (size_in x)
    (on_content offset x))
unfolding record_at
as_tested offset x = refl

-- a test passed where what it answers was not found
passed : (failed : Bool) (first others found : Front FormFault) → first ≢ found → (if failed then first else others) ≡ found
    → (failed ≡ false) × (others ≡ found)
passed true first others found other h = absurd (other h)
passed false first others found other h = (refl, h)

-- what stands behind a test that passes
behind : (failed : Bool) (first others : Front FormFault) → failed ≡ false → (if failed then first else others) ≡ others
behind true first others h = cc
behind false first others h = refl

-- a refusal stays, and one behind it
refused_on : (failed : Bool) (first others later : Front FormFault) (error : FormFault) → (others ≡ Bad error → later ≡ Bad error)
    → (if failed then first else others) ≡ Bad error → (if failed then first else later) ≡ Bad error
refused_on true first others later error on h = h
refused_on false first others later error on h = on h

no_more : (n : ℕ) → ◌≢◌ {A = Front FormFault} More (Whole n)
no_more n e = cc

no_refusal : (fault : FormFault) (n : ℕ) → ◌≢◌ {A = Front FormFault} (Bad fault) (Whole n)
no_refusal fault n e = cc

more_is_no_refusal : (fault : FormFault) → ◌≢◌ {A = Front FormFault} More (Bad fault)
more_is_no_refusal fault e = cc

refusal_is_no_more : (fault : FormFault) → ◌≢◌ {A = Front FormFault} (Bad fault) More
refusal_is_no_more fault e = cc

-- what a whole record tells
pub record IsWhole (offset : ℕ) (x : List ℕ) (n : ℕ) : Type 0 where
  pub size : n ≡ RECORD_HEADER_LEN + size_in x
  pub fits : RECORD_HEADER_LEN + size_in x ≤ length x
  pub small : size_in x ≤ MAX_DATA
  pub near : offset + RECORD_HEADER_LEN + size_in x ≤ MAX_CAPTURE
  pub known : is_kind (kind_in x) ≡ true
  pub entry : Entry
  pub formed : entry_of x ≡ Some entry

formed_whole : (offset size n : ℕ) (e : Option Entry) → formed offset size e ≡ Whole n
    → (n ≡ RECORD_HEADER_LEN + size) × ((entry : Entry) × (e ≡ Some entry))
formed_whole offset size n None h = cc
formed_whole offset size n (Some e) h = (cc, (e, refl))

is_known : (known : Bool) → not known ≡ false → known ≡ true
is_known true h = refl
is_known false h = cc

pub whole_tells : (offset : ℕ) (x : List ℕ) (n : ℕ) → record_at offset x ≡ Whole n → IsWhole offset x n
whole_tells offset x n h =
    let short = passed _ _ _ _ (no_more n) (sym (as_tested offset x) ∙ h) in
    let known = passed _ _ _ _ (no_refusal (BadRecord offset UnknownKind) n) short.1 in
    let large = passed _ _ _ _ (no_refusal (BadRecord offset TooLarge) n) known.1 in
    let far = passed _ _ _ _ (no_refusal (TooLong offset) n) large.1 in
    let part = passed _ _ _ _ (no_more n) far.1 in
    let f = formed_whole _ _ n _ part.1 in
    record {
      size = f.0;
      fits = ltb-false _ _ part.0;
      small = ltb-false _ _ large.0;
      near = ltb-false _ _ far.0;
      known = is_known _ known.0;
      entry = f.1.0;
      formed = f.1.1;
    }

pub whole_told : (offset : ℕ) (x : List ℕ) (n : ℕ) → IsWhole offset x n → record_at offset x ≡ Whole n
whole_told offset x n h =
    as_tested offset x
    ∙ (behind _ _ _ (le-ltb (length x) RECORD_HEADER_LEN (omega (arith, h.fits)))
    ∙ (behind _ _ _ (ap not h.known)
    ∙ (behind _ _ _ (le-ltb _ _ h.small)
    ∙ (behind _ _ _ (le-ltb _ _ h.near)
    ∙ (behind _ _ _ (le-ltb _ _ h.fits)
    ∙ (ap (λ e. formed offset (size_in x) e) h.formed ∙ ap Whole (sym h.size)))))))

-- the nine bytes before the data say the same, whatever follows them
pub kind_before : (x y : List ℕ) → RECORD_HEADER_LEN ≤ length x → kind_in (x ++ y) ≡ kind_in x
kind_before x y h = get_or_append_left x y 0 0 (omega arith)

pub number_before : (i : ℕ) (x y : List ℕ) → i + 4 ≤ length x → little_number 4 (drop i (x ++ y)) ≡ little_number 4 (drop i x)
number_before i x y h = ap (λ b. little_number 4 b) (drop-append-le i x y (omega arith))
    ∙ little_from-append 4 (drop i x) y (omega (arith, length-drop i x))

pub data_before : (x y : List ℕ) → RECORD_HEADER_LEN + size_in x ≤ length x → data_in (x ++ y) ≡ data_in x
data_before x y h =
    ap (λ k. take k (drop RECORD_HEADER_LEN (x ++ y))) (number_before 5 x y (omega arith))
    ∙ (ap (λ b. take (size_in x) b) (drop-append-le RECORD_HEADER_LEN x y (omega arith))
    ∙ take-append-le (size_in x) (drop RECORD_HEADER_LEN x) y (omega (arith, length-drop RECORD_HEADER_LEN x)))

pub entry_before : (x y : List ℕ) → RECORD_HEADER_LEN + size_in x ≤ length x → entry_of (x ++ y) ≡ entry_of x
entry_before x y h =
    ap (λ k. entry_at k (owner_in (x ++ y)) (data_in (x ++ y))) (kind_before x y (omega arith))
    ∙ (ap (λ k. entry_at (kind_in x) k (data_in (x ++ y))) (number_before 1 x y (omega arith))
    ∙ ap (λ k. entry_at (kind_in x) (owner_in x) k) (data_before x y h))

pub size_before : (x y : List ℕ) → RECORD_HEADER_LEN ≤ length x → size_in (x ++ y) ≡ size_in x
size_before x y h = number_before 5 x y (omega arith)

-- a whole record stays one, whatever follows
pub whole_stays : (offset : ℕ) (x y : List ℕ) (n : ℕ) → record_at offset x ≡ Whole n → record_at offset (x ++ y) ≡ Whole n
whole_stays offset x y n h =
    let w = whole_tells offset x n h in
    let s : size_in (x ++ y) ≡ size_in x = size_before x y (omega (arith, w.fits)) in
    whole_told offset (x ++ y) n (record {
      size = w.size ∙ ap (λ k. RECORD_HEADER_LEN + k) (sym s);
      fits = omega (arith, s, w.fits, length-append x y);
      small = omega (arith, s, w.small);
      near = omega (arith, s, w.near);
      known = ap is_kind (kind_before x y (omega (arith, w.fits))) ∙ w.known;
      entry = w.entry;
      formed = entry_before x y w.fits ∙ w.formed;
    })

-- and is one without what follows
pub whole_alone : (offset : ℕ) (x : List ℕ) (n : ℕ) → record_at offset x ≡ Whole n → record_at offset (take n x) ≡ Whole n
whole_alone offset x n h =
    let w = whole_tells offset x n h in
    let len : length (take n x) ≡ n = length-take-le n x (omega (arith, w.size, w.fits)) in
    let parts : take n x ++ drop n x ≡ x = take-append-drop n x in
    let s : size_in x ≡ size_in (take n x) = ap size_in (sym parts) ∙ size_before (take n x) (drop n x) (omega (arith, w.size, len)) in
    whole_told offset (take n x) n (record {
      size = w.size ∙ ap (λ k. RECORD_HEADER_LEN + k) s;
      fits = omega (arith, s, w.size, len);
      small = omega (arith, s, w.small);
      near = omega (arith, s, w.near);
      known = ap is_kind (sym (kind_before (take n x) (drop n x) (omega (arith, w.size, len))) ∙ ap kind_in parts) ∙ w.known;
      entry = w.entry;
      formed = sym (entry_before (take n x) (drop n x) (omega (arith, s, w.size, len))) ∙ (ap entry_of parts ∙ w.formed);
    })

-- a refusal stays, whatever follows
pub bad_stays : (offset : ℕ) (x y : List ℕ) (error : FormFault) → record_at offset x ≡ Bad error → record_at offset (x ++ y) ≡ Bad error
bad_stays offset x y error h =
    as_tested offset (x ++ y)
    ∙ (behind _ _ _ (le-ltb (length (x ++ y)) RECORD_HEADER_LEN (omega (arith, nine, length-append x y)))
    ∙ (ap (λ k. on_header offset k (size_in (x ++ y)) (on_content offset (x ++ y))) (kind_before x y nine)
    ∙ (ap (λ n. on_header offset (kind_in x) n (on_content offset (x ++ y))) size
    ∙ refused_on (not (is_kind (kind_in x))) (Bad (BadRecord offset UnknownKind)) _ _ error
    (refused_on (nat_lt MAX_DATA (size_in x)) (Bad (BadRecord offset TooLarge)) _ _ error
    (refused_on (nat_lt MAX_CAPTURE (offset + RECORD_HEADER_LEN + size_in x)) (Bad (TooLong offset)) _ _ error last)) first.1)))
  where
    first : (nat_lt (length x) RECORD_HEADER_LEN ≡ false) × (on_header offset (kind_in x) (size_in x) (on_content offset x) ≡ Bad error)
    first = passed _ _ _ _ (more_is_no_refusal error) (sym (as_tested offset x) ∙ h)

    nine : RECORD_HEADER_LEN ≤ length x
    nine = ltb-false (length x) RECORD_HEADER_LEN first.0

    size : size_in (x ++ y) ≡ size_in x
    size = size_before x y nine

    last : on_content offset x ≡ Bad error → on_content offset (x ++ y) ≡ Bad error
    last is =
        let part = passed _ _ _ _ (more_is_no_refusal error) is in
        let fits = ltb-false (length x) (RECORD_HEADER_LEN + size_in x) part.0 in
        behind _ _ _ (le-ltb (length (x ++ y)) (RECORD_HEADER_LEN + size_in (x ++ y)) (omega (arith, fits, size, length-append x y)))
        ∙ (ap (λ n. formed offset n (entry_of (x ++ y))) size ∙ (ap (λ e. formed offset (size_in x) e) (entry_before x y fits) ∙ part.1))

-- Records are a format.
pub framing : IsFraming record_at entry_in offset_after
unfolding record_at
framing = record {
  empty = λ s. refl;
  bad = bad_stays;
  whole = whole_stays;
  fits = λ s x n h. let w = whole_tells s x n h in (omega (arith, w.size), omega (arith, w.size, w.fits));
  alone = whole_alone;
}

part_of : (part : Bool) (offset size : ℕ) (e : Option Entry) → (if part then More else formed offset size e) ≡ More → part ≡ true
part_of true offset size e h = refl
part_of false offset size None h = cc
part_of false offset size (Some e) h = cc

within_longest : (n size : ℕ) → size ≤ MAX_DATA → n < RECORD_HEADER_LEN + size → n < RECORD_HEADER_LEN + MAX_DATA
within_longest n size small part = omega (arith, small, part)

-- Bytes that are no whole record yet are fewer than the longest record.
pub more_is_short : (offset : ℕ) (x : List ℕ) → record_at offset x ≡ More → length x < RECORD_HEADER_LEN + MAX_DATA
more_is_short offset x h =
    elim (cases_lt (length x) RECORD_HEADER_LEN) [
      | inl l ↦ omega (arith, l)
      | inr l ↦
          let known = passed _ _ _ _ (refusal_is_no_more (BadRecord offset UnknownKind))
          (sym (behind _ _ _ (le-ltb (length x) RECORD_HEADER_LEN l)) ∙ (sym (as_tested offset x) ∙ h)) in
          let large = passed _ _ _ _ (refusal_is_no_more (BadRecord offset TooLarge)) known.1 in
          let far = passed _ _ _ _ (refusal_is_no_more (TooLong offset)) large.1 in
          within_longest (length x) (size_in x) (ltb-false _ _ large.0) (ltb-true _ _ (part_of _ _ _ _ far.1))
    ]

-- Bytes that are no whole record yet are fewer than the record that they become.
pub more_is_part : (offset : ℕ) (x y : List ℕ) (n : ℕ) → record_at offset x ≡ More → record_at offset (x ++ y) ≡ Whole n → length x < n
more_is_part offset x y n more whole = elim (cases_lt (length x) n) [
  | inl lt ↦ lt
  | inr le ↦
      let front : record_at offset (take n x) ≡ Whole n = ap (record_at offset) (sym (take-append-le n x y le))
      ∙ whole_alone offset (x ++ y) n whole in
      let here : record_at offset x ≡ Whole n =
      ap (record_at offset) (sym (take-append-drop n x)) ∙ whole_stays offset (take n x) (drop n x) n front in
      absurd (let clash : More ≡ Whole n = sym more ∙ here in cc)
]
