-- The fault of answer bytes is their first byte after which no answer can follow.
use Rattle.std.proofs.Common.{ℕ, zero, suc, ◌+◌, ◌^◌, ◌≡◌, ◌<◌, ◌≤◌, Bool, true, false, List, [], ◌∷◌, ◌++◌, length, take, drop, Option}
use Rattle.std.proofs.Common.{Some, None}
use Rattle.std.proofs.Common.{sym, refl, ◌∙◌, ap, subst, arith}
use Rattle.std.specs.Prelude.{if◌then◌else◌}
use Rattle.std.proofs.Math.Seq.{take-append-add}
use Rattle.std.proofs.lemmas.List.{length-append, length-take, length-drop, take-take, take_all, take-append-drop}
use Rattle.adb_outside.specs.declared.framer.Front.{Front}
use Rattle.adb_outside.specs.declared.framer.Front.TheVariants.{More, Bad, Whole}
use Rattle.adb_outside.specs.Framing.{Cut, cut, cut_by, offset_past}
use Rattle.adb_outside.proofs.FramingLaws.{cut_first}
use Rattle.adb_outside.proofs.CutLaws.{frame_first}
use Rattle.adb_sync.specs.declared.answer.SyncAnswer.{SyncAnswer}
use Rattle.adb_sync.specs.declared.answer_format.AnswerFormat.{AnswerFormat}
use Rattle.adb_sync.specs.declared.error.SyncFault.{SyncFault}
use Rattle.adb_sync.specs.Answers.{answer_front}
use Rattle.adb_sync_client.specs.declared.expected.Expected.{Expected}
use Rattle.adb_sync_client.specs.declared.kind.AnswerKind.{AnswerKind}
use Rattle.adb_sync_client.specs.declared.step.Step.{Step}
use Rattle.adb_sync_client.specs.declared.step.Step.TheVariants as steps
use Rattle.adb_sync_client.specs.declared.told.Next.{Next}
use Rattle.adb_sync_client.specs.declared.told.Next.TheVariants.{GoesOn, Done, Refused}
use Rattle.adb_sync_client.specs.Expected.{may_begin, stray_behind, stray_in, whole_front, or_stray, expected_front, expected_answer}
use Rattle.adb_sync_client.specs.Expected.{past_expected}
use Rattle.adb_sync_client.specs.Expected.{expected_start}
use Rattle.adb_sync_client.specs.Framed.{answer_is_long, expected_are_framed}
use Rattle.adb_sync_client.specs.Values.{Said, told_nothing, told_by, next_of, ended_or, meant, answer_value}

-- ---- a stray byte
record IsStray (kind : AnswerKind) (before bytes : List ℕ) (place : ℕ) : Type 0 where
  at : ℕ
  is : place ≡ length before + at
  within : at < length bytes
  clear : stray_behind kind before (take at bytes) ≡ None
  here : stray_behind kind before (take (suc at) bytes) ≡ Some place

is_stray : (kind : AnswerKind) (before bytes : List ℕ) (place : ℕ) → stray_behind kind before bytes ≡ Some place
    → IsStray kind before bytes place
is_stray kind before [] place e = cc
is_stray kind before (byte ∷ bytes) place e = go (may_begin kind grown) refl e (is_stray kind grown bytes place)
  where
    grown : List ℕ
    grown = before ++ byte ∷ []

    size : length grown ≡ length before + 1
    size = length-append before (byte ∷ [])

    go : (t : Bool) → may_begin kind grown ≡ t → (if t then stray_behind kind grown bytes else Some (length before)) ≡ Some place
        → (stray_behind kind grown bytes ≡ Some place → IsStray kind grown bytes place) → IsStray kind before (byte ∷ bytes) place
    go true may e further =
        let h = further e in
        let on : List ℕ → Bool → Option ℕ = λ more t. if t then stray_behind kind grown more else Some (length before) in
        record {
          at = suc h.at;
          is = omega (arith, h.is, size);
          within = omega (arith, h.within);
          clear = ap (on (take h.at bytes)) may ∙ h.clear;
          here = ap (on (take (suc h.at) bytes)) may ∙ h.here;
        }
    go false may e further =
        let same : length before ≡ place = cc in
        record {
          at = 0;
          is = omega (arith, same);
          within = omega arith;
          clear = refl;
          here = ap (λ t. if t then stray_behind kind grown [] else Some (length before)) may ∙ e;
        }

-- fewer than eight bytes are no answer
short_is_more : (s : AnswerFormat) (bytes : List ℕ) → length bytes < 8 → whole_front (answer_front s bytes) ≡ More
short_is_more s bytes short = go (answer_front s bytes) refl
  where
    go : (front : Front SyncFault) → answer_front s bytes ≡ front → whole_front front ≡ More
    go More is = refl
    go (Bad fault) is = refl
    go (Whole n) is = let long = answer_is_long s bytes n is in absurd (omega (arith, short, long.low, long.fits))

-- a fault at the front
record IsBadFront (e : Expected) (bytes : List ℕ) (fault : ℕ) : Type 0 where
  place : ℕ
  within : place < length bytes
  is : fault ≡ offset_past e.answers.offset place
  before : expected_front e (take place bytes) ≡ More
  here : expected_front e (take (place + 1) bytes) ≡ Bad fault

no_bad : (front : Front SyncFault) (fault : ℕ) → whole_front front ≡ Bad fault → ⊥
no_bad More fault e = cc
no_bad (Bad other) fault e = cc
no_bad (Whole m) fault e = cc

is_bad_front : (e : Expected) (bytes : List ℕ) (fault : ℕ) → expected_front e bytes ≡ Bad fault → IsBadFront e bytes fault
is_bad_front e bytes fault told = go (stray_in e.kind bytes) refl told
  where
    front : List ℕ → Option ℕ → Front ℕ
    front more stray = or_stray e.answers.offset stray (whole_front (answer_front e.answers more))

    head : (n : ℕ) → n ≤ 8 → take n (take 8 bytes) ≡ take 8 (take n bytes)
    head n fits = take-take n 8 bytes fits ∙ sym (take_all 8 (take n bytes) (omega (arith, fits, length-take n bytes)))

    go : (stray : Option ℕ) → stray_in e.kind bytes ≡ stray → front bytes stray ≡ Bad fault → IsBadFront e bytes fault
    go None clear told = absurd (no_bad (answer_front e.answers bytes) fault told)
    go (Some place) found told =
        let h = is_stray e.kind [] (take 8 bytes) place found in
        let same : offset_past e.answers.offset place ≡ fault = cc in
        let at : h.at ≡ place = omega (arith, h.is) in
        let inside : place < length (take 8 bytes) = omega (arith, h.within, at) in
        let low : place < 8 = omega (arith, inside, length-take 8 bytes) in
        let none : stray_in e.kind (take place bytes) ≡ None =
        ap (stray_behind e.kind []) (sym (head place (omega (arith, low))))
        ∙ (ap (λ n. stray_behind e.kind [] (take n (take 8 bytes))) (sym at) ∙ h.clear) in
        let next : place + 1 ≡ suc h.at = omega (arith, at) in
        let some : stray_in e.kind (take (place + 1) bytes) ≡ Some place =
        ap (stray_behind e.kind []) (sym (head (place + 1) (omega (arith, low))))
        ∙ (ap (λ n. stray_behind e.kind [] (take n (take 8 bytes))) next ∙ h.here) in
        record {
          place = place;
          within = omega (arith, inside, length-take 8 bytes);
          is = sym same;
          before = ap (front (take place bytes)) none ∙ short_is_more e.answers (take place bytes)
              (omega (arith, low, length-take place bytes));
          here = ap (front (take (place + 1) bytes)) some ∙ ap Bad same;
        }

-- ---- a fault of the bytes
abbrev pub Held : Type 0
Held = Cut Expected SyncAnswer ℕ

abbrev pub cut_from : Expected → List ℕ → Held
cut_from = cut expected_front expected_answer past_expected

-- what bytes mean behind what was said
abbrev pub means : Expected → Said → List ℕ → Step Said
means e said bytes = meant said (cut_from e bytes).given (cut_from e bytes).fault

record IsFirstBad (e : Expected) (said : Said) (bytes : List ℕ) (offset : ℕ) : Type 0 where
  place : ℕ
  within : place < length bytes
  is : offset ≡ offset_past e.answers.offset place
  before : means e said (take place bytes) ≡ steps.More
  here : means e said (take (place + 1) bytes) ≡ steps.BadAnswer offset

-- by what the bytes begin with
abbrev pub means_by : Expected → Said → List ℕ → Front ℕ → Step Said
means_by e said bytes front =
    let c = cut_by expected_front expected_answer past_expected e bytes front cut_from in meant said c.given c.fault

pub means_first : (e : Expected) (said : Said) (bytes : List ℕ) (front : Front ℕ) → expected_front e bytes ≡ front
    → means e said bytes ≡ means_by e said bytes front
means_first e said bytes front is =
    ap (λ (c : Held). meant said c.given c.fault) (cut_first expected_front expected_answer past_expected expected_are_framed e bytes)
    ∙ ap (means_by e said bytes) is

-- behind a whole answer
abbrev pub means_behind : Expected → Said → List ℕ → List ℕ → Step Said
means_behind e said frame more =
    let answer = expected_answer e frame in ended_or (next_of answer) (told_by said answer)
    (means (past_expected e frame) (told_by said answer) more)

pub means_frame : (e : Expected) (said : Said) (frame more : List ℕ) → expected_front e frame ≡ Whole (length frame)
    → means e said (frame ++ more) ≡ means_behind e said frame more
means_frame e said frame more is =
    ap (λ (c : Held). meant said c.given c.fault)
    (frame_first expected_front expected_answer past_expected expected_are_framed e frame more is)

-- what is bad is what follows an answer that goes on
goes_on : (next : Next) (said : Said) (further : Step Said) (offset : ℕ) → ended_or next said further ≡ steps.BadAnswer offset
    → (next ≡ GoesOn) × (further ≡ steps.BadAnswer offset)
goes_on GoesOn said further offset e = (refl, e)
goes_on Done said further offset e = absurd (cc)
goes_on (Refused text) said further offset e = absurd (cc)

bad_behind : (e : Expected) (said : Said) (frame more : List ℕ) (offset : ℕ) → expected_front e frame ≡ Whole (length frame)
    → next_of (expected_answer e frame) ≡ GoesOn → IsFirstBad (past_expected e frame) (told_by said (expected_answer e frame)) more offset
    → IsFirstBad e said (frame ++ more) offset
bad_behind e said frame more offset is on h =
    let answer = expected_answer e frame in
    let further : List ℕ → Step Said = means (past_expected e frame) (told_by said answer) in
    let here : (n : ℕ) → means e said (take (length frame + n) (frame ++ more)) ≡ further (take n more) =
    λ n. ap (means e said) (take-append-add frame more n)
    ∙ (means_frame e said frame (take n more) is ∙ ap (λ next. ended_or next (told_by said answer) (further (take n more))) on) in
    let next : length frame + h.place + 1 ≡ length frame + (h.place + 1) = omega arith in
    record {
      place = length frame + h.place;
      within = omega (arith, h.within, length-append frame more);
      is = h.is ∙ omega arith;
      before = here h.place ∙ h.before;
      here = ap (λ n. means e said (take n (frame ++ more))) next ∙ (here (h.place + 1) ∙ h.here);
    }

-- by what the bytes begin with, given that it holds of fewer bytes
by_front : (e : Expected) (said : Said) (bytes : List ℕ) (offset : ℕ)
    → ((e : Expected) (said : Said) (more : List ℕ) → length more < length bytes
    → means e said more ≡ steps.BadAnswer offset → IsFirstBad e said more offset)
    → means e said bytes ≡ steps.BadAnswer offset → IsFirstBad e said bytes offset
by_front e said bytes offset others bad = go (expected_front e bytes) refl
  where
    go : (front : Front ℕ) → expected_front e bytes ≡ front → IsFirstBad e said bytes offset
    go More is = let clash : steps.More ≡ steps.BadAnswer offset = sym (means_first e said bytes More is) ∙ bad in absurd (cc)
    go (Bad fault) is =
        let h = is_bad_front e bytes fault is in
        let told : steps.BadAnswer fault ≡ steps.BadAnswer offset = sym (means_first e said bytes (Bad fault) is) ∙ bad in
        let same : fault ≡ offset = cc in
        record {
          place = h.place;
          within = h.within;
          is = sym same ∙ h.is;
          before = means_first e said (take h.place bytes) More h.before;
          here = means_first e said (take (h.place + 1) bytes) (Bad fault) h.here ∙ ap (λ n. steps.BadAnswer n) same;
        }
    go (Whole n) is =
        let frame = take n bytes in
        let more = drop n bytes in
        let fits = expected_are_framed.fits e bytes n is in
        let size : length frame ≡ n = omega (arith, fits.1, length-take n bytes) in
        let found : expected_front e frame ≡ Whole (length frame) = expected_are_framed.alone e bytes n is ∙ ap Whole (sym size) in
        let whole : frame ++ more ≡ bytes = take-append-drop n bytes in
        let answer = expected_answer e frame in
        let behind = goes_on (next_of answer) (told_by said answer) (means (past_expected e frame) (told_by said answer) more) offset
        (sym (means_frame e said frame more found) ∙ (ap (means e said) whole ∙ bad)) in
        let fewer : length more < length bytes = omega (arith, fits.0, fits.1, length-drop n bytes) in
        subst (λ (b : List ℕ). IsFirstBad e said b offset) whole
        (bad_behind e said frame more offset found behind.0 (others (past_expected e frame) (told_by said answer) more fewer behind.1))

first_bad : (k : ℕ) (e : Expected) (said : Said) (bytes : List ℕ) (offset : ℕ) → length bytes ≤ k
    → means e said bytes ≡ steps.BadAnswer offset
    → IsFirstBad e said bytes offset
first_bad zero e said bytes offset fits bad = by_front e said bytes offset (λ e said more fewer _. absurd (omega (arith, fits, fewer))) bad
first_bad (suc k) e said bytes offset fits bad =
    by_front e said bytes offset (λ e said more fewer bad. first_bad k e said more offset (omega (arith, fits, fewer)) bad) bad

pub first_stray : (kind : AnswerKind) (bytes : List ℕ) (offset : ℕ) → length bytes < 2 ^ 64
    → answer_value kind bytes ≡ steps.BadAnswer offset
    → (offset < length bytes) × (answer_value kind (take offset bytes) ≡ steps.More)
    × (answer_value kind (take (offset + 1) bytes) ≡ steps.BadAnswer offset)
first_stray kind bytes offset room bad =
    let h = first_bad (length bytes) (expected_start kind) told_nothing bytes offset (omega arith) bad in
    let at : h.place ≡ offset = omega (arith, h.is, h.within, room) in (
      omega (arith, h.within, at),
      ap (λ n. answer_value kind (take n bytes)) (sym at) ∙ h.before,
      ap (λ n. answer_value kind (take (n + 1) bytes)) (sym at) ∙ h.here,
    )
