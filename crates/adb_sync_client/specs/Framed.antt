-- What the bytes of expected answers begin with stays so, whatever follows: they are a format.
use Rattle.std.specs.Prelude.{ℕ, zero, suc, ◌≡◌, ◌≤◌, Bool, true, false, if◌then◌else◌, List, [], ◌∷◌, ◌++◌, length, take, Option, Some}
use Rattle.std.specs.Prelude.{None, refl}
use Rattle.std.proofs.Common.{◌∙◌, ap, sym, arith}
use Rattle.std.proofs.lemmas.List.{length-take, length-drop, take-append-le, take-take}
use Rattle.adb_outside.specs.declared.framer.Front.{Front}
use Rattle.adb_outside.specs.declared.framer.Front.TheVariants.{More, Bad, Whole}
use Rattle.adb_outside.specs.Framing.{IsFraming}
use Rattle.adb_sync.specs.declared.answer_format.AnswerFormat.{AnswerFormat}
use Rattle.adb_sync.specs.declared.error.SyncFault.{SyncFault}
use Rattle.adb_sync.specs.Answers.{answered_at, answer_front}
use Rattle.adb_sync.specs.Framed.{answers_are_framed, answer_heads, framed_message}
use Rattle.adb_sync_client.specs.declared.kind.AnswerKind.{AnswerKind}
use Rattle.adb_sync_client.specs.declared.expected.Expected.{Expected}
use Rattle.adb_sync_client.specs.Expected.{may_begin, stray_behind, stray_in, whole_front, or_stray, expected_front, expected_answer}
use Rattle.adb_sync_client.specs.Expected.{past_expected}

-- the first stray byte stays so
stray_stays : (n : ℕ) (kind : AnswerKind) (before x y : List ℕ) (place : ℕ) → stray_behind kind before (take n x) ≡ Some place
    → stray_behind kind before (take n (x ++ y)) ≡ Some place
stray_stays zero kind before x y place e = cc
stray_stays (suc n) kind before [] y place e = cc
stray_stays (suc n) kind before (byte ∷ x) y place e = go (may_begin kind (before ++ byte ∷ [])) e
    (stray_stays n kind (before ++ byte ∷ []) x y place)
  where
    go : (t : Bool) → (if t then stray_behind kind (before ++ byte ∷ []) (take n x) else Some (length before)) ≡ Some place
        → (stray_behind kind (before ++ byte ∷ []) (take n x) ≡ Some place
        → stray_behind kind (before ++ byte ∷ []) (take n (x ++ y)) ≡ Some place)
        → (if t then stray_behind kind (before ++ byte ∷ []) (take n (x ++ y)) else Some (length before)) ≡ Some place
    go true is further = further is
    go false is further = is

-- an answer has eight bytes at least, and they are there
pub record IsLong (bytes : List ℕ) (n : ℕ) : Type 0 where
  pub low : 8 ≤ n
  pub fits : n ≤ length bytes

pub answer_is_long : (s : AnswerFormat) (bytes : List ℕ) (n : ℕ) → answer_front s bytes ≡ Whole n → IsLong bytes n
answer_is_long s bytes n e =
    let fits = answers_are_framed.fits s bytes n e in
    let size : length (take n bytes) ≡ n = omega (arith, length-take n bytes, fits.1) in
    let frame = framed_message (λ (format : AnswerFormat). format.offset) answered_at answer_heads s (take n bytes)
    (answers_are_framed.alone s bytes n e ∙ ap Whole (sym size)) in
    let head = answer_heads s (take 4 (take n bytes)) frame.layout frame.known in
    record {
      low = omega (arith, size, head, frame.id, frame.behind.head, length-drop 4 (take n bytes));
      fits = fits.1;
    }

same_answer : (front : Front SyncFault) (n : ℕ) → whole_front front ≡ Whole n → front ≡ Whole n
same_answer More n e = cc
same_answer (Bad fault) n e = cc
same_answer (Whole m) n e = let same : m ≡ n = cc in ap Whole same

no_fault : (front : Front SyncFault) (fault : ℕ) → whole_front front ≡ Bad fault → ⊥
no_fault More fault e = cc
no_fault (Bad other) fault e = cc
no_fault (Whole m) fault e = cc

-- an answer behind which no byte is stray
record IsSound (e : Expected) (bytes : List ℕ) (n : ℕ) : Type 0 where
  clear : stray_in e.kind bytes ≡ None
  whole : answer_front e.answers bytes ≡ Whole n
  long : IsLong bytes n

is_sound : (e : Expected) (bytes : List ℕ) (n : ℕ) → expected_front e bytes ≡ Whole n → IsSound e bytes n
is_sound e bytes n is = go (stray_in e.kind bytes) refl is
  where
    go : (stray : Option ℕ) → stray_in e.kind bytes ≡ stray → or_stray e.answers.offset stray
        (whole_front (answer_front e.answers bytes)) ≡ Whole n
        → IsSound e bytes n
    go None clear told =
        let whole = same_answer (answer_front e.answers bytes) n told in
        record { clear = clear; whole = whole; long = answer_is_long e.answers bytes n whole }
    go (Some place) clear told = absurd (cc)

pub whole_answer : (e : Expected) (bytes : List ℕ) (n : ℕ) → expected_front e bytes ≡ Whole n → answer_front e.answers bytes ≡ Whole n
whole_answer e bytes n is = (is_sound e bytes n is).whole

-- where the first eight bytes are clear, a whole answer is told
sound_told : (e : Expected) (bytes : List ℕ) (n : ℕ) → stray_in e.kind bytes ≡ None
    → answer_front e.answers bytes ≡ Whole n → expected_front e bytes ≡ Whole n
sound_told e bytes n clear whole =
    ap (λ stray. or_stray e.answers.offset stray (whole_front (answer_front e.answers bytes))) clear ∙ ap whole_front whole

stays_bad : (e : Expected) (x y : List ℕ) (fault : ℕ) → expected_front e x ≡ Bad fault → expected_front e (x ++ y) ≡ Bad fault
stays_bad e x y fault is = go (stray_in e.kind x) refl is
  where
    go : (stray : Option ℕ) → stray_in e.kind x ≡ stray → or_stray e.answers.offset stray
        (whole_front (answer_front e.answers x)) ≡ Bad fault
        → expected_front e (x ++ y) ≡ Bad fault
    go None clear told = absurd (no_fault (answer_front e.answers x) fault told)
    go (Some place) found told =
        ap (λ stray. or_stray e.answers.offset stray (whole_front (answer_front e.answers (x ++ y))))
        (stray_stays 8 e.kind [] x y place found) ∙ told

pub expected_are_framed : IsFraming expected_front expected_answer past_expected
expected_are_framed = record {
  empty = λ e. refl;
  bad = stays_bad;
  whole = λ e x y n is.
      let s = is_sound e x n is in
      let head : take 8 (x ++ y) ≡ take 8 x = take-append-le 8 x y (omega (arith, s.long.low, s.long.fits)) in
      sound_told e (x ++ y) n (ap (stray_behind e.kind []) head ∙ s.clear) (answers_are_framed.whole e.answers x y n s.whole);
  fits = λ e x n is. let s = is_sound e x n is in answers_are_framed.fits e.answers x n s.whole;
  alone = λ e x n is.
      let s = is_sound e x n is in
      let head : take 8 (take n x) ≡ take 8 x = take-take 8 n x s.long.low in
      sound_told e (take n x) n (ap (stray_behind e.kind []) head ∙ s.clear) (answers_are_framed.alone e.answers x n s.whole);
}
