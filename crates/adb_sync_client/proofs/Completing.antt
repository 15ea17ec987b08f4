-- Answer bytes that more is wanted of can come to an end.
use Rattle.std.proofs.Common.{ℕ, zero, suc, ◌+◌, ◌-◌, ◌≡◌, ◌<◌, ◌≤◌, ◌⊎◌, inl, inr, Bool, true, false, List, [], ◌∷◌, ◌++◌, length, take}
use Rattle.std.proofs.Common.{drop, Option, Some, None}
use Rattle.std.proofs.Common.{min, replicate, leb, sym, refl, ◌∙◌, ap, subst, append_assoc, arith}
use Rattle.std.specs.Prelude.{codes}
use Rattle.std.proofs.lemmas.Bool.Decides.{leb_tells}
use Rattle.std.proofs.lemmas.List.{length-append, length-take, length-drop, length-replicate}
use Rattle.std.proofs.lemmas.List.{take-append-le, take-take, take_all, take-append-drop, drop-append-le}
use Rattle.std.proofs.lemmas.List.Elements.{All-append, All-drop, All-replicate}
use Rattle.adb_outside.specs.Bytes.{AreBytes}
use Rattle.adb_outside.specs.declared.framer.Front.{Front}
use Rattle.adb_outside.specs.declared.framer.Front.TheVariants.{More, Bad, Whole}
use Rattle.adb_sync.specs.declared.answer_id.AnswerId.{AnswerId}
use Rattle.adb_sync.specs.declared.answer_id.AnswerId.TheVariants as ids
use Rattle.adb_sync.specs.declared.layout.Layout.{Layout}
use Rattle.adb_sync.specs.declared.answer_format.AnswerFormat.{AnswerFormat}
use Rattle.adb_sync.specs.declared.error.SyncFault.{SyncFault}
use Rattle.adb_sync.specs.Messages.{number_at, head_number, limit_fault, body_len, body_fault, or_bad, front_of_body, front_past_id}
use Rattle.adb_sync.specs.Answers.{answer_id_of, answer_layout, known_answer, answered_at, answer_front}
use Rattle.adb_sync.specs.Framed.{there}
use Rattle.adb_sync.proofs.AnswerCuts.{letters, letters_id}
use Rattle.adb_sync_client.specs.declared.expected.Expected.{Expected}
use Rattle.adb_sync_client.specs.declared.kind.AnswerKind.{AnswerKind}
use Rattle.adb_sync_client.specs.declared.kind.AnswerKind.TheVariants as kinds
use Rattle.adb_sync_client.specs.declared.step.Step.{Step}
use Rattle.adb_sync_client.specs.declared.step.Step.TheVariants as steps
use Rattle.adb_sync_client.specs.declared.told.Next.{Next}
use Rattle.adb_sync_client.specs.declared.told.Next.TheVariants.{GoesOn, Done, Refused}
use Rattle.adb_sync_client.specs.Expected.{begins, stray_in, whole_front, or_stray, expected_front}
use Rattle.adb_sync_client.specs.Expected.{expected_answer, past_expected, is_list, expected_start}
use Rattle.adb_sync_client.specs.Framed.{answer_is_long, expected_are_framed}
use Rattle.adb_sync_client.specs.Values.{Said, told_nothing, told_by, next_of, ended_or, answer_value, HasEnded, CanEnd}
use Rattle.adb_sync_client.proofs.FirstBad.{means, means_first, means_frame}
use Rattle.adb_sync_client.proofs.Openings.{number_zeros, number_taken, begins_front, begins_long, clear_of_begins, begins_of_clear}
use Rattle.adb_sync_client.proofs.Openings.{nothing_begins, four_letters, letter_bytes, opens, Opening, Opens}

-- ---- whole answers
no_comma : (list : Bool) (id : AnswerId) (body : List ℕ) → body_fault (answer_layout list id) body ≡ None
no_comma list ids.Stat body = refl
no_comma list ids.Dent body = refl
no_comma list ids.Data body = refl
no_comma list ids.Done body = refl
no_comma list ids.Okay body = refl
no_comma list ids.Fail body = refl

-- with all the bytes that its head says an answer is whole
pub enough : (s : AnswerFormat) (id : AnswerId) (bytes : List ℕ) → 4 ≤ length bytes → take 4 bytes ≡ letters id
    → let layout = answer_layout s.list id in
    let n = head_number layout (drop 4 bytes) in
    limit_fault layout.limit n ≡ None → layout.head + body_len layout n ≤ length (drop 4 bytes)
    → answer_front s bytes ≡ Whole (4 + layout.head + body_len layout n)
enough s id bytes long is small fits =
    let layout = answer_layout s.list id in
    let rest = drop 4 bytes in
    let n = head_number layout rest in
    let b = body_len layout n in
    let body = drop layout.head rest in
    let all : Front SyncFault = Whole (4 + layout.head + b) in
    let found : answer_id_of (take 4 bytes) ≡ Some id = ap answer_id_of is ∙ letters_id id in
    there (length bytes) 4 (front_past_id s.offset (answered_at s (take 4 bytes)) rest) long
    ∙ (ap (λ o. front_past_id s.offset (known_answer s.list o) rest) found
    ∙ (there (length rest) layout.head
    (or_bad s.offset (limit_fault layout.limit n) (front_of_body s.offset layout n body)) (omega (arith, fits))
    ∙ (ap (λ o. or_bad s.offset o (front_of_body s.offset layout n body)) small
    ∙ (there (length body) b (or_bad s.offset (body_fault layout (take b body)) all) (omega (arith, fits, length-drop layout.head rest))
    ∙ ap (λ o. or_bad s.offset o all) (no_comma s.list id (take b body))))))

-- bytes that are no answer yet
record IsOpen (e : Expected) (bytes : List ℕ) : Type 0 where
  clear : stray_in e.kind bytes ≡ None
  none : (n : ℕ) → answer_front e.answers bytes ≡ Whole n → ⊥

is_open : (e : Expected) (bytes : List ℕ) → expected_front e bytes ≡ More → IsOpen e bytes
is_open e bytes told = go (stray_in e.kind bytes) refl told
  where
    go : (stray : Option ℕ) → stray_in e.kind bytes ≡ stray → or_stray e.answers.offset stray
        (whole_front (answer_front e.answers bytes)) ≡ More
        → IsOpen e bytes
    go None clear more = record { clear = clear; none = λ n is. let clash : Whole n ≡ More = sym (ap whole_front is) ∙ more in absurd (cc) }
    go (Some place) clear more = absurd (cc)

-- With bytes behind them they are one answer.
record Completes (e : Expected) (bytes : List ℕ) : Type 0 where
  more : List ℕ
  are : AreBytes more
  whole : expected_front e (bytes ++ more) ≡ Whole (length (bytes ++ more))

clear_told : (e : Expected) (bytes : List ℕ) (n : ℕ) → stray_in e.kind bytes ≡ None
    → answer_front e.answers bytes ≡ Whole n → expected_front e bytes ≡ Whole n
clear_told e bytes n clear whole =
    ap (λ stray. or_stray e.answers.offset stray (whole_front (answer_front e.answers bytes))) clear ∙ ap whole_front whole

-- zeros complete what has an id
long_completes : (e : Expected) (bytes : List ℕ) (said : ℕ) (o : Opening e.kind e.answers.list said)
    → number_at 4 bytes ≡ said → 4 ≤ length bytes
    → take 4 bytes ≡ letters o.id → ((n : ℕ) → answer_front e.answers bytes ≡ Whole n → ⊥) → Completes e bytes
long_completes e bytes said o says long is none = go (leb_tells need (length rest))
  where
    layout : Layout
    layout = answer_layout e.answers.list o.id

    rest : List ℕ
    rest = drop 4 bytes

    need : ℕ
    need = layout.head + body_len layout (head_number layout rest)

    zs : List ℕ
    zs = replicate (need - length rest) 0

    past : drop 4 (bytes ++ zs) ≡ rest ++ zs
    past = drop-append-le 4 bytes zs long

    same : head_number layout (drop 4 (bytes ++ zs)) ≡ head_number layout rest
    same = ap (head_number layout) past ∙ number_zeros (layout.head - 4) (need - length rest) rest

    front : take 4 (bytes ++ zs) ≡ letters o.id
    front = take-append-le 4 bytes zs long ∙ is

    number : number_at 4 (bytes ++ zs) ≡ said
    number = number_zeros 4 (need - length rest) bytes ∙ says

    size : length rest < need → length (bytes ++ zs) ≡ 4 + need
    size h = omega (arith, h, long, length-append bytes zs, length-replicate {A = ℕ} (need - length rest) 0, length-drop 4 bytes)

    clear : stray_in e.kind (bytes ++ zs) ≡ None
    clear =
        let all = bytes ++ zs in
        let head = take 8 all in
        let four : take 4 head ≡ letters o.id = take-take 4 8 all (omega arith) ∙ front in
        clear_of_begins e.kind [] head
        (o.again head
        (begins_long (letters o.id) head (omega (arith, long, length-append bytes zs, length-take 8 all))
        (four_letters o.id) four)
        (number_taken all ∙ number))

    whole : length rest < need → answer_front e.answers (bytes ++ zs) ≡ Whole (length (bytes ++ zs))
    whole h =
        let fits : layout.head + body_len layout (head_number layout (drop 4 (bytes ++ zs))) ≡ need =
        ap (λ n. layout.head + body_len layout n) same in
        enough e.answers o.id (bytes ++ zs) (omega (arith, long, length-append bytes zs)) front (o.small (drop 4 (bytes ++ zs)) number)
        (omega (arith, fits, size h, length-drop 4 (bytes ++ zs)))
        ∙ ap Whole (omega (arith, fits, size h))

    go : ((leb need (length rest) ≡ true) × (need ≤ length rest))
        ⊎ ((leb need (length rest) ≡ false) × (length rest < need)) → Completes e bytes
    go (inl h) = absurd
        (none (4 + layout.head + body_len layout (head_number layout rest))
        (enough e.answers o.id bytes long is (o.small rest says) h.1))
    go (inr h) = record {
      more = zs;
      are = All-replicate (λ byte. byte < 256) (need - length rest) 0 (omega arith);
      whole = clear_told e (bytes ++ zs) (length (bytes ++ zs)) clear (whole h.1);
    }

number_short : (x : List ℕ) → length x ≤ 4 → number_at 4 x ≡ 0
number_short [] h = refl
number_short (a ∷ []) h = refl
number_short (a ∷ b ∷ []) h = refl
number_short (a ∷ b ∷ c ∷ []) h = refl
number_short (a ∷ b ∷ c ∷ d ∷ []) h = refl
number_short (a ∷ b ∷ c ∷ d ∷ e ∷ x) h = absurd (omega (arith, h))

-- what has no whole id is completed to that first
short_completes : (e : Expected) (bytes : List ℕ) (o : Opening e.kind e.answers.list (number_at 4 bytes)) → length bytes < 4
    → begins (letters o.id) bytes ≡ true → Completes e bytes
short_completes e bytes o short here =
    let name = letters o.id in
    let more = drop (length bytes) name in
    let four = four_letters o.id in
    let at : min (length bytes) 4 ≡ length bytes = omega (arith, short) in
    let front : bytes ≡ take (length bytes) name = sym (ap (λ k. take k bytes) at ∙ take_all (length bytes) bytes (omega arith))
    ∙ (begins_front name bytes here ∙ ap (λ k. take k name) at) in
    let whole : bytes ++ more ≡ name = ap (λ (l : List ℕ). l ++ more) front ∙ take-append-drop (length bytes) name in
    let number : number_at 4 name ≡ number_at 4 bytes = number_short name (omega (arith, four))
    ∙ sym (number_short bytes (omega (arith, short))) in
    let not_yet : (n : ℕ) → answer_front e.answers name ≡ Whole n → ⊥ =
    λ n is. let l = answer_is_long e.answers name n is in absurd (omega (arith, four, l.low, l.fits)) in
    let c = long_completes e name (number_at 4 bytes) o number (omega (arith, four)) (take_all 4 name (omega (arith, four))) not_yet in
    let all : bytes ++ (more ++ c.more) ≡ name ++ c.more = sym (append_assoc bytes more c.more) ∙ ap (λ (l : List ℕ). l ++ c.more) whole in
    record {
      more = more ++ c.more;
      are = All-append (λ byte. byte < 256) more c.more (All-drop (λ byte. byte < 256) (length bytes) name (letter_bytes o.id)) c.are;
      whole = subst (λ (l : List ℕ). expected_front e l ≡ Whole (length l)) (sym all) c.whole;
    }

completes : (e : Expected) (bytes : List ℕ) → expected_front e bytes ≡ More → Completes e bytes
completes e bytes told = go (leb_tells 4 (length bytes))
  where
    h : IsOpen e bytes
    h = is_open e bytes told

    head : List ℕ
    head = take 8 bytes

    o : Opens e.kind e.answers.list head
    o = opens e.kind e.answers.list head (begins_of_clear e.kind [] head (nothing_begins e.kind) h.clear)

    go : ((leb 4 (length bytes) ≡ true) × (4 ≤ length bytes)) ⊎ ((leb 4 (length bytes) ≡ false) × (length bytes < 4)) → Completes e bytes
    go (inl long) =
        let name = letters o.opening.id in
        let at : min (length head) 4 ≡ 4 = omega (arith, long.1, length-take 8 bytes) in
        let front : take 4 head ≡ take 4 name = ap (λ k. take k head) (sym at)
        ∙ (begins_front name head o.here ∙ ap (λ k. take k name) at) in
        long_completes e bytes (number_at 4 head) o.opening (sym (number_taken bytes)) long.1
        (sym (take-take 4 8 bytes (omega arith)) ∙ (front ∙ take_all 4 name (omega (arith, four_letters o.opening.id)))) h.none
    go (inr short) =
        let same : head ≡ bytes = take_all 8 bytes (omega (arith, short.1)) in
        let there = subst (Opens e.kind e.answers.list) same o in
        short_completes e bytes there.opening short.1 there.here

-- ---- the end
-- an answer that ends each kind
abbrev last_answer : AnswerKind → List ℕ
last_answer kinds.Push = codes "OKAY" ++ replicate 4 0
last_answer kinds.Pull = codes "DONE" ++ replicate 4 0
last_answer kinds.Stat = codes "STAT" ++ replicate 12 0
last_answer kinds.List = codes "DONE" ++ replicate 16 0

ended_bytes : (id : AnswerId) (n : ℕ) → AreBytes (letters id ++ replicate n 0)
ended_bytes id n = All-append (λ byte. byte < 256) (letters id) (replicate n 0) (letter_bytes id)
    (All-replicate (λ byte. byte < 256) n 0 (omega arith))

last_bytes : (kind : AnswerKind) → AreBytes (last_answer kind)
last_bytes kinds.Push = ended_bytes ids.Okay 4
last_bytes kinds.Pull = ended_bytes ids.Done 4
last_bytes kinds.Stat = ended_bytes ids.Stat 12
last_bytes kinds.List = ended_bytes ids.Done 16

last_ends : (kind : AnswerKind) (offset : ℕ) (said : Said)
    → HasEnded (means (record { kind = kind; answers = record { offset = offset; list = is_list kind } }) said (last_answer kind))
last_ends kinds.Push offset said = tt
last_ends kinds.Pull offset said = tt
last_ends kinds.Stat offset said = tt
last_ends kinds.List offset said = tt

-- Bytes of which more is wanted can be followed so that they mean an end.
record Ends (e : Expected) (said : Said) (bytes : List ℕ) : Type 0 where
  more : List ℕ
  are : AreBytes more
  ends : HasEnded (means e said (bytes ++ more))

-- where further answers end, so does what is before them
ends_on : (next : Next) (said : Said) (further : Step Said) → HasEnded further → HasEnded (ended_or next said further)
ends_on GoesOn said further h = h
ends_on Done said further h = tt
ends_on (Refused text) said further h = tt

-- whole answers behind which bytes end
ends_behind : (e : Expected) (said : Said) (frame more : List ℕ) → expected_front e frame ≡ Whole (length frame)
    → HasEnded (means (past_expected e frame) (told_by said (expected_answer e frame)) more) → HasEnded (means e said (frame ++ more))
ends_behind e said frame more is h =
    let answer = expected_answer e frame in
    let further = means (past_expected e frame) (told_by said answer) more in
    subst HasEnded (sym (means_frame e said frame more is)) (ends_on (next_of answer) (told_by said answer) further h)

ends_last : (e : Expected) (said : Said) → e.answers.list ≡ is_list e.kind → HasEnded (means e said (last_answer e.kind))
ends_last e said list =
    subst (λ l. HasEnded
    (means (record { kind = e.kind; answers = record { offset = e.answers.offset; list = l } }) said
    (last_answer e.kind))) (sym list)
    (last_ends e.kind e.answers.offset said)

-- more is wanted behind an answer that goes on
wanted_on : (next : Next) (said : Said) (further : Step Said) → ended_or next said further ≡ steps.More → further ≡ steps.More
wanted_on GoesOn said further h = h
wanted_on Done said further h = absurd (cc)
wanted_on (Refused text) said further h = absurd (cc)

by_front : (e : Expected) (said : Said) (bytes : List ℕ) → e.answers.list ≡ is_list e.kind
    → ((e : Expected) (said : Said) (more : List ℕ) → e.answers.list ≡ is_list e.kind → length more < length bytes
    → means e said more ≡ steps.More
    → Ends e said more)
    → means e said bytes ≡ steps.More → Ends e said bytes
by_front e said bytes list others wanted = go (expected_front e bytes) refl
  where
    go : (front : Front ℕ) → expected_front e bytes ≡ front → Ends e said bytes
    go More is =
        let c = completes e bytes is in
        let last = last_answer e.kind in
        let frame = bytes ++ c.more in
        record {
          more = c.more ++ last;
          are = All-append (λ byte. byte < 256) c.more last c.are (last_bytes e.kind);
          ends = subst (λ (l : List ℕ). HasEnded (means e said l)) (append_assoc bytes c.more last)
              (ends_behind e said frame last c.whole (ends_last (past_expected e frame) (told_by said (expected_answer e frame)) list));
        }
    go (Bad fault) is = let clash : steps.BadAnswer fault ≡ steps.More =
        sym (means_first e said bytes (Bad fault) is) ∙ wanted in absurd (cc)
    go (Whole n) is =
        let frame = take n bytes in
        let more = drop n bytes in
        let fits = expected_are_framed.fits e bytes n is in
        let size : length frame ≡ n = omega (arith, fits.1, length-take n bytes) in
        let found : expected_front e frame ≡ Whole (length frame) = expected_are_framed.alone e bytes n is ∙ ap Whole (sym size) in
        let whole : frame ++ more ≡ bytes = take-append-drop n bytes in
        let answer = expected_answer e frame in
        let further = means (past_expected e frame) (told_by said answer) more in
        let behind = wanted_on (next_of answer) (told_by said answer) further
        (sym (means_frame e said frame more found) ∙ (ap (means e said) whole ∙ wanted)) in
        let h = others (past_expected e frame) (told_by said answer) more list
        (omega (arith, fits.0, fits.1, length-drop n bytes)) behind in
        record {
          more = h.more;
          are = h.are;
          ends = subst (λ (l : List ℕ). HasEnded (means e said l))
              (sym (append_assoc frame more h.more) ∙ ap (λ (l : List ℕ). l ++ h.more) whole)
              (ends_behind e said frame (more ++ h.more) found h.ends);
        }

can_end : (k : ℕ) (e : Expected) (said : Said) (bytes : List ℕ) → length bytes ≤ k → e.answers.list ≡ is_list e.kind
    → means e said bytes ≡ steps.More
    → Ends e said bytes
can_end zero e said bytes fits list wanted = by_front e said bytes list
    (λ e said more list fewer _. absurd (omega (arith, fits, fewer))) wanted
can_end (suc k) e said bytes fits list wanted =
    by_front e said bytes list (λ e said more list fewer wanted. can_end k e said more (omega (arith, fits, fewer)) list wanted) wanted

pub open_can_end : (kind : AnswerKind) (bytes : List ℕ) → answer_value kind bytes ≡ steps.More → CanEnd kind bytes
open_can_end kind bytes wanted =
    let h = can_end (length bytes) (expected_start kind) told_nothing bytes (omega arith) refl wanted in
    record { more = h.more; are_bytes = h.are; ends = h.ends }
