-- What is decided stays so, whatever follows.
use Rattle.std.proofs.Common.{ℕ, zero, suc, ◌+◌, ◌-◌, ◌≡◌, ◌≢◌, ◌≤◌, List, [], ◌∷◌, ◌++◌, length, take, drop, cond, Bool, true, false}
use Rattle.std.proofs.Common.{Option, Some, None, Result, refl, sym, ◌∙◌, ap, arith}
use Rattle.std.specs.Prelude.{nat_lt}
use Rattle.std.proofs.lemmas.Bool.Decides.{nat_tests}
use Rattle.std.proofs.lemmas.List.{length-append, length-take, drop-append-le, take-append-le, take_all}
use Rattle.adb_outside.specs.declared.framer.Front.TheVariants as fronts
use Rattle.adb_outside.proofs.FramingLaws.{cut_piece, fault_stays}
use Rattle.adb_sync_client.specs.declared.kind.AnswerKind.{AnswerKind}
use Rattle.adb_sync_client.specs.declared.kind.AnswerKind.TheVariants as kinds
use Rattle.adb_sync_client.specs.declared.step.Step.{Step}
use Rattle.adb_sync_client.specs.declared.step.Step.TheVariants as steps
use Rattle.adb_sync_client.specs.Values.{Said, answer_value, step_map}
use Rattle.adb_remote_frames.specs.declared.frame.Frame.{Frame}
use Rattle.adb_remote_frames.specs.declared.head.Awaited.TheVariants as awaited
use Rattle.adb_remote_frames.specs.declared.place.Place.{Place}
use Rattle.adb_remote_frames.specs.Frames.{frame_at, frame_of, past_frame, frames_from}
use Rattle.adb_remote_frames.specs.Framed.{frames_are_framed}
use Rattle.adb_remote_words.specs.declared.reading.TheConstants.{MAX_ANSWER}
use Rattle.adb_remote_words.specs.declared.remote.Remote.{Remote}
use Rattle.adb_remote_words.specs.declared.remote.Remote.TheVariants.{Devices, Push, Pull, Shell, Wait}
use Rattle.adb_remote_words.specs.declared.remote.Outcome.{Outcome}
use Rattle.adb_remote_words.specs.declared.remote.Outcome.TheVariants.{Pushed, Pulled}
use Rattle.adb_remote_words.specs.declared.remote.RemoteError.{RemoteError}
use Rattle.adb_remote_words.specs.declared.told.Told.{Told}
use Rattle.adb_remote_words.specs.Meaning.{nothing_told, or_further, unended, frame_step, told_with, meant, frames_step, sync_step}
use Rattle.adb_remote_words.specs.Meaning.{body_step, refusal, refused_by, opened, answer_step, limited_at}
use Rattle.adb_remote_words.specs.Outcome.{answer_so_far, decided, outcome_of}
use Rattle.adb_remote_words.specs.Words.{begins_okay, requests}
use Rattle.adb_remote_words.proofs.Openings.{okay_is, okay_same, no_okay_later, refusal_stays, status}
use Rattle.adb_remote_words.proofs.Readings.{take_behind}

-- ---- frames
meant_stays : (job : Remote) (told : Told) (given others : List Frame) (behind : Step Outcome)
    → meant job told given steps.More ≢ steps.More
    → meant job told (given ++ others) behind ≡ meant job told given steps.More
meant_stays job told [] others behind some = absurd (some refl)
meant_stays job told (frame ∷ given) others behind some =
    go (frame_step job told frame) some (meant_stays job (told_with told frame) given others behind)
  where
    go : (s : Step Outcome) → or_further s (meant job (told_with told frame) given steps.More) ≢ steps.More
        → (meant job (told_with told frame) given steps.More ≢ steps.More
        → meant job (told_with told frame) (given ++ others) behind ≡ meant job (told_with told frame) given steps.More)
        → or_further s (meant job (told_with told frame) (given ++ others) behind)
        ≡ or_further s (meant job (told_with told frame) given steps.More)
    go steps.More some further = further some
    go (steps.Done outcome) some further = refl
    go (steps.Refused text) some further = refl
    go (steps.BadAnswer offset) some further = refl

frames_stay : (job : Remote) (told : Told) (p : Place) (x y : List ℕ) → frames_step job told (frames_from p x) ≢ steps.More
    → frames_step job told (frames_from p (x ++ y)) ≡ frames_step job told (frames_from p x)
frames_stay job told p x y some = go (frames_from p x).fault refl
  where
    go : (fault : Option ℕ) → (frames_from p x).fault ≡ fault
        → frames_step job told (frames_from p (x ++ y)) ≡ frames_step job told (frames_from p x)
    go None is =
        let c = frames_from p x in
        let behind = frames_from c.reading (c.rest ++ y) in
        let open_yet : meant job told c.given steps.More ≡ frames_step job told c = ap (λ f. meant job told c.given (unended f)) (sym is) in
        ap (frames_step job told) (cut_piece frame_at frame_of past_frame frames_are_framed (length x) p x y (omega arith) is)
        ∙ (meant_stays job told c.given behind.given (unended behind.fault) (λ e. some (sym open_yet ∙ e)) ∙ open_yet)
    go (Some fault) is =
        let stays = fault_stays frame_at frame_of past_frame frames_are_framed (length x) p x y fault (omega arith) is in
        (λ i. meant job told (stays.0 i) (unended (stays.1 i))) ∙ ap (λ f. meant job told (frames_from p x).given (unended f)) (sym is)

-- ---- all of an answer
abbrev ValuesStay : Type 0
ValuesStay = (kind : AnswerKind) (bytes more : List ℕ) → answer_value kind bytes ≢ steps.More
    → answer_value kind (bytes ++ more) ≡ answer_value kind bytes

sync_stays : {A : Type 0} (stay : ValuesStay) (kind : AnswerKind) (f : A → Outcome) (g : Said → A) (x y : List ℕ)
    → sync_step f (step_map g (answer_value kind x)) ≢ steps.More
    → sync_step f (step_map g (answer_value kind (x ++ y))) ≡ sync_step f (step_map g (answer_value kind x))
sync_stays stay kind f g x y some =
    ap (λ s. sync_step f (step_map g s)) (stay kind x y (λ e. some (ap (λ s. sync_step f (step_map g s)) e)))

body_stays : ValuesStay → (job : Remote) (x y : List ℕ) → body_step job x ≢ steps.More → body_step job (x ++ y) ≡ body_step job x
body_stays stay Devices x y some = frames_stay Devices nothing_told (record { awaited = awaited.List; offset = 4 }) x y some
body_stays stay (Wait serial state) x y some = frames_stay (Wait serial state) nothing_told
    (record { awaited = awaited.List; offset = 4 }) x y some
body_stays stay (Shell command) x y some = frames_stay (Shell command) nothing_told
    (record { awaited = awaited.Packet; offset = 8 }) x y some
body_stays stay (Push path mtime bytes) x y some = sync_stays {A = Unit {0}} stay kinds.Push (λ done. Pushed) (λ said. tt) x y some
body_stays stay (Pull path) x y some = sync_stays {A = List ℕ} stay kinds.Pull Pulled (λ said. said.bytes) x y some

opened_stays : (further : List ℕ → Step Outcome) → ((x y : List ℕ) → further x ≢ steps.More → further (x ++ y) ≡ further x)
    → (offset n : ℕ) (x y : List ℕ) → opened offset n further x ≢ steps.More → opened offset n further (x ++ y) ≡ opened offset n further x
opened_stays further stays offset zero x y some = stays x y some
opened_stays further stays offset (suc n) x y some =
    go (begins_okay x) refl (λ more. opened_stays further stays (offset + 4) n (drop 4 x) y more)
  where
    go : (t : Bool) → begins_okay x ≡ t → (opened (offset + 4) n further (drop 4 x) ≢ steps.More
        → opened (offset + 4) n further (drop 4 x ++ y) ≡ opened (offset + 4) n further (drop 4 x))
        → opened offset (suc n) further (x ++ y) ≡ opened offset (suc n) further x
    go true is behind =
        let len : 4 ≡ length (take 4 x) = ap (length {A = ℕ}) (okay_is x is) in
        let fits : 4 ≤ length x = omega (arith, len, length-take 4 x) in
        let here : opened offset (suc n) further x ≡ opened (offset + 4) n further (drop 4 x) =
        ap (λ t. cond t (opened (offset + 4) n further (drop 4 x)) (refusal offset x)) is in
        (λ i. cond ((okay_same x y fits ∙ is) i) (opened (offset + 4) n further (drop-append-le 4 x y fits i)) (refusal offset (x ++ y)))
        ∙ (behind (λ e. some (here ∙ e)) ∙ sym here)
    go false is behind =
        let here : opened offset (suc n) further x ≡ refusal offset x =
        ap (λ t. cond t (opened (offset + 4) n further (drop 4 x)) (refusal offset x)) is in
        let none : status offset x ≡ fronts.More → ⊥ = λ e. some (here ∙ ap (refused_by x) e) in
        ap (λ t. cond t (opened (offset + 4) n further (drop 4 (x ++ y))) (refusal offset (x ++ y))) (no_okay_later offset x y is none)
        ∙ (refusal_stays offset x y (status offset x) refl none ∙ sym here)

step_stays : ValuesStay → (job : Remote) (x y : List ℕ) → answer_step job x ≢ steps.More → answer_step job (x ++ y) ≡ answer_step job x
step_stays stay job x y some = opened_stays (body_step job) (body_stays stay job) 0 (requests job) x y some

-- what is decided is so however long the answer is, and whether it ended
decided_any : (s : Step Outcome) (len other : ℕ) (ended : Bool) (r : Result Outcome RemoteError)
    → decided s len false ≡ Some r → decided s other ended ≡ Some r
decided_any steps.More len other ended r e = cc
decided_any (steps.Done outcome) len other ended r e = e
decided_any (steps.Refused text) len other ended r e = e
decided_any (steps.BadAnswer offset) len other ended r e = e

not_more : (s : Step Outcome) (len : ℕ) (r : Result Outcome RemoteError) → decided s len false ≡ Some r → s ≢ steps.More
not_more s len r e more = let clash : None ≡ Some r = ap (λ s. decided s len false) (sym more) ∙ e in cc

limited_so : (s : Step Outcome) (past : Bool) → s ≢ steps.More → limited_at past s ≡ s
limited_so s false some = refl
limited_so steps.More true some = absurd (some refl)
limited_so (steps.Done outcome) true some = refl
limited_so (steps.Refused text) true some = refl
limited_so (steps.BadAnswer offset) true some = refl

pub outcome_stays : ValuesStay → (job : Remote) (front more : List ℕ) (ended : Bool) (r : Result Outcome RemoteError)
    → outcome_of job front false ≡ Some r
    → outcome_of job (front ++ more) ended ≡ Some r
outcome_stays stay job front more ended r e = go (nat_lt MAX_ANSWER (length front)) refl
  where
    all : List ℕ
    all = front ++ more

    go : (t : Bool) → nat_lt MAX_ANSWER (length front) ≡ t → outcome_of job all ended ≡ Some r
    go true is =
        let later : nat_lt MAX_ANSWER (length all) ≡ true = grind (arith, nat_tests, is, length-append front more) in
        let cut : take MAX_ANSWER all ≡ take MAX_ANSWER front = take-append-le MAX_ANSWER front more (grind (arith, nat_tests, is)) in
        let same : answer_so_far job all ≡ answer_so_far job front = λ i. limited_at ((later ∙ sym is) i) (answer_step job (cut i)) in
        ap (λ s. decided s (length all) ended) same ∙ decided_any (answer_so_far job front) (length front) (length all) ended r e
    go false is =
        let short : length front ≤ MAX_ANSWER = grind (arith, nat_tests, is) in
        let rest = take (MAX_ANSWER - length front) more in
        let here : answer_so_far job front ≡ answer_step job front =
        λ i. limited_at (is i) (answer_step job (take_all MAX_ANSWER front short i)) in
        let e_here : decided (answer_step job front) (length front) false ≡ Some r =
        ap (λ s. decided s (length front) false) (sym here) ∙ e in
        let some : answer_step job front ≢ steps.More = not_more (answer_step job front) (length front) r e_here in
        let same : answer_step job (take MAX_ANSWER all) ≡ answer_step job front =
        ap (answer_step job) (take_behind front more (MAX_ANSWER - length front) MAX_ANSWER (omega (arith, short)))
        ∙ step_stays stay job front rest some in
        ap (λ s. decided (limited_at (nat_lt MAX_ANSWER (length all)) s) (length all) ended) same
        ∙ (ap (λ s. decided s (length all) ended) (limited_so (answer_step job front) (nat_lt MAX_ANSWER (length all)) some)
        ∙ decided_any (answer_step job front) (length front) (length all) ended r e_here)
