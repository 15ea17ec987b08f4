-- The OKAYs of an answer, one by one.
use Rattle.std.proofs.Common.{ℕ, zero, suc, ◌+◌, ◌*◌, ◌≡◌, ◌≤◌, ◌<◌, List, [], ◌∷◌, ◌++◌, length, take, drop, cond, Bool, true, false}
use Rattle.std.proofs.Common.{Result, Ok, Err, refl, sym, ◌∙◌, ap, subst, arith}
use Rattle.std.specs.Prelude.{codes, bytes_eq, get_or, IfOk, ⊤}
use Rattle.std.proofs.lemmas.List.{take-append-le, drop-append-le, length-take}
use Rattle.std.proofs.lemmas.Slice.Eq.{bytes_eq-Decides}
use Rattle.adb_outside.specs.declared.framer.Front.{Front}
use Rattle.adb_outside.specs.declared.framer.Front.TheVariants as fronts
use Rattle.adb_sync_client.specs.declared.step.Step.{Step}
use Rattle.adb_sync_client.specs.declared.step.Step.TheVariants.{More, Done, Refused, BadAnswer}
use Rattle.adb_remote_frames.specs.declared.head.Awaited.TheVariants as awaited
use Rattle.adb_remote_frames.specs.declared.place.Place.{Place}
use Rattle.adb_remote_frames.specs.Heads.{found}
use Rattle.adb_remote_frames.specs.Framed.{frames_are_framed}
use Rattle.adb_remote_words.specs.declared.remote.Outcome.{Outcome}
use Rattle.adb_remote_words.specs.Held.{HeldOpening}
use Rattle.adb_remote_words.specs.Meaning.{refused_by, refusal, opened}
use Rattle.adb_remote_words.specs.Reading.{Opened}
use Rattle.adb_remote_words.specs.Words.{begins_okay, okays_at}

-- ---- numbers, and steps that are no other
four_on : (okays : ℕ) → 4 * okays + 4 ≡ 4 * (okays + 1)
four_on okays = omega arith

one_on : (okays more : ℕ) → okays + (1 + more) ≡ (okays + 1) + more
one_on okays more = omega arith

none_on : (okays : ℕ) → okays + 0 ≡ okays
none_on okays = omega arith

never_done : (x : ⊤) → ◌≡◌ {A = Step ⊤} (Done x) More → ⊥
never_done x e = cc

never_bad : (offset : ℕ) → ◌≡◌ {A = Step ⊤} (BadAnswer offset) More → ⊥
never_bad offset e = cc

never_refused : (text : List ℕ) → ◌≡◌ {A = Step ⊤} (Refused text) More → ⊥
never_refused text e = cc

-- ---- what bytes begin with stays so
pub okay_same : (x y : List ℕ) → 4 ≤ length x → begins_okay (x ++ y) ≡ begins_okay x
okay_same x y fits = ap (bytes_eq (codes "OKAY")) (take-append-le 4 x y fits)

pub okay_is : (bytes : List ℕ) → begins_okay bytes ≡ true → codes "OKAY" ≡ take 4 bytes
okay_is bytes is = (bytes_eq-Decides (codes "OKAY") (take 4 bytes)).0 is

pub okay_fits : (bytes : List ℕ) → begins_okay bytes ≡ true → 4 ≤ length bytes
okay_fits bytes is =
    let len : 4 ≡ length (take 4 bytes) = ap (length {A = ℕ}) (okay_is bytes is) in
    omega (arith, len, length-take 4 bytes)

abbrev pub status : ℕ → List ℕ → Front ℕ
status offset bytes = found awaited.Status offset bytes

-- fewer than four bytes that may become an OKAY decide nothing
pub no_okay_later : (offset : ℕ) (x y : List ℕ) → begins_okay x ≡ false → (status offset x ≡ fronts.More → ⊥) → begins_okay (x ++ y) ≡ false
no_okay_later offset (a ∷ b ∷ c ∷ d ∷ x) y lacks some = okay_same (a ∷ b ∷ c ∷ d ∷ x) y (omega arith) ∙ lacks
no_okay_later offset [] y lacks some = absurd (some refl)
no_okay_later offset (a ∷ []) y lacks some = go (begins_okay (a ∷ y)) refl
  where
    go : (t : Bool) → begins_okay (a ∷ y) ≡ t → begins_okay (a ∷ y) ≡ false
    go false is = is
    go true is =
        let one : 79 ≡ a = ap (λ l. get_or l 0 0) (okay_is (a ∷ y) is) in
        absurd (some (ap (λ k. status offset (k ∷ [])) (sym one)))
no_okay_later offset (a ∷ b ∷ []) y lacks some = go (begins_okay (a ∷ b ∷ y)) refl
  where
    go : (t : Bool) → begins_okay (a ∷ b ∷ y) ≡ t → begins_okay (a ∷ b ∷ y) ≡ false
    go false is = is
    go true is =
        let all = okay_is (a ∷ b ∷ y) is in
        let one : 79 ≡ a = ap (λ l. get_or l 0 0) all in
        let two : 75 ≡ b = ap (λ l. get_or l 1 0) all in
        absurd (some (λ i. status offset (sym one i ∷ sym two i ∷ [])))
no_okay_later offset (a ∷ b ∷ c ∷ []) y lacks some = go (begins_okay (a ∷ b ∷ c ∷ y)) refl
  where
    go : (t : Bool) → begins_okay (a ∷ b ∷ c ∷ y) ≡ t → begins_okay (a ∷ b ∷ c ∷ y) ≡ false
    go false is = is
    go true is =
        let all = okay_is (a ∷ b ∷ c ∷ y) is in
        let one : 79 ≡ a = ap (λ l. get_or l 0 0) all in
        let two : 75 ≡ b = ap (λ l. get_or l 1 0) all in
        let three : 65 ≡ c = ap (λ l. get_or l 2 0) all in
        absurd (some (λ i. status offset (sym one i ∷ sym two i ∷ sym three i ∷ [])))

abbrev place : ℕ → Place
place offset = record { awaited = awaited.Status; offset = offset }

-- a refusal stays
pub refusal_stays : (offset : ℕ) (x y : List ℕ) (f : Front ℕ) → status offset x ≡ f → (f ≡ fronts.More → ⊥)
    → ◌≡◌ {A = Step Outcome} (refusal offset (x ++ y)) (refused_by x f)
refusal_stays offset x y fronts.More is some = absurd (some refl)
refusal_stays offset x y (fronts.Bad fault) is some = ap (refused_by (x ++ y)) (frames_are_framed.bad (place offset) x y fault is)
refusal_stays offset x y (fronts.Whole n) is some =
    let fits = frames_are_framed.fits (place offset) x n is in
    ap (refused_by (x ++ y)) (frames_are_framed.whole (place offset) x y n is) ∙ ap (λ t. Refused (drop 8 t)) (take-append-le n x y fits.1)

-- ---- OKAYs that are taken
pub record OpensOn (old new : HeldOpening) : Type 0 where
  pub means : (further : List ℕ → Step Outcome) (more : List ℕ)
      → opened (4 * old.okays) old.left further (old.held ++ more) ≡ opened (4 * new.okays) new.left further (new.held ++ more)
  pub okays : (more : List ℕ) → old.okays + okays_at old.left (old.held ++ more) ≡ new.okays + okays_at new.left (new.held ++ more)
  pub sum : new.okays + new.left ≡ old.okays + old.left

pub opens_none : (o : HeldOpening) → OpensOn o o
opens_none o = record { means = λ further more. refl; okays = λ more. refl; sum = refl }

abbrev pub opening_of : List ℕ → ℕ → ℕ → HeldOpening
opening_of held okays left = record { held = held; okays = okays; left = left }

-- one that is there
module _ (old : HeldOpening) (held : List ℕ) (okays : ℕ) (is : begins_okay held ≡ true) where
  fits : 4 ≤ length held
  fits = okay_fits held is

  is_later : (more : List ℕ) → begins_okay (held ++ more) ≡ true
  is_later more = okay_same held more fits ∙ is

  past : (more : List ℕ) → drop 4 (held ++ more) ≡ drop 4 held ++ more
  past more = drop-append-le 4 held more fits

  opens_by : (m : ℕ) → OpensOn old (opening_of held okays (suc m)) → OpensOn old (opening_of (drop 4 held) (okays + 1) m)
  opens_by m on = record {
    means = λ further more. on.means further more
        ∙ (ap (λ t. cond t (opened (4 * okays + 4) m further (drop 4 (held ++ more))) (refusal (4 * okays) (held ++ more))) (is_later more)
        ∙ (ap (opened (4 * okays + 4) m further) (past more) ∙ ap (λ o. opened o m further (drop 4 held ++ more)) (four_on okays)));
    okays = λ more. on.okays more
        ∙ (ap (λ t. okays + cond t (1 + okays_at m (drop 4 (held ++ more))) 0) (is_later more)
        ∙ (ap (λ b. okays + (1 + okays_at m b)) (past more) ∙ one_on okays (okays_at m (drop 4 held ++ more))));
    sum = omega (arith, on.sum);
  }

  pub opens_one : (left now : ℕ) → now + 1 ≡ left → OpensOn old (opening_of held okays left)
      → OpensOn old (opening_of (drop 4 held) (okays + 1) now)
  opens_one zero now one on = absurd (omega (arith, one))
  opens_one (suc m) now one on =
      let same : m ≡ now = omega (arith, one) in
      subst (λ n. OpensOn old (opening_of (drop 4 held) (okays + 1) n)) same (opens_by m on)

-- none is to come
pub opens_all : (old new : HeldOpening) (x : ⊤) → OpensOn old new → new.left ≡ 0 → Opened old (Done x) new
opens_all old new x on none = record {
  means = on.means;
  okays = on.okays;
  undecided = λ e. absurd (never_done x e);
  none_here = λ e. cc;
  waits = λ e. cc;
  done = λ y e. none;
  sum = on.sum;
}

-- what stands in its place
module _ (old : HeldOpening) (held : List ℕ) (okays : ℕ) (lacks : begins_okay held ≡ false) where
  abbrev now_at : ℕ → HeldOpening
  now_at left = opening_of held okays left

  -- where it decides
  refused : (m : ℕ) (on : OpensOn old (now_at (suc m))) (f : Front ℕ) → status (4 * okays) held ≡ f → (f ≡ fronts.More → ⊥)
      → (further : List ℕ → Step Outcome) (more : List ℕ) → opened (4 * old.okays) old.left further (old.held ++ more) ≡ refused_by held f
  refused m on f is some further more =
      let later = no_okay_later (4 * okays) held more lacks (λ e. some (sym is ∙ e)) in
      on.means further more
      ∙ (ap (λ t. cond t (opened (4 * okays + 4) m further (drop 4 (held ++ more))) (refusal (4 * okays) (held ++ more))) later
      ∙ refusal_stays (4 * okays) held more f is some)

  none_more : (m : ℕ) (on : OpensOn old (now_at (suc m))) (f : Front ℕ) → status (4 * okays) held ≡ f
      → (f ≡ fronts.More → ⊥) → (more : List ℕ)
      → old.okays + okays_at old.left (old.held ++ more) ≡ okays
  none_more m on f is some more =
      let later = no_okay_later (4 * okays) held more lacks (λ e. some (sym is ∙ e)) in
      on.okays more ∙ (ap (λ t. okays + cond t (1 + okays_at m (drop 4 (held ++ more))) 0) later ∙ none_on okays)

  by_front : (m : ℕ) (on : OpensOn old (now_at (suc m))) (f : Front ℕ) → status (4 * okays) held ≡ f
      → Opened old (refused_by held f) (now_at (suc m))
  by_front m on fronts.More is = record {
    means = on.means;
    okays = on.okays;
    undecided = λ e further. ap
        (λ t. cond t (opened (4 * okays + 4) m further (drop 4 held)) (refusal (4 * okays) held)) lacks
        ∙ ap (refused_by held) is;
    none_here = λ e. ap (λ t. cond t (1 + okays_at m (drop 4 held)) 0) lacks;
    waits = λ e. omega arith;
    done = λ y e. cc;
    sum = on.sum;
  }
  by_front m on (fronts.Bad fault) is = record {
    means = refused m on (fronts.Bad fault) is (λ e. cc);
    okays = none_more m on (fronts.Bad fault) is (λ e. cc);
    undecided = λ e. absurd (never_bad fault e);
    none_here = λ e. cc;
    waits = λ e. cc;
    done = λ y e. cc;
    sum = on.sum;
  }
  by_front m on (fronts.Whole n) is = record {
    means = refused m on (fronts.Whole n) is (λ e. cc);
    okays = none_more m on (fronts.Whole n) is (λ e. cc);
    undecided = λ e. absurd (never_refused (drop 8 (take n held)) e);
    none_here = λ e. cc;
    waits = λ e. cc;
    done = λ y e. cc;
    sum = on.sum;
  }

  pub opens_not : (left : ℕ) (step : Step ⊤) → 0 < left → OpensOn old (now_at left) → step ≡ refusal (4 * okays) held
      → Opened old step (now_at left)
  opens_not zero step some on is = absurd (omega (arith, some))
  opens_not (suc m) step some on is =
      subst (λ s. Opened old s (now_at (suc m))) (sym is) (by_front m on (status (4 * okays) held) refl)

-- the same of a call's answer
pub refusal_opens : {E : Type 0} (old : HeldOpening) (held : List ℕ) (okays left offset : ℕ) (bytes : List ℕ) (result : Result (Step ⊤) E)
    → begins_okay held ≡ false → 0 < left → (old.okays + old.left ≤ 2 → OpensOn old (opening_of held okays left))
    → offset ≡ 4 * okays → bytes ≡ held
    → IfOk result (λ step. step ≡ refusal offset bytes)
    → IfOk result (λ step. old.okays + old.left ≤ 2 → Opened old step (opening_of held okays left))
refusal_opens old held okays left offset bytes (Ok step) lacks some on at same is =
    λ few. opens_not old held okays lacks left step some (on few) (is ∙ (λ i. refusal (at i) (same i)))
refusal_opens old held okays left offset bytes (Err error) lacks some on at same is = tt

pub opens_next : (old : HeldOpening) (held next : List ℕ) (okays more left now : ℕ) → begins_okay held ≡ true
    → next ≡ drop 4 held → more ≡ okays + 1
    → now + 1 ≡ left → OpensOn old (opening_of held okays left) → OpensOn old (opening_of next more now)
opens_next old held next okays more left now is cut counted one on =
    let there = opens_one old held okays is left now one on in
    let counts = subst (λ (n : ℕ). OpensOn old (opening_of (drop 4 held) n now)) (sym counted) there in
    subst (λ (b : List ℕ). OpensOn old (opening_of b more now)) (sym cut) counts
