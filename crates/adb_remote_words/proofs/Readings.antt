-- An answer, piece by piece.
use Rattle.std.proofs.Common.{ℕ, zero, suc, ◌+◌, ◌-◌, ◌*◌, ◌≡◌, ◌≤◌, ◌<◌, min, List, [], ◌∷◌, ◌++◌, length, take, drop, cond, Bool, true}
use Rattle.std.proofs.Common.{false, Result, Ok, Err, refl, sym, ◌∙◌, ap, subst, arith, append_assoc}
use Rattle.std.specs.Prelude.{⊤, nat_lt, IfOk}
use Rattle.std.proofs.lemmas.Bool.Decides.{nat_tests}
use Rattle.std.proofs.lemmas.List.{append-nil, length-append, length-take, length-drop, drop-append-le, take-append-drop, take_all}
use Rattle.adb_sync_client.specs.declared.step.Step.{Step}
use Rattle.adb_sync_client.specs.declared.step.Step.TheVariants.{More, Done, Refused, BadAnswer}
use Rattle.adb_remote_words.specs.declared.body.Body.{Body}
use Rattle.adb_remote_words.specs.declared.reading.TheConstants.{MAX_ANSWER}
use Rattle.adb_remote_words.specs.declared.remote.Remote.{Remote}
use Rattle.adb_remote_words.specs.declared.remote.Remote.TheVariants.{Devices, Push, Pull, Shell, Wait}
use Rattle.adb_remote_words.specs.declared.remote.Outcome.{Outcome}
use Rattle.adb_remote_words.specs.Held.{HeldOpening}
use Rattle.adb_remote_words.specs.Meaning.{body_step, opened, answer_step, limited_at}
use Rattle.adb_remote_words.specs.Outcome.{answer_so_far}
use Rattle.adb_remote_words.specs.Words.{begins_okay, requests, okays_at}
use Rattle.adb_remote_words.specs.Reading.{HeldAnswer, BodyStands, HasFed, or_behind, Opened, Means, Follows, ReadingStands, HasRead}
use Rattle.adb_remote_words.proofs.Openings.{okay_same}

no_okay : (a : ℕ) → a + 0 ≡ a
no_okay a = omega arith

-- ---- behind the OKAYs
module _ (job : Remote) (fed piece : List ℕ) (o : HeldOpening) (old new : Body) (step : Step Outcome)
    (h : Means job fed o old) (none : o.left ≡ 0)
    (feeds : (f : List ℕ) → BodyStands job f old → HasFed job (f ++ piece) step new) where
  behind_all : (more : List ℕ) → answer_step job (fed ++ (piece ++ more)) ≡ body_step job (h.behind ++ (piece ++ more))
  behind_all more = h.means (piece ++ more) ∙ ap (λ n. opened (4 * o.okays) n (body_step job) (h.behind ++ (piece ++ more))) none

  okays_all : (more : List ℕ) → okays_at (requests job) (fed ++ (piece ++ more)) ≡ o.okays
  okays_all more = h.okays (piece ++ more) ∙ (ap (λ n. o.okays + okays_at n (h.behind ++ (piece ++ more))) none ∙ no_okay o.okays)

  pub follows_body : Follows job (fed ++ piece) step o new
  follows_body =
      let done = feeds h.behind (h.open_body none) in
      record {
        now = done.now ∙ (sym (h.means piece ∙ ap (λ n. opened (4 * o.okays) n (body_step job) (h.behind ++ piece)) none));
        okays = sym (h.okays piece ∙ (ap (λ n. o.okays + okays_at n (h.behind ++ piece)) none ∙ no_okay o.okays));
        stands = λ more_yet. record {
          behind = h.behind ++ piece;
          means = λ more. ap (answer_step job) (append_assoc fed piece more)
              ∙ (behind_all more ∙ (ap (body_step job) (sym (append_assoc h.behind piece more))
              ∙ sym (ap (λ n. opened (4 * o.okays) n (body_step job) ((h.behind ++ piece) ++ more)) none)));
          okays = λ more. ap (okays_at (requests job)) (append_assoc fed piece more)
              ∙ (okays_all more ∙ (sym (no_okay o.okays) ∙ sym (ap (λ n. o.okays + okays_at n ((h.behind ++ piece) ++ more)) none)));
          opening = λ some. absurd (omega (arith, some, none));
          open_body = λ e. done.stands more_yet;
          sum = h.sum;
        };
      }

-- ---- the OKAYs
module _ (job : Remote) (fed piece : List ℕ) (old new : HeldOpening) (body : Body) (told : Step ⊤)
    (h : Means job fed old body) (some : 0 < old.left)
    (opens : old.okays + old.left ≤ 2 → Opened (record old { held = old.held ++ piece }) told new) where
  o : Opened (record old { held = old.held ++ piece }) told new
  o = opens h.sum

  at_held : (more : List ℕ) → h.behind ++ (piece ++ more) ≡ (old.held ++ piece) ++ more
  at_held more = ap (λ b. b ++ (piece ++ more)) (h.opening some).0 ∙ sym (append_assoc old.held piece more)

  means_on : (more : List ℕ) → answer_step job ((fed ++ piece) ++ more)
      ≡ or_behind (λ refused. refused) told (opened (4 * new.okays) new.left (body_step job) (new.held ++ more))
  means_on more =
      ap (answer_step job) (append_assoc fed piece more)
      ∙ (h.means (piece ++ more) ∙ (ap (opened (4 * old.okays) old.left (body_step job)) (at_held more) ∙ o.means (body_step job) more))

  okays_on : (more : List ℕ) → okays_at (requests job) ((fed ++ piece) ++ more)
      ≡ or_behind (λ refused. new.okays) told (new.okays + okays_at new.left (new.held ++ more))
  okays_on more =
      ap (okays_at (requests job)) (append_assoc fed piece more)
      ∙ (h.okays (piece ++ more) ∙ (ap (λ b. old.okays + okays_at old.left b) (at_held more) ∙ o.okays more))

  means_at : (t : Step ⊤) → told ≡ t → (more : List ℕ) → answer_step job ((fed ++ piece) ++ more)
      ≡ or_behind (λ refused. refused) t (opened (4 * new.okays) new.left (body_step job) (new.held ++ more))
  means_at t is more =
      means_on more
      ∙ ap (λ t. or_behind (λ refused. refused) t
      (opened (4 * new.okays) new.left (body_step job) (new.held ++ more))) is

  okays_come : (t : Step ⊤) → told ≡ t → (more : List ℕ) → okays_at (requests job) ((fed ++ piece) ++ more)
      ≡ or_behind (λ refused. new.okays) t (new.okays + okays_at new.left (new.held ++ more))
  okays_come t is more = okays_on more ∙ ap (λ t. or_behind (λ refused. new.okays) t (new.okays + okays_at new.left (new.held ++ more))) is

  means_now : (t : Step ⊤) → told ≡ t
      → answer_step job (fed ++ piece) ≡ or_behind (λ refused. refused) t (opened (4 * new.okays) new.left (body_step job) new.held)
  means_now t is =
      ap (answer_step job) (sym (append-nil (fed ++ piece)))
      ∙ (means_at t is []
      ∙ ap (λ b. or_behind (λ refused. refused) t (opened (4 * new.okays) new.left (body_step job) b))
      (append-nil new.held))

  okays_now : (t : Step ⊤) → told ≡ t
      → okays_at (requests job) (fed ++ piece) ≡ or_behind (λ refused. new.okays) t (new.okays + okays_at new.left new.held)
  okays_now t is =
      ap (okays_at (requests job)) (sym (append-nil (fed ++ piece)))
      ∙ (okays_come t is [] ∙ ap (λ b. or_behind (λ refused. new.okays) t (new.okays + okays_at new.left b)) (append-nil new.held))

  pub follows_refused : (text : List ℕ) → told ≡ Refused text → Follows job (fed ++ piece) (Refused text) new body
  follows_refused text is =
      record { now = sym (means_now (Refused text) is); okays = sym (okays_now (Refused text) is); stands = λ e. cc }

  pub follows_bad : (offset : ℕ) → told ≡ BadAnswer offset → Follows job (fed ++ piece) (BadAnswer offset) new body
  follows_bad offset is =
      record { now = sym (means_now (BadAnswer offset) is); okays = sym (okays_now (BadAnswer offset) is); stands = λ e. cc }

  pub follows_more : told ≡ More → Follows job (fed ++ piece) More new body
  follows_more is = record {
    now = sym (means_now More is ∙ o.undecided is (body_step job));
    okays = sym (okays_now More is ∙ (ap (λ n. new.okays + n) (o.none_here is) ∙ no_okay new.okays));
    stands = λ e. record {
      behind = new.held;
      means = means_at More is;
      okays = okays_come More is;
      opening = λ s. (refl, (h.opening some).1);
      open_body = λ z. absurd (omega (arith, o.waits is, z));
      sum = omega (arith, o.sum, h.sum);
    };
  }

  pub follows_done : (x : ⊤) → told ≡ Done x → (step : Step Outcome) (next : Body)
      → (BodyStands job [] body → HasFed job ([] ++ new.held) step next)
      → Follows job (fed ++ piece) step new next
  follows_done x is step next feeds =
      let none = o.done x is in
      let done = feeds (h.opening some).1 in
      record {
        now = done.now ∙ sym (means_now (Done x) is ∙ ap (λ n. opened (4 * new.okays) n (body_step job) new.held) none);
        okays = sym (okays_now (Done x) is ∙ (ap (λ n. new.okays + okays_at n new.held) none ∙ no_okay new.okays));
        stands = λ more_yet. record {
          behind = new.held;
          means = means_at (Done x) is;
          okays = okays_come (Done x) is;
          opening = λ s. absurd (omega (arith, s, none));
          open_body = λ z. done.stands more_yet;
          sum = omega (arith, o.sum, h.sum);
        };
      }

-- ---- the same of calls' answers
pub none_open : (n : ℕ) → nat_lt 0 n ≡ false → n ≡ 0
none_open n e = grind (arith, nat_tests, e)

pub some_open : (n : ℕ) → nat_lt 0 n ≡ true → 0 < n
some_open n e = grind (arith, nat_tests, e)

abbrev pub answer_of : HeldOpening → Body → ℕ → HeldAnswer
answer_of o body count = record { opening = o; body = body; count = count }

pub means_in : (job : Remote) (fed : List ℕ) (o : HeldOpening) (body : Body) (count : ℕ) (r : HeldAnswer) → answer_of o body count ≡ r
    → Means job fed r.opening r.body → Means job fed o body
means_in job fed o body count r view h = subst (λ (r : HeldAnswer). Means job fed r.opening r.body) (sym view) h

module _ {E : Type 0} (job : Remote) (piece : List ℕ) (o : HeldOpening) (body : Body) (count : ℕ) (r : HeldAnswer)
    (view : answer_of o body count ≡ r) where
  pub within_body : (next : Body) (result : Result (Step Outcome) E) → o.left ≡ 0
      → IfOk result (λ step. (f : List ℕ) → BodyStands job f body → HasFed job (f ++ piece) step next)
      → IfOk result (λ step. (fed : List ℕ) → Means job fed r.opening r.body → Follows job (fed ++ piece) step o next)
  within_body next (Ok step) none feeds =
      λ fed h. follows_body job fed piece o body next step (means_in job fed o body count r view h) none feeds
  within_body next (Err error) none feeds = tt

  pub within_done : (new : HeldOpening) (next : Body) (told : Step ⊤) (x : ⊤) (held : List ℕ)
      (result : Result (Step Outcome) E) → 0 < o.left
      → (o.okays + o.left ≤ 2 → Opened (record o { held = o.held ++ piece }) told new) → told ≡ Done x → held ≡ new.held
      → IfOk result (λ step. (f : List ℕ) → BodyStands job f body → HasFed job (f ++ held) step next)
      → IfOk result (λ step. (fed : List ℕ) → Means job fed r.opening r.body → Follows job (fed ++ piece) step new next)
  within_done new next told x held (Ok step) some opens is same feeds =
      λ fed h. follows_done job fed piece o new body told (means_in job fed o body count r view h) some opens x is step next
      (λ stands. subst (λ (b : List ℕ). HasFed job ([] ++ b) step next) same (feeds [] stands))
  within_done new next told x held (Err error) some opens is same feeds = tt

-- ---- no byte was read yet
okays_none : (n : ℕ) → okays_at n [] ≡ 0
okays_none zero = refl
okays_none (suc n) = refl

undecided_yet : (job : Remote) → answer_so_far job [] ≡ More
undecided_yet Devices = refl
undecided_yet (Wait serial state) = refl
undecided_yet (Push path mtime bytes) = refl
undecided_yet (Pull path) = refl
undecided_yet (Shell command) = refl

zero_on : (n : ℕ) → n ≡ 0 + n
zero_on n = omega arith

few : (job : Remote) → requests job ≤ 2
few Devices = omega arith
few (Wait serial state) = omega arith
few (Push path mtime bytes) = omega arith
few (Pull path) = omega arith
few (Shell command) = omega arith

first_of_all : (job : Remote) (body : Body) → BodyStands job [] body
    → ReadingStands job [] (answer_of (record { held = []; okays = 0; left = requests job }) body 0)
first_of_all job body stands = record {
  means = record {
    behind = [];
    means = λ more. refl;
    okays = λ more. zero_on (okays_at (requests job) more);
    opening = λ some. (refl, stands);
    open_body = λ none. stands;
    sum = omega (arith, few job);
  };
  count = refl;
  within = omega arith;
  okays = sym (okays_none (requests job));
  undecided = undecided_yet job;
}

pub reading_none : (job : Remote) (o : HeldOpening) (n : ℕ) (body : Body) → o ≡ record { held = []; okays = 0; left = n } → n ≡ requests job
    → BodyStands job [] body → ReadingStands job [] (answer_of o body 0)
reading_none job o n body is counted stands =
    let at = subst (λ (k : ℕ). ReadingStands job [] (answer_of (record { held = []; okays = 0; left = k }) body 0)) (sym counted)
    (first_of_all job body stands) in
    subst (λ (h : HeldOpening). ReadingStands job [] (answer_of h body 0)) (sym is) at

-- ---- the bytes that are looked at
-- the OKAYs are among the first bytes
pub okays_stay : (n : ℕ) (x y : List ℕ) → 4 * n ≤ length x → okays_at n (x ++ y) ≡ okays_at n x
okays_stay zero x y fits = refl
okays_stay (suc n) x y fits =
    let four : 4 ≤ length x = omega (arith, fits) in
    let rest = okays_stay n (drop 4 x) y (omega (arith, fits, length-drop 4 x)) in
    (λ i. cond (okay_same x y four i) (1 + okays_at n (drop-append-le 4 x y four i)) 0) ∙ ap (λ k. cond (begins_okay x) (1 + k) 0) rest

past_most : (have room n all : ℕ) → have + room ≡ MAX_ANSWER → n ≡ min room all → nat_lt MAX_ANSWER (have + all) ≡ nat_lt n all
past_most have room n all sum is = grind (arith, nat_tests)

pub take_behind : (x y : List ℕ) (room all : ℕ) → length x + room ≡ all → take all (x ++ y) ≡ x ++ take room y
take_behind [] y room all sum = let same : all ≡ room = omega (arith, sum) in ap (λ k. take k y) same
take_behind (b ∷ x) y room zero sum = absurd (omega (arith, sum))
take_behind (b ∷ x) y room (suc all) sum = ap (λ l. b ∷ l) (take_behind x y room all (omega (arith, sum)))

take_min : (room : ℕ) (y : List ℕ) → take (min room (length y)) y ≡ take room y
take_min room y = go (nat_lt room (length y)) refl
  where
    go : (t : Bool) → nat_lt room (length y) ≡ t → take (min room (length y)) y ≡ take room y
    go true is = let same : min room (length y) ≡ room = grind (arith, nat_tests) in ap (λ k. take k y) same
    go false is =
        let same : min room (length y) ≡ length y = grind (arith, nat_tests) in
        ap (λ k. take k y) same ∙ (take_all (length y) y (omega arith) ∙ sym (take_all room y (grind (arith, nat_tests))))

never_more : (s : Step Outcome) (past : Bool) → limited_at past s ≡ More → (past ≡ false) × (s ≡ More)
never_more s false e = (refl, e)
never_more More true e = cc
never_more (Done outcome) true e = cc
never_more (Refused text) true e = cc
never_more (BadAnswer offset) true e = cc

-- a piece was read of which so many bytes are looked at
pub reads_piece : (job : Remote) (fed piece : List ℕ) (old : HeldAnswer) (n : ℕ) (step : Step Outcome)
    (o : HeldOpening) (body : Body) (count : ℕ)
    → ReadingStands job fed old → n ≡ min (MAX_ANSWER - old.count) (length piece) → count ≡ old.count + n
    → Follows job (fed ++ take n piece) step o body
    → HasRead job (fed ++ piece) (limited_at (nat_lt n (length piece)) step) (record { opening = o; body = body; count = count })
reads_piece job fed piece old n step o body count h is counted f =
    let sum : length fed + (MAX_ANSWER - old.count) ≡ MAX_ANSWER = omega (arith, h.count, h.within) in
    let past : nat_lt MAX_ANSWER (length (fed ++ piece)) ≡ nat_lt n (length piece) =
    ap (nat_lt MAX_ANSWER) (length-append fed piece) ∙ past_most (length fed) (MAX_ANSWER - old.count) n (length piece) sum is in
    let looked : take MAX_ANSWER (fed ++ piece) ≡ fed ++ take n piece =
    take_behind fed piece (MAX_ANSWER - old.count) MAX_ANSWER sum
    ∙ ap (λ l. fed ++ l) (sym (ap (λ k. take k piece) is ∙ take_min (MAX_ANSWER - old.count) piece)) in
    let so_far : limited_at (nat_lt n (length piece)) step ≡ answer_so_far job (fed ++ piece) =
    (λ i. limited_at (sym past i) (f.now i))
    ∙ ap (λ l. limited_at (nat_lt MAX_ANSWER (length (fed ++ piece))) (answer_step job l)) (sym looked) in
    record {
      now = so_far;
      okays = f.okays ∙ go (nat_lt n (length piece)) refl;
      stands = λ more_yet. stands more_yet (never_more step (nat_lt n (length piece)) more_yet) so_far;
    }
  where
    whole : nat_lt n (length piece) ≡ false → fed ++ take n piece ≡ fed ++ piece
    whole past = ap (λ l. fed ++ l) (take_all n piece (grind (arith, nat_tests, past, is)))

    go : (t : Bool) → nat_lt n (length piece) ≡ t → okays_at (requests job) (fed ++ take n piece) ≡ okays_at (requests job) (fed ++ piece)
    go false past = ap (okays_at (requests job)) (whole past)
    go true past =
        let n_is : n ≡ MAX_ANSWER - old.count = grind (arith, nat_tests, past, is) in
        let long : 4 * requests job ≤ length (fed ++ take n piece) =
        omega (arith, few job, length-append fed (take n piece), length-take n piece, n_is, is, h.count, h.within) in
        sym (okays_stay (requests job) (fed ++ take n piece) (drop n piece) long)
        ∙ ap (okays_at (requests job)) (append_assoc fed (take n piece) (drop n piece) ∙ ap (λ l. fed ++ l) (take-append-drop n piece))

    stands : limited_at (nat_lt n (length piece)) step ≡ More → (nat_lt n (length piece) ≡ false) × (step ≡ More)
        → limited_at (nat_lt n (length piece)) step ≡ answer_so_far job (fed ++ piece)
        → ReadingStands job (fed ++ piece) (record { opening = o; body = body; count = count })
    stands more_yet both so_far =
        let all : fed ++ take n piece ≡ fed ++ piece = whole both.0 in
        let size : n ≡ length piece = grind (arith, nat_tests, both.0, is) in
        record {
          means = subst (λ l. Means job l o body) all (f.stands both.1);
          count = omega (arith, counted, size, h.count, length-append fed piece);
          within = omega (arith, length-append fed piece, size, is, h.count, h.within);
          okays = f.okays ∙ ap (okays_at (requests job)) all;
          undecided = sym so_far ∙ more_yet;
        }
