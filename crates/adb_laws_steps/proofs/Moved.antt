-- What steps moved is what was read, put, received and sent since.
use Rattle.std.specs.Prelude.{ℕ, ◌+◌, ◌≡◌, ◌≢◌, ◌≤◌, ◌<◌, ◌&&◌, not, zero, suc, Bool, true, false, cond, List, [], ◌∷◌, ◌++◌, length}
use Rattle.std.specs.Prelude.{Option, Some, None}
use Rattle.std.proofs.Common.{refl, sym, ap, arith, ◌∙◌, ◌⊎◌, inl, inr}
use Rattle.std.proofs.lemmas.Bool.{eq-eqb, ne_eqb, cases_lt, cases_eq}
use Rattle.std.proofs.lemmas.List.{length-append}
use Rattle.adb_capture.specs.declared.entry.Entry.TheVariants.{Read, Recv, Put, Send}
use Rattle.adb_history.specs.Book.{plugged_count}
use Rattle.adb_history.specs.Bytes.{is_lost, has_ended, bytes_read, bytes_put, bytes_received, bytes_sent}
use Rattle.adb_history.specs.Machine.{History, state, MayPut, IsLegal}
use Rattle.adb_history.specs.Orderly.{IsDrawnOnly}
use Rattle.adb_history.specs.Rows.{Client}
use Rattle.adb_history.specs.Tied.{came_count}
use Rattle.adb_history.proofs.Numbers.{counted}
use Rattle.adb_history.proofs.OwnedStep.{all_owned}
use Rattle.adb_laws_steps.specs.Sums.{sum_to}
use Rattle.adb_laws_steps.specs.Tolls.{puts_made}
use Rattle.adb_laws_steps.specs.Moved.{AreSteps, moved, handled, of_here, on_link}
use Rattle.adb_laws_steps.proofs.Sums.{sum_less}

-- ---- numbers that stand in a table were drawn
some_drawn : {A : Type 0} (drawn n : ℕ) (rows : ℕ → Option A) (row : A) → IsDrawnOnly drawn rows → rows n ≡ Some row → (0 < n) × (n ≤ drawn)
some_drawn drawn n rows row only is = (above (cases_eq n 0), within (cases_lt drawn n))
  where
    above : (n ≡ 0) ⊎ (n ≢ 0) → 0 < n
    above (inl e) = absurd (let clash : None ≡ Some row = sym only.zero ∙ (ap rows (sym e) ∙ is) in cc)
    above (inr other) = omega (arith, other)

    within : (drawn < n) ⊎ (n ≤ drawn) → n ≤ drawn
    within (inl past) = absurd (let clash : None ≡ Some row = sym (only.above n past) ∙ is in cc)
    within (inr le) = le

-- ---- what steps leave as it was
module _ (before : History) where
  pub came_same : (more : History) → AreSteps before more → came_count (more ++ before) ≡ came_count before
  came_same [] steps = refl
  came_same (Read c bytes ∷ more) steps = came_same more steps.0
  came_same (Put c bytes ∷ more) steps = came_same more steps.0
  came_same (Recv t bytes ∷ more) steps = came_same more steps.0
  came_same (Send t bytes ∷ more) steps = came_same more steps.0
  came_same _ steps = absurd steps

  pub plugged_same : (more : History) → AreSteps before more → plugged_count (more ++ before) ≡ plugged_count before
  plugged_same [] steps = refl
  plugged_same (Read c bytes ∷ more) steps = plugged_same more steps.0
  plugged_same (Put c bytes ∷ more) steps = plugged_same more steps.0
  plugged_same (Recv t bytes ∷ more) steps = plugged_same more steps.0
  plugged_same (Send t bytes ∷ more) steps = plugged_same more steps.0
  plugged_same _ steps = absurd steps

  lost_same : (more : History) → AreSteps before more → is_lost 1 (more ++ before) ≡ is_lost 1 before
  lost_same [] steps = refl
  lost_same (Read c bytes ∷ more) steps = lost_same more steps.0
  lost_same (Put c bytes ∷ more) steps = lost_same more steps.0
  lost_same (Recv t bytes ∷ more) steps = lost_same more steps.0
  lost_same (Send t bytes ∷ more) steps = lost_same more steps.0
  lost_same _ steps = absurd steps

  pub ended_same : (c : ℕ) (more : History) → AreSteps before more → has_ended c (more ++ before) ≡ has_ended c before
  ended_same c [] steps = refl
  ended_same c (Read n bytes ∷ more) steps = ended_same c more steps.0
  ended_same c (Put n bytes ∷ more) steps = ended_same c more steps.0
  ended_same c (Recv t bytes ∷ more) steps = ended_same c more steps.0
  ended_same c (Send t bytes ∷ more) steps = ended_same c more steps.0
  ended_same c _ steps = absurd steps

  -- a client whose input had ended reads no more and is put no more
  other_client : (c n : ℕ) → has_ended c before ≡ true → has_ended n before ≡ false → n ≢ c
  other_client c n ended open_yet same =
      let clash : true ≡ false = sym ended ∙ (ap (λ (k : ℕ). has_ended k before) (sym same) ∙ open_yet) in cc

  pub handled_same : (c : ℕ) → has_ended c before ≡ true → (more : History) → AreSteps before more
      → handled c (more ++ before) ≡ handled c before
  handled_same c ended [] steps = refl
  handled_same c ended (Read n bytes ∷ more) steps =
      ap (λ (b : Bool). length (cond b (bytes_read c (more ++ before) ++ bytes) (bytes_read c (more ++ before)))
      + length (bytes_put c (more ++ before)))
      (ne_eqb n c (other_client c n ended steps.2)) ∙ handled_same c ended more steps.0
  handled_same c ended (Put n bytes ∷ more) steps =
      ap (λ (b : Bool). length (bytes_read c (more ++ before))
      + length (cond b (bytes_put c (more ++ before) ++ bytes) (bytes_put c (more ++ before))))
      (ne_eqb n c (other_client c n ended steps.2)) ∙ handled_same c ended more steps.0
  handled_same c ended (Recv t bytes ∷ more) steps = handled_same c ended more steps.0
  handled_same c ended (Send t bytes ∷ more) steps = handled_same c ended more steps.0
  handled_same c ended _ steps = absurd steps

  pub put_same : (c : ℕ) → has_ended c before ≡ true → (more : History) → AreSteps before more
      → length (bytes_put c (more ++ before)) ≡ length (bytes_put c before)
  put_same c ended [] steps = refl
  put_same c ended (Put n bytes ∷ more) steps =
      ap (λ (b : Bool). length (cond b (bytes_put c (more ++ before) ++ bytes) (bytes_put c (more ++ before))))
      (ne_eqb n c (other_client c n ended steps.2)) ∙ put_same c ended more steps.0
  put_same c ended (Read n bytes ∷ more) steps = put_same c ended more steps.0
  put_same c ended (Recv t bytes ∷ more) steps = put_same c ended more steps.0
  put_same c ended (Send t bytes ∷ more) steps = put_same c ended more steps.0
  put_same c ended _ steps = absurd steps

has_byte : (l : List ℕ) → l ≢ [] → 1 ≤ length l
has_byte [] some = absurd (some refl)
has_byte (b ∷ l) some = omega arith

-- each step moves a byte at least
pub steps_move : (before more : History) → AreSteps before more → length more ≤ moved more
steps_move before [] steps = omega arith
steps_move before (Read c bytes ∷ more) steps =
    let later = steps_move before more steps.0 in let some = has_byte bytes steps.1 in omega (arith, later, some)
steps_move before (Put c bytes ∷ more) steps =
    let later = steps_move before more steps.0 in let some = has_byte bytes steps.1 in omega (arith, later, some)
steps_move before (Recv t bytes ∷ more) steps =
    let later = steps_move before more steps.0 in let some = has_byte bytes steps.1 in omega (arith, later, some)
steps_move before (Send t bytes ∷ more) steps =
    let later = steps_move before more steps.0 in let some = has_byte bytes steps.1 in omega (arith, later, some)
steps_move before _ steps = absurd steps

-- ---- one client has more
module _ (before : History) (here : is_lost 1 before ≡ false) where
  put_drawn : (older : History) → IsLegal older → (c : ℕ) (bytes : List ℕ) (o : Option Client)
      → (state older).clients c ≡ o → MayPut (state older) o bytes
      → (0 < c) × (c ≤ (state older).joined)
  put_drawn older legal c bytes None is may = absurd may
  put_drawn older legal c bytes (Some client) is may =
      some_drawn (state older).joined c (state older).clients client (all_owned older legal).rows.clients is

  -- what was read of clients and put to them
  abbrev all_handled : History → ℕ
  all_handled h = sum_to (λ c. handled c h) (came_count before)

  abbrev all_put : History → ℕ
  all_put h = sum_to (λ c. length (bytes_put c h)) (came_count before)

  read_more : (older : History) (c : ℕ) (bytes : List ℕ) → 0 < c → c ≤ came_count before
      → all_handled older + length bytes ≤ all_handled (Read c bytes ∷ older)
  read_more older c bytes some le =
      sum_less (λ k. handled k (Read c bytes ∷ older)) (λ k. handled k older) c (length bytes) (came_count before) others mine some le
    where
      others : (k : ℕ) → k ≢ c → handled k older ≡ handled k (Read c bytes ∷ older)
      others k other =
          sym (ap (λ (b : Bool). length (cond b (bytes_read k older ++ bytes) (bytes_read k older)) + length (bytes_put k older))
          (ne_eqb c k (λ same. other (sym same))))

      mine : handled c older + length bytes ≤ handled c (Read c bytes ∷ older)
      mine =
          let e = ap (λ (b : Bool). length (cond b (bytes_read c older ++ bytes) (bytes_read c older))) (eq-eqb c c refl) in
          let sum = length-append (bytes_read c older) bytes in
          omega (arith, e, sum)

  put_more : (older : History) (c : ℕ) (bytes : List ℕ) → 0 < c → c ≤ came_count before
      → all_handled older + length bytes ≤ all_handled (Put c bytes ∷ older)
  put_more older c bytes some le =
      sum_less (λ k. handled k (Put c bytes ∷ older)) (λ k. handled k older) c (length bytes) (came_count before) others mine some le
    where
      others : (k : ℕ) → k ≢ c → handled k older ≡ handled k (Put c bytes ∷ older)
      others k other =
          sym (ap (λ (b : Bool). length (bytes_read k older) + length (cond b (bytes_put k older ++ bytes) (bytes_put k older)))
          (ne_eqb c k (λ same. other (sym same))))

      mine : handled c older + length bytes ≤ handled c (Put c bytes ∷ older)
      mine =
          let e = ap (λ (b : Bool). length (cond b (bytes_put c older ++ bytes) (bytes_put c older))) (eq-eqb c c refl) in
          let sum = length-append (bytes_put c older) bytes in
          omega (arith, e, sum)

  puts_more : (older : History) (c : ℕ) (bytes : List ℕ) → 0 < c → c ≤ came_count before
      → all_put older + length bytes ≤ all_put (Put c bytes ∷ older)
  puts_more older c bytes some le =
      sum_less (λ k. length (bytes_put k (Put c bytes ∷ older))) (λ k. length (bytes_put k older)) c (length bytes)
      (came_count before) others mine some le
    where
      others : (k : ℕ) → k ≢ c → length (bytes_put k older) ≡ length (bytes_put k (Put c bytes ∷ older))
      others k other =
          sym (ap (λ (b : Bool). length (cond b (bytes_put k older ++ bytes) (bytes_put k older))) (ne_eqb c k (λ same. other (sym same))))

      mine : length (bytes_put c older) + length bytes ≤ length (bytes_put c (Put c bytes ∷ older))
      mine =
          let e = ap (λ (b : Bool). length (cond b (bytes_put c older ++ bytes) (bytes_put c older))) (eq-eqb c c refl) in
          let sum = length-append (bytes_put c older) bytes in
          omega (arith, e, sum)

  pub moves_counted : (more : History) → IsLegal (more ++ before) → AreSteps before more
      → moved more + all_handled before + on_link before ≤ all_handled (more ++ before) + on_link (more ++ before)
  moves_counted [] legal steps = omega arith
  moves_counted (Read c bytes ∷ more) legal steps =
      let older = moves_counted more legal.0 steps.0 in
      let drawn = legal.2.1 in
      let le = drawn.1 in
      let joined = (counted (more ++ before)).joined in
      let came = came_same before more steps.0 in
      let grown = read_more (more ++ before) c bytes drawn.0 (omega (arith, le, joined, came)) in
      omega (arith, older, grown)
  moves_counted (Put c bytes ∷ more) legal steps =
      let older = moves_counted more legal.0 steps.0 in
      let drawn = put_drawn (more ++ before) legal.0 c bytes ((state (more ++ before)).clients c) refl legal.2 in
      let le = drawn.1 in
      let joined = (counted (more ++ before)).joined in
      let came = came_same before more steps.0 in
      let grown = put_more (more ++ before) c bytes drawn.0 (omega (arith, le, joined, came)) in
      omega (arith, older, grown)
  moves_counted (Recv t bytes ∷ more) legal steps =
      let older = moves_counted more legal.0 steps.0 in
      let all : bytes_received 1 (Recv t bytes ∷ (more ++ before)) ≡ bytes_received 1 (more ++ before) ++ bytes =
      ap (λ (b : Bool). cond (b && not (is_lost 1 (more ++ before))) (bytes_received 1 (more ++ before) ++ bytes)
      (bytes_received 1 (more ++ before)))
      (eq-eqb t 1 steps.2)
      ∙ ap (λ (b : Bool). cond (not b) (bytes_received 1 (more ++ before) ++ bytes) (bytes_received 1 (more ++ before)))
      (lost_same before more steps.0 ∙ here) in
      let size = ap (length {A = ℕ}) all in
      let sum = length-append (bytes_received 1 (more ++ before)) bytes in
      omega (arith, older, size, sum)
  moves_counted (Send t bytes ∷ more) legal steps =
      let older = moves_counted more legal.0 steps.0 in
      let all : bytes_sent 1 (Send t bytes ∷ (more ++ before)) ≡ bytes_sent 1 (more ++ before) ++ bytes =
      ap (λ (b : Bool). cond b (bytes_sent 1 (more ++ before) ++ bytes) (bytes_sent 1 (more ++ before))) (eq-eqb t 1 steps.2) in
      let size = ap (length {A = ℕ}) all in
      let sum = length-append (bytes_sent 1 (more ++ before)) bytes in
      omega (arith, older, size, sum)
  moves_counted _ legal steps = absurd steps

  -- what was put has bytes
  pub puts_within : (more : History) → IsLegal (more ++ before) → AreSteps before more
      → puts_made (more ++ before) + all_put before ≤ puts_made before + all_put (more ++ before)
  puts_within [] legal steps = omega arith
  puts_within (Read c bytes ∷ more) legal steps = puts_within more legal.0 steps.0
  puts_within (Recv t bytes ∷ more) legal steps = puts_within more legal.0 steps.0
  puts_within (Send t bytes ∷ more) legal steps = puts_within more legal.0 steps.0
  puts_within (Put c bytes ∷ more) legal steps =
      let older = puts_within more legal.0 steps.0 in
      let drawn = put_drawn (more ++ before) legal.0 c bytes ((state (more ++ before)).clients c) refl legal.2 in
      let le = drawn.1 in
      let joined = (counted (more ++ before)).joined in
      let came = came_same before more steps.0 in
      let some = has_byte bytes steps.1 in
      let grown = puts_more (more ++ before) c bytes drawn.0 (omega (arith, le, joined, came)) in
      omega (arith, older, grown, some)
  puts_within _ legal steps = absurd steps

-- ---- clients whose input had not ended pay
module _ (before more : History) (steps : AreSteps before more) where
  pub handled_here : (n : ℕ) → sum_to (λ c. handled c (more ++ before)) n
      ≤ sum_to (λ c. handled c before) n + sum_to (λ c. of_here before c (handled c (more ++ before))) n
  handled_here zero = omega arith
  handled_here (suc n) =
      let below = handled_here n in
      let one = go (has_ended (suc n) before) refl in
      omega (arith, below, one)
    where
      go : (b : Bool) → has_ended (suc n) before ≡ b
          → handled (suc n) (more ++ before) ≤ handled (suc n) before + cond b 0 (handled (suc n) (more ++ before))
      go true is = let same = handled_same before (suc n) is more steps in omega (arith, same)
      go false is = omega arith

  pub put_here : (n : ℕ) → sum_to (λ c. length (bytes_put c (more ++ before))) n
      ≤ sum_to (λ c. length (bytes_put c before)) n + sum_to (λ c. of_here before c (length (bytes_put c (more ++ before)))) n
  put_here zero = omega arith
  put_here (suc n) =
      let below = put_here n in
      let one = go (has_ended (suc n) before) refl in
      omega (arith, below, one)
    where
      go : (b : Bool) → has_ended (suc n) before ≡ b
          → length (bytes_put (suc n) (more ++ before)) ≤ length (bytes_put (suc n) before)
          + cond b 0 (length (bytes_put (suc n) (more ++ before)))
      go true is = let same = put_same before (suc n) is more steps in omega (arith, same)
      go false is = omega arith

-- ---- steps behind steps
pub steps_both : (before more even : History) → AreSteps before more → AreSteps (more ++ before) even → AreSteps before (even ++ more)
steps_both before more [] steps later = steps
steps_both before more (Read c bytes ∷ even) steps later =
    (steps_both before more even steps later.0, later.1, sym (ended_same before c more steps) ∙ later.2)
steps_both before more (Put c bytes ∷ even) steps later =
    (steps_both before more even steps later.0, later.1, sym (ended_same before c more steps) ∙ later.2)
steps_both before more (Recv t bytes ∷ even) steps later = (steps_both before more even steps later.0, later.1, later.2)
steps_both before more (Send t bytes ∷ even) steps later = (steps_both before more even steps later.0, later.1, later.2)
steps_both before more _ steps later = absurd later
