-- Rules one after another, what stands at a changed row, and tests.
use Rattle.std.proofs.Common.{◌≡◌, ◌≢◌, ℕ, Bool, true, false, cond, List, ◌++◌, Option, Some, None, refl, sym, ap, subst, append_assoc}
use Rattle.std.proofs.lemmas.Bool.{eq-eqb, ne_eqb}
use Rattle.std.proofs.lemmas.List.{append-nil}
use Rattle.std.specs.Prelude.{option_and_then}
use Rattle.adb_outside.specs.Tables.{Rows, change_row}
use Rattle.adb_history.specs.Rows.{State}
use Rattle.adb_history.specs.Events.{Made, Event, quietly, then_also}
use Rattle.adb_history.specs.Moves.{After}

module _ (P : State → List Event → Type 0) where
  pub after_quietly : (w : List Event) (s : State) → P s w → After P w (quietly s)
  after_quietly w s h = subst (λ (v : List Event). P s v) (sym (append-nil w)) h

  -- one rule after another
  pub after_then : (w : List Event) (m : Made) (rule : State → Made) → After P w m
      → ((v : List Event) → P m.state v → After P v (rule m.state)) → After P w (then_also m rule)
  after_then w m rule h next =
      subst (λ (v : List Event). P (rule m.state).state v) (append_assoc w m.told (rule m.state).told) (next (w ++ m.told) h)

  -- by a test
  pub after_if : (w : List Event) (b : Bool) (m n : Made) → (b ≡ true → After P w m) → (b ≡ false → After P w n) → After P w (cond b m n)
  after_if w true m n one other = one refl
  after_if w false m n one other = other refl

-- ---- what stands at a changed row
pub changed_here : {A : Type 0} (n : ℕ) (f : A → Option A) (rows : Rows (Option A)) (row : A) → rows n ≡ Some row
    → change_row n (option_and_then f) rows n ≡ f row
changed_here n f rows row is = rw (eq-eqb n n refl) (ap (option_and_then f) is)

pub changed_none : {A : Type 0} (n : ℕ) (f : A → Option A) (rows : Rows (Option A)) → rows n ≡ None
    → change_row n (option_and_then f) rows n ≡ None
changed_none n f rows is = rw (eq-eqb n n refl) (ap (option_and_then f) is)

pub changed_other : {A : Type 0} (n k : ℕ) (f : A → Option A) (rows : Rows (Option A)) → n ≢ k
    → change_row n (option_and_then f) rows k ≡ rows k
changed_other n k f rows apart = rw (ne_eqb n k apart) refl
