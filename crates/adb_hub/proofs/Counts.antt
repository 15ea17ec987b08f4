-- How many rows a hub shows.
use Rattle.std.proofs.Common.{ℕ, ◌≡◌, ◌≤◌, Bool, true, false, cond, List, [], ◌∷◌, length, Option, Some, None, refl, sym, ◌∙◌, ap, subst}
use Rattle.std.proofs.Common.{arith, zero, suc}
use Rattle.std.specs.Prelude.{option_map}
use Rattle.std.specs.Map.{keys_of}
use Rattle.std.specs.Ordering.{nat_cmp, is_eq}
use Rattle.std.specs.List.Sorted.{IsStrictlySortedBy}
use Rattle.adb_outside.specs.Tables.{at, IsRising, Rows, listed, listed_at}
use Rattle.adb_outside.proofs.TableLaws.{same_table}
use Rattle.adb_history.specs.Orderly.{IsDrawnOnly}

-- a table with each row as another
abbrev mapped : {A B : Type 0} → (A → B) → List (ℕ × A) → List (ℕ × B)
mapped f [] = []
mapped f (e ∷ es) = (e.0, f e.1) ∷ mapped f es

mapped_keys : {A B : Type 0} (f : A → B) (es : List (ℕ × A)) → keys_of (mapped f es) ≡ keys_of es
mapped_keys f [] = refl
mapped_keys f (e ∷ es) = ap (λ (ks : List ℕ). e.0 ∷ ks) (mapped_keys f es)

mapped_at : {A B : Type 0} (f : A → B) (n : ℕ) (es : List (ℕ × A)) → at n (mapped f es) ≡ option_map f (at n es)
mapped_at f n [] = refl
mapped_at {A} {B} f n (e ∷ es) = go (is_eq (nat_cmp n e.0)) (mapped_at f n es)
  where
    go : (b : Bool) → at n (mapped f es) ≡ option_map f (at n es)
        → cond b (Some (f e.1)) (at n (mapped f es)) ≡ option_map f (cond b (Some e.1) (at n es))
    go true later = refl
    go false later = later

mapped_length : {A B : Type 0} (f : A → B) (es : List (ℕ × A)) → length (mapped f es) ≡ length es
mapped_length f [] = refl
mapped_length f (e ∷ es) = ap suc (mapped_length f es)

-- what is shown has as many rows as are kept
pub shown_count : {A B : Type 0} (f : A → B) (es : List (ℕ × A)) (k : ℕ) → IsRising es → IsDrawnOnly k (λ n. option_map f (at n es))
    → length es ≡ length (listed (λ n. option_map f (at n es)) 1 k)
shown_count f es k rises drawn =
    sym (mapped_length f es)
    ∙ ap length (same_table (mapped f es) (λ n. option_map f (at n es)) k
    (subst (IsStrictlySortedBy nat_cmp) (sym (mapped_keys f es)) rises)
    drawn.zero drawn.above (λ n. mapped_at f n es))

pub listed_count : {B : Type 0} (es : List (ℕ × B)) (k : ℕ) → IsRising es → IsDrawnOnly k (λ n. at n es)
    → length es ≡ length (listed (λ n. at n es) 1 k)
listed_count es k rises drawn = ap length (same_table es (λ n. at n es) k rises drawn.zero drawn.above (λ n. refl))

-- no more rows are shown than numbers were drawn
pub few : {B : Type 0} (rows : Rows (Option B)) (first k : ℕ) → length (listed rows first k) ≤ k
few rows first zero = omega arith
few {B} rows first (suc k) = go (rows first) (few rows (suc first) k)
  where
    go : (row : Option B) → length (listed rows (suc first) k) ≤ k → length (listed_at first row (listed rows (suc first) k)) ≤ suc k
    go None le = omega (arith, le)
    go (Some row) le = omega (arith, le)
