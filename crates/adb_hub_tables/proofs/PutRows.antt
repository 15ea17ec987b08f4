-- A row that is put, as tables show it.
use Rattle.std.proofs.Common.{ℕ, ◌≡◌, ◌≢◌, Bool, true, false, cond, eqb, List, Option, Some, refl, sym, ◌∙◌, ap, subst, ◌⊎◌, inl, inr}
use Rattle.std.specs.Prelude.{option_map}
use Rattle.std.proofs.lemmas.Bool.{cases_eq}
use Rattle.adb_outside.specs.Tables.{at, Puts, put_row}
use Rattle.adb_hub_tables.proofs.Rows.{rows_put}

module _ {X : Type 0} where
  -- what is shown of a table with another row at a number
  pub shown_put : {Y : Type 0} (f : X → Y) (n : ℕ) (row : X) (old new : List (ℕ × X)) → Puts n (Some row) old new
      → (λ k. option_map f (at k new)) ≡ put_row n (Some (f row)) (λ k. option_map f (at k old))
  shown_put f n row old new h i k = at_place k i
    where
      by_test : (k : ℕ) (here : Bool) → option_map f (cond here (Some row) (at k old)) ≡ cond here (Some (f row)) (option_map f (at k old))
      by_test k true = refl
      by_test k false = refl

      at_place : (k : ℕ) → option_map f (at k new) ≡ put_row n (Some (f row)) (λ k. option_map f (at k old)) k
      at_place k = ap (option_map f) (λ j. rows_put n (Some row) old new h j k) ∙ by_test k (eqb n k)

  -- what holds of all rows, and of the one that is put, holds of all rows then
  pub holds_put : (P : ℕ → Option X → Type 0) (n : ℕ) (row : Option X) (old new : List (ℕ × X)) → Puts n row old new × P n row
      → ((k : ℕ) → P k (at k old)) → (k : ℕ) → P k (at k new)
  holds_put P n row old new h all k = by_place (cases_eq k n)
    where
      by_place : (k ≡ n) ⊎ (k ≢ n) → P k (at k new)
      by_place (inl here) = subst (λ (q : ℕ). P q (at q new)) (sym here) (subst (P n) (sym h.0.here) h.1)
      by_place (inr other) = subst (P k) (sym (h.0.others k other)) (all k)
