-- Tables, as functions from numbers.
use Rattle.std.proofs.Common.{ℕ, ◌≡◌, ◌≢◌, List, Option, sym, ◌∙◌, ap, cond, eqb, ◌⊎◌, inl, inr}
use Rattle.std.specs.Prelude.{option_and_then}
use Rattle.std.proofs.lemmas.Bool.{ne_eqb, eq-eqb, cases_eq}
use Rattle.adb_outside.specs.Tables.{at, Puts, put_row, change_row}

module _ {X : Type 0} where
  -- what a table with another row at a number shows
  pub rows_put : (n : ℕ) (row : Option X) (old new : List (ℕ × X)) → Puts n row old new → (λ k. at k new) ≡ put_row n row (λ k. at k old)
  rows_put n row old new h i k = at_place k i
    where
      at_place : (k : ℕ) → at k new ≡ put_row n row (λ k. at k old) k
      at_place k = by_place (cases_eq n k)
        where
          by_place : ◌⊎◌ (n ≡ k) (n ≢ k) → at k new ≡ put_row n row (λ k. at k old) k
          by_place (inl here) = ap (λ k. at k new) (sym here) ∙ (h.here ∙ ap (λ b. cond b row (at k old)) (sym (eq-eqb n k here)))
          by_place (inr other) = h.others k (λ e. other (sym e)) ∙ ap (λ b. cond b row (at k old)) (sym (ne_eqb n k other))

  -- a row that is put and a row that is changed are one
  pub put_is_change : (n : ℕ) (rows : ℕ → Option X) (f : X → Option X)
      → put_row n (option_and_then f (rows n)) rows ≡ change_row n (option_and_then f) rows
  put_is_change n rows f i k = at_place k i
    where
      at_place : (k : ℕ) → put_row n (option_and_then f (rows n)) rows k ≡ change_row n (option_and_then f) rows k
      at_place k = by_place (cases_eq n k)
        where
          by_place : ◌⊎◌ (n ≡ k) (n ≢ k) → put_row n (option_and_then f (rows n)) rows k ≡ change_row n (option_and_then f) rows k
          by_place (inl here) = ap (λ (q : ℕ). cond (eqb n k) (option_and_then f (rows q)) (rows k)) here
          by_place (inr other) = ap (λ b. cond b (option_and_then f (rows n)) (rows k)) (ne_eqb n k other)
              ∙ ap (λ b. cond b (option_and_then f (rows k)) (rows k)) (sym (ne_eqb n k other))
