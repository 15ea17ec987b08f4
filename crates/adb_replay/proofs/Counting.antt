-- Counts of faults of one call after another.
use Rattle.std.proofs.Common.{ℕ, ◌≡◌, ◌<◌, ◌≤◌, Bool, true, false, refl, ◌∙◌, subst, arith, ◌⊎◌, inl, inr}
use Rattle.std.specs.Prelude.{◌||◌}
use Rattle.adb_outside.specs.Outside.{Rises, Counts}

-- a fault that comes behind others
rises_on : (x y z : ℕ) → x ≤ y → y ≤ z → Rises x y → Rises x z
rises_on x y z a b (inl less) = inl (omega (arith, less, b))
rises_on x y z a b (inr last) = split (cases y z)
  where
    cases : (m n : ℕ) → (m < n) ⊎ (n ≤ m)
    cases m n = grind arith

    split : (y < z) ⊎ (z ≤ y) → Rises x z
    split (inl more) = inl (omega (arith, more, a))
    split (inr same) = inr (same_number ∙ last)
      where
        same_number : z ≡ y
        same_number = omega (arith, same, b)

module _ {A : Type 0} (steady : A → Type 0) (faults : A → ℕ) where
  -- no call was made
  pub counts_first : (a : A) → Counts steady faults a a false
  counts_first a =
      record {
        count = omega arith;
        fault = λ e. (let clash : false ≡ true = e in cc);
        stands = λ e. refl;
        keeps =
            λ s. s;
        steady = λ s. refl;
      }

  -- two calls were made
  pub counts_then : (a b c : A) {f g : Bool} → Counts steady faults a b f → Counts steady faults b c g → Counts steady faults a c (f || g)
  counts_then a b c {f = true} {g = g} first second = record {
    count = omega (arith, first.count, second.count);
    fault = λ e. rises_on (faults a) (faults b) (faults c) first.count second.count (first.fault refl);
    stands = λ e. cc;
    keeps = λ s. second.keeps (first.keeps s);
    steady = λ s. (let clash : true ≡ false = first.steady s in cc);
  }
  counts_then a b c {f = false} {g = g} first second = record {
    count = omega (arith, first.count, second.count);
    fault = λ e. subst (λ (n : ℕ). Rises n (faults c)) (first.stands refl) (second.fault e);
    stands = λ e. second.stands e ∙ first.stands refl;
    keeps = λ s. second.keeps (first.keeps s);
    steady = λ s. second.steady (first.keeps s);
  }
