-- Sums, and numbers that are told up to the last of 64 bits.
use Rattle.std.proofs.Common.{ℕ, ◌+◌, ◌≡◌, ◌≢◌, ◌≤◌, ◌<◌, ◌⊎◌, inl, inr, Bool, true, false, eqb, List, [], ◌∷◌, ◌++◌}
use Rattle.std.proofs.Common.{length, refl, sym, ◌∙◌, ap, subst, cond, arith, zero, suc}
use Rattle.std.proofs.lemmas.Bool.Decides.{eqb_tells}
use Rattle.adb_wire.specs.declared.packets.Packet.{Packet}
use Rattle.adb_history.specs.Births.{is_wrte}
use Rattle.adb_laws_loads.specs.Totals.{sum_to, wrote_in}
use Rattle.adb_run_load.specs.Totals.{told}

-- ---- numbers that are told
pub told_more : (a b : ℕ) → told (told a + b) ≡ told (a + b)
told_more a b = omega arith

pub told_both : (a b : ℕ) → told (told a + told b) ≡ told (a + b)
told_both a b = omega arith

-- ---- sums
pub sum_same : (f g : ℕ → ℕ) (k : ℕ) → ((i : ℕ) → i ≤ k → g i ≡ f i) → sum_to g k ≡ sum_to f k
sum_same f g zero same = refl
sum_same f g (suc k) same =
    let lower = sum_same f g k (λ i within. same i (omega (arith, within))) in
    let last = same (suc k) (omega arith) in
    omega (arith, lower, last)

-- one term became larger
pub sum_grown : (f g : ℕ → ℕ) (t d k : ℕ) → 0 < t → t ≤ k → ((i : ℕ) → i ≢ t → g i ≡ f i) → g t ≡ f t + d → sum_to g k ≡ sum_to f k + d
sum_grown f g t d zero positive within others here = absurd (omega (arith, positive, within))
sum_grown f g t d (suc k) positive within others here = go (eqb_tells t (suc k)) (λ low. sum_grown f g t d k positive low others here)
  where
    apart : (i : ℕ) → i ≤ k → t ≡ suc k → i ≡ t → ⊥
    apart i low at same = omega (arith, low, at, same)

    last : suc k ≡ t → g (suc k) ≡ f (suc k) + d
    last same = subst (λ (n : ℕ). g n ≡ f n + d) (sym same) here

    lower_than : t ≢ suc k → t ≤ k
    lower_than other = omega (arith, within, other)

    go : ((eqb t (suc k) ≡ true) × (t ≡ suc k)) ⊎ ((eqb t (suc k) ≡ false) × (t ≢ suc k)) → (t ≤ k → sum_to g k ≡ sum_to f k + d)
        → sum_to g (suc k) ≡ sum_to f (suc k) + d
    go (inl at) below =
        let lower = sum_same f g k (λ i low. others i (apart i low at.1)) in
        let top = last (sym at.1) in
        omega (arith, lower, top)
    go (inr apart) below =
        let lower = below (lower_than apart.1) in
        let top : g (suc k) ≡ f (suc k) = others (suc k) (λ same. apart.1 (sym same)) in
        omega (arith, lower, top)

-- a term more that is 0
pub sum_longer : (f : ℕ → ℕ) (k : ℕ) → f (k + 1) ≡ 0 → sum_to f (k + 1) ≡ sum_to f k
sum_longer f k none =
    let next : suc k ≡ k + 1 = omega arith in
    let last : f (suc k) ≡ 0 = ap f next ∙ none in
    let whole : sum_to f (suc k) ≡ sum_to f k = omega (arith, last) in
    subst (λ (n : ℕ). sum_to f n ≡ sum_to f k) next whole

-- ---- writes
pub wrote_append : (ps qs : List Packet) → wrote_in (ps ++ qs) ≡ wrote_in ps + wrote_in qs
wrote_append [] qs = omega arith
wrote_append (p ∷ ps) qs = go (is_wrte p.command) (wrote_append ps qs)
  where
    go : (b : Bool) → wrote_in (ps ++ qs) ≡ wrote_in ps + wrote_in qs
        → cond b (length p.payload + wrote_in (ps ++ qs)) (wrote_in (ps ++ qs))
        ≡ cond b (length p.payload + wrote_in ps) (wrote_in ps) + wrote_in qs
    go true others = omega (arith, others)
    go false others = others
