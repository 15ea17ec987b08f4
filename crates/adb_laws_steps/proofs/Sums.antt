-- Sums over numbers: one of them changes, or each is less.
use Rattle.std.specs.Prelude.{ℕ, ◌+◌, ◌≡◌, ◌≢◌, ◌≤◌, ◌<◌, zero, suc}
use Rattle.std.proofs.Common.{refl, sym, ap, arith, ◌⊎◌, inl, inr}
use Rattle.std.proofs.lemmas.Bool.{cases_eq}
use Rattle.adb_laws_steps.specs.Sums.{sum_to}

-- each is at most as much
pub sum_within : (f g : ℕ → ℕ) (n : ℕ) → ((k : ℕ) → 0 < k → k ≤ n → f k ≤ g k) → sum_to f n ≤ sum_to g n
sum_within f g zero le = omega arith
sum_within f g (suc n) le =
    let here = le (suc n) (omega arith) (omega arith) in
    let below = sum_within f g n (λ k some to. le k some (omega (arith, to))) in
    omega (arith, here, below)

-- one is more by so much at most
pub sum_more : (f g : ℕ → ℕ) (t m n : ℕ) → ((k : ℕ) → k ≢ t → g k ≡ f k) → g t ≤ f t + m → sum_to g n ≤ sum_to f n + m
sum_more f g t m zero others more = omega arith
sum_more f g t m (suc n) others more = go (cases_eq t (suc n)) (sum_more f g t m n others more)
  where
    go : (t ≡ suc n) ⊎ (t ≢ suc n) → sum_to g n ≤ sum_to f n + m → g (suc n) + sum_to g n ≤ f (suc n) + sum_to f n + m
    go (inl is) below =
        let same = sum_within g f n (λ k some to. (let e = others k (λ same. omega (arith, same, is, to)) in omega (arith, e))) in
        let old : f t ≡ f (suc n) = ap f is in
        let new : g t ≡ g (suc n) = ap g is in
        omega (arith, same, old, new, more)
    go (inr other) below =
        let e = others (suc n) (λ same. other (sym same)) in
        omega (arith, e, below)

-- one is less by so much
pub sum_less : (f g : ℕ → ℕ) (t m n : ℕ) → ((k : ℕ) → k ≢ t → g k ≡ f k) → g t + m ≤ f t → 0 < t → t ≤ n → sum_to g n + m ≤ sum_to f n
sum_less f g t m zero others less some to = absurd (omega (arith, some, to))
sum_less f g t m (suc n) others less some to = go (cases_eq t (suc n)) (sum_less f g t m n others less some)
  where
    go : (t ≡ suc n) ⊎ (t ≢ suc n) → (t ≤ n → sum_to g n + m ≤ sum_to f n) → g (suc n) + sum_to g n + m ≤ f (suc n) + sum_to f n
    go (inl is) below =
        let same = sum_within g f n (λ k one le. (let e = others k (λ same. omega (arith, same, is, le)) in omega (arith, e))) in
        let old : f t ≡ f (suc n) = ap f is in
        let new : g t ≡ g (suc n) = ap g is in
        omega (arith, same, old, new, less)
    go (inr other) below =
        let e = others (suc n) (λ same. other (sym same)) in
        let rest = below (omega (arith, to, other)) in
        omega (arith, e, rest)

-- nothing is nothing, however many
pub sum_none : (f : ℕ → ℕ) (n : ℕ) → ((k : ℕ) → f k ≡ 0) → sum_to f n ≡ 0
sum_none f zero none = refl
sum_none f (suc n) none =
    let here = none (suc n) in
    let below = sum_none f n none in
    omega (arith, here, below)
