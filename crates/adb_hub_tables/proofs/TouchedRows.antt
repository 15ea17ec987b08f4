-- The first row to which something is due, and rows after one was written or all but one were left.
use Rattle.std.proofs.Common.{ℕ, ◌≡◌, ◌≢◌, ◌<◌, Bool, true, false, cond, List, [], ◌∷◌, filter, Some, None, refl, sym, ◌∙◌, ap, arith, ◌⊎◌}
use Rattle.std.proofs.Common.{inl, inr}
use Rattle.std.specs.Prelude.{nat_eq}
use Rattle.std.specs.BTreeMap.{is_at}
use Rattle.std.specs.Ordering.{nat_cmp, is_eq}
use Rattle.std.specs.List.Sorted.{IsStrictlySortedBy}
use Rattle.std.specs.Map.{set_value}
use Rattle.std.proofs.lemmas.Bool.{cases_eq}
use Rattle.std.proofs.lemmas.Bool.Decides.{nat_tests}
use Rattle.std.proofs.lemmas.Map.Entries.{lookup-filter-keys}
use Rattle.adb_outside.specs.Tables.{at, IsRising}
use Rattle.adb_outside.proofs.TableLaws.{at_other, same_at, order, at_head, at_tail, below_head, past_head}
use Rattle.adb_hub_tables.specs.First.{first_number}

module _ {X : Type 0} where
  -- what stands at another number than the one that was written
  pub written_other : (n number : ℕ) → n ≢ number → (w : X) (es : List (ℕ × X)) → at n (set_value (is_at (nat_cmp number)) es w) ≡ at n es
  written_other n number apart w [] = refl
  written_other n number apart w (e ∷ es) = go (is_eq (nat_cmp number e.0)) refl (written_other n number apart w es)
    where
      go : (b : Bool) → is_eq (nat_cmp number e.0) ≡ b → at n (set_value (is_at (nat_cmp number)) es w) ≡ at n es
          → at n (cond b ((e.0, w) ∷ es) (e ∷ set_value (is_at (nat_cmp number)) es w)) ≡ at n (e ∷ es)
      go true is later = rw (at_other n e.0 (λ same. apart (same ∙ sym (same_at number e.0 is)))) refl
      go false is later = ap (cond (is_eq (nat_cmp n e.0)) (Some e.1)) later

  -- a number that has no row has none after a write
  pub written_none : (number : ℕ) (w : X) (es : List (ℕ × X)) → at number es ≡ None
      → at number (set_value (is_at (nat_cmp number)) es w) ≡ None
  written_none number w [] none = refl
  written_none number w (e ∷ es) none = go (is_eq (nat_cmp number e.0)) refl none (written_none number w es)
    where
      go : (b : Bool) → is_eq (nat_cmp number e.0) ≡ b → cond b (Some e.1) (at number es) ≡ None
          → (at number es ≡ None → at number (set_value (is_at (nat_cmp number)) es w) ≡ None)
          → at number (cond b ((e.0, w) ∷ es) (e ∷ set_value (is_at (nat_cmp number)) es w)) ≡ None
      go true is clash later = cc
      go false is here later = rw is (later here)

  -- what is left of a table of which one row alone stays
  pub left_at : (c n : ℕ) (es : List (ℕ × X)) → at n (filter (λ entry. nat_eq entry.0 c) es) ≡ cond (nat_eq c n) (at n es) None
  left_at c n es = lookup-filter-keys (is_at (nat_cmp n)) (λ k. nat_eq k c) (nat_eq c n) (λ k same. decides k same) es
    where
      decides : (k : ℕ) → is_eq (nat_cmp n k) ≡ true → nat_eq k c ≡ nat_eq c n
      decides k same = grind (arith, nat_tests)

  module _ (owed : X → Bool) where
    -- to no row anything is due
    pub none_owed : (es : List (ℕ × X)) → IsRising es → ((n : ℕ) (row : X) → at n es ≡ Some row → owed row ≡ false)
        → first_number owed es ≡ None
    unfolding IsStrictlySortedBy
    none_owed [] rises none = refl
    none_owed (e ∷ es) rises none = rw (none e.0 e.1 (at_head e es)) (none_owed es rises.1 (λ n row is. go n row is (cases_eq n e.0)))
      where
        go : (n : ℕ) (row : X) → at n es ≡ Some row → (n ≡ e.0) ⊎ (n ≡ e.0 → ⊥) → owed row ≡ false
        go n row is (inl same) = absurd (let clash : None ≡ Some row = sym (ap (λ k. at k es) same ∙ past_head e es rises) ∙ is in cc)
        go n row is (inr apart) = none n row (at_tail n e es apart ∙ is)

    -- a row to which something is due, and none below it, is the first
    pub least_owed : (es : List (ℕ × X)) (id : ℕ) (found : X) → IsRising es → at id es ≡ Some found → owed found ≡ true
        → ((n : ℕ) (row : X) → at n es ≡ Some row → n < id → owed row ≡ false) → first_number owed es ≡ Some id
    unfolding IsStrictlySortedBy
    least_owed [] id found rises here due below = cc
    least_owed (e ∷ es) id found rises here due below = go (order e.0 id) (least_owed es id found rises.1)
      where
        later : (n : ℕ) (row : X) → at n es ≡ Some row → n < id → (n ≡ e.0) ⊎ (n ≡ e.0 → ⊥) → owed row ≡ false
        later n row is under (inl same) =
            absurd (let clash : None ≡ Some row = sym (ap (λ k. at k es) same ∙ past_head e es rises) ∙ is in cc)
        later n row is under (inr apart) = below n row (at_tail n e es apart ∙ is) under

        go : (e.0 < id) ⊎ ((id < e.0) ⊎ (e.0 ≡ id))
            → (at id es ≡ Some found → owed found ≡ true → ((n : ℕ) (row : X) → at n es ≡ Some row → n < id → owed row ≡ false)
            → first_number owed es ≡ Some id)
            → first_number owed (e ∷ es) ≡ Some id
        go (inl under) among =
            rw (below e.0 e.1 (at_head e es) under)
            (among (sym (at_tail id e es (λ same. omega (arith, same, under))) ∙ here) due
            (λ n row is lower. later n row is lower (cases_eq n e.0)))
        go (inr (inl above)) among = absurd (let clash : None ≡ Some found = sym (below_head id e es rises above) ∙ here in cc)
        go (inr (inr same)) among =
            let it : Some e.1 ≡ Some found = sym (at_head e es) ∙ (ap (λ n. at n (e ∷ es)) same ∙ here) in
            let row : e.1 ≡ found = cc in
            rw (ap owed row ∙ due) (ap Some same)
