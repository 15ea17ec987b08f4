-- Tables in rising number: what they have, what a change leaves, and the table of some rows.
use Rattle.std.proofs.Common.{ℕ, ◌+◌, ◌≡◌, ◌≢◌, ◌≤◌, ◌<◌, zero, suc, Bool, true, false, cond, List, [], ◌∷◌, All, get_or, Option, Some}
use Rattle.std.proofs.Common.{None, Ordering}
use Rattle.std.proofs.Common.{refl, sym, ◌∙◌, ap, subst, arith, ◌⊎◌, inl, inr}
use Rattle.std.proofs.lemmas.Bool.{cases_eq}
use Rattle.std.proofs.lemmas.Bool.Decides.{nat_tests}
use Rattle.std.proofs.lemmas.Cmp.{nat_cmp_total}
use Rattle.std.proofs.lemmas.List.Elements.{All-nil, All-cons, All-head, All-tail, All-map, All-weaker}
use Rattle.std.proofs.lemmas.Option.{slice_get-get_or}
use Rattle.std.proofs.lemmas.Map.{lookup-none, lookup-remove_entry}
use Rattle.std.proofs.lemmas.Map.Entries.{lookup_from_place, none_below_head, none_past_head}
use Rattle.std.proofs.lemmas.Map.Keys.{IsDistinct-from_sorted}
use Rattle.std.proofs.lemmas.Map.Lookups.{exact_unsigned}
use Rattle.std.specs.List.{AllByRecursion}
use Rattle.std.specs.List.Sorted.{IsStrictlySortedBy}
use Rattle.std.specs.Cmp.{eq_by_cmp_equiv}
use Rattle.std.specs.Ordering.{nat_cmp, is_eq, match_ordering}
use Rattle.std.specs.declared.cmp.Ordering.TheVariants.{Less, Equal, Greater}
use Rattle.std.specs.Map.{keys_of, values_of}
use Rattle.std.specs.BTreeMap.{is_at}
use Rattle.adb_outside.specs.Tables.{at, IsRising, put_at, without, set_at, Puts, Rows, listed, listed_at}

pub less : (a b : ℕ) → a < b → nat_cmp a b ≡ Less
less a b h = grind (arith, nat_tests)

under : (a b : ℕ) → nat_cmp a b ≡ Less → a < b
under a b e = grind (arith, nat_tests)

over : (a b : ℕ) → nat_cmp a b ≡ Greater → b < a
over a b e = grind (arith, nat_tests)

pub at_same : (q : ℕ) → is_eq (nat_cmp q q) ≡ true
at_same q = grind (arith, nat_tests)

pub at_other : (q n : ℕ) → q ≢ n → is_eq (nat_cmp q n) ≡ false
at_other q n h = grind (arith, nat_tests)

pub same_at : (a b : ℕ) → is_eq (nat_cmp a b) ≡ true → a ≡ b
same_at a b e = grind (arith, nat_tests)

pub order : (a b : ℕ) → (a < b) ⊎ ((b < a) ⊎ (a ≡ b))
order a b = grind arith

module _ {X : Type 0} where
  -- A table has each of its entries at its number.
  pub at_each : (table : List (ℕ × X)) → IsRising table → All (λ (e : ℕ × X). at e.0 table ≡ Some e.1) table
  at_each table rises = λ i d h.
      let e = get_or table i d in
      let distinct = IsDistinct-from_sorted nat_cmp (keys_of table) rises in
      lookup_from_place (eq_by_cmp_equiv nat_cmp_total) table i e.0 e.1 distinct (slice_get-get_or table i d h)

  -- a fact of each entry, as a fact of each row
  pub each_row : (P : ℕ × X → Type 0) (Q : X → Type 0) → ((e : ℕ × X) → P e → Q e.1)
      → (table : List (ℕ × X)) → All P table → All Q (values_of table)
  each_row P Q step table all = All-map Q (λ (e : ℕ × X). e.1) table (All-weaker P (λ (e : ℕ × X). Q e.1) step table all)

  pub at_head : (e : ℕ × X) (es : List (ℕ × X)) → at e.0 (e ∷ es) ≡ Some e.1
  at_head e es = rw (at_same e.0) refl

  pub at_tail : (q : ℕ) (e : ℕ × X) (es : List (ℕ × X)) → q ≢ e.0 → at q (e ∷ es) ≡ at q es
  at_tail q e es apart = rw (at_other q e.0 apart) refl

  pub below_head : (q : ℕ) (e : ℕ × X) (es : List (ℕ × X)) → IsRising (e ∷ es) → q < e.0 → at q (e ∷ es) ≡ None
  below_head q e es rises h = lookup-none (is_at (nat_cmp q)) (e ∷ es) (none_below_head nat_cmp_total q e es rises (less q e.0 h))

  pub past_head : (e : ℕ × X) (es : List (ℕ × X)) → IsRising (e ∷ es) → at e.0 es ≡ None
  past_head e es rises =
      let distinct = IsDistinct-from_sorted nat_cmp (keys_of (e ∷ es)) rises in
      lookup-none (is_at (nat_cmp e.0)) es (none_past_head (eq_by_cmp_equiv nat_cmp_total) e.0 e es distinct (at_same e.0))

  -- Two tables that have the same at each number are one.
  pub same_list : (es fs : List (ℕ × X)) → IsRising es → IsRising fs → ((q : ℕ) → at q es ≡ at q fs) → es ≡ fs
  unfolding IsStrictlySortedBy
  same_list [] [] r s h = refl
  same_list [] (f ∷ fs) r s h = let clash : None ≡ Some f.1 = h f.0 ∙ at_head f fs in cc
  same_list (e ∷ es) [] r s h = let clash : Some e.1 ≡ None = sym (at_head e es) ∙ h e.0 in cc
  same_list (e ∷ es) (f ∷ fs) r s h = go (order e.0 f.0) (same_list es fs r.1 s.1)
    where
      tails : e.0 ≡ f.0 → (q : ℕ) → at q es ≡ at q fs
      tails same q = split (cases_eq q e.0)
        where
          split : (q ≡ e.0) ⊎ (q ≡ e.0 → ⊥) → at q es ≡ at q fs
          split (inl is) = ap (λ n. at n es) is ∙ (past_head e es r ∙ sym (ap (λ n. at n fs) (is ∙ same) ∙ past_head f fs s))
          split (inr apart) = sym (at_tail q e es apart) ∙ (h q ∙ at_tail q f fs (λ is. apart (is ∙ sym same)))

      go : (e.0 < f.0) ⊎ ((f.0 < e.0) ⊎ (e.0 ≡ f.0)) → (((q : ℕ) → at q es ≡ at q fs) → es ≡ fs) → (e ∷ es) ≡ (f ∷ fs)
      go (inl below) rest = let clash : Some e.1 ≡ None = sym (at_head e es) ∙ (h e.0 ∙ below_head e.0 f fs s below) in cc
      go (inr (inl below)) rest = let clash : Some f.1 ≡ None = sym (at_head f fs) ∙ (sym (h f.0) ∙ below_head f.0 e es r below) in cc
      go (inr (inr same)) rest =
          let value : Some e.1 ≡ Some f.1 = sym (at_head e es) ∙ (h e.0 ∙ (ap (λ n. at n (f ∷ fs)) same ∙ at_head f fs)) in
          let row : e.1 ≡ f.1 = cc in
          let tail : es ≡ fs = rest (tails same) in
          λ i. (same i, row i) ∷ tail i

-- all numbers of a table are above this
abbrev IsAbove : {X : Type 0} → ℕ → List (ℕ × X) → Type 0
IsAbove n table = AllByRecursion (λ k. nat_cmp n k ≡ Less) (keys_of table)

-- a table after a row is put, by how its number stands to the first
abbrev put_by : {X : Type 0} → ℕ → X → Ordering → ℕ × X → List (ℕ × X) → List (ℕ × X)
put_by n row o e es = match_ordering o ((n, row) ∷ e ∷ es) ((e.0, row) ∷ es) (e ∷ put_at n row es)

module _ {X : Type 0} (P : ℕ × X → Type 0) where
  -- what holds of each entry, through a change of the table
  pub All-put_at : (table : List (ℕ × X)) (n : ℕ) (row : X) → P (n, row) → All P table → All P (put_at n row table)
  All-put_at [] n row here all = All-cons P (n, row) [] here (All-nil P)
  All-put_at (e ∷ es) n row here all = go (nat_cmp n e.0) refl (All-put_at es n row here (All-tail P e es all))
    where
      go : (o : Ordering) → nat_cmp n e.0 ≡ o → All P (put_at n row es) → All P (put_by n row o e es)
      go Less is later = All-cons P (n, row) (e ∷ es) here all
      go Equal is later = All-cons P (e.0, row) es (subst (λ (k : ℕ). P (k, row)) (exact_unsigned n e.0 is) here) (All-tail P e es all)
      go Greater is later = All-cons P e (put_at n row es) (All-head P e es all) later

  pub All-without : (n : ℕ) (table : List (ℕ × X)) → All P table → All P (without n table)
  All-without n [] all = all
  All-without n (e ∷ es) all = go (is_eq (nat_cmp n e.0)) (All-without n es (All-tail P e es all))
    where
      go : (b : Bool) → All P (without n es) → All P (cond b es (e ∷ without n es))
      go true later = All-tail P e es all
      go false later = All-cons P e (without n es) (All-head P e es all) later

module _ {X : Type 0} (n : ℕ) (row : X) where
  put_here : (es : List (ℕ × X)) → at n (put_at n row es) ≡ Some row
  put_here [] = rw (at_same n) refl
  put_here (e ∷ es) = go (nat_cmp n e.0) refl (put_here es)
    where
      go : (o : Ordering) → nat_cmp n e.0 ≡ o → at n (put_at n row es) ≡ Some row → at n (put_by n row o e es) ≡ Some row
      go Less is later = rw (at_same n) refl
      go Equal is later = rw is refl
      go Greater is later = rw is later

  put_others : (es : List (ℕ × X)) (q : ℕ) → q ≢ n → at q (put_at n row es) ≡ at q es
  put_others [] q apart = rw (at_other q n apart) refl
  put_others (e ∷ es) q apart = go (nat_cmp n e.0) refl (put_others es q apart)
    where
      go : (o : Ordering) → nat_cmp n e.0 ≡ o → at q (put_at n row es) ≡ at q es → at q (put_by n row o e es) ≡ at q (e ∷ es)
      go Less is later = rw (at_other q n apart) refl
      go Equal is later = rw (at_other q e.0 (λ same. apart (same ∙ sym (exact_unsigned n e.0 is)))) refl
      go Greater is later = ap (cond (is_eq (nat_cmp q e.0)) (Some e.1)) later

  -- A row put at a number stands there, and each other number keeps its own.
  pub puts_put_at : (table : List (ℕ × X)) → Puts n (Some row) table (put_at n row table)
  puts_put_at table = record { here = put_here table; others = put_others table }

  below_put : (m : ℕ) → m < n → (es : List (ℕ × X)) → IsAbove m es → IsAbove m (put_at n row es)
  below_put m h [] all = (less m n h, tt)
  below_put m h (e ∷ es) all = go (nat_cmp n e.0) (below_put m h es all.1)
    where
      go : (o : Ordering) → IsAbove m (put_at n row es) → IsAbove m (put_by n row o e es)
      go Less later = (less m n h, all)
      go Equal later = all
      go Greater later = (all.0, later)

  below_first : (m : ℕ) → n < m → (es : List (ℕ × X)) → IsAbove m es → IsAbove n es
  below_first m h [] all = tt
  below_first m h (e ∷ es) all = (less n e.0 (omega (arith, under m e.0 all.0)), below_first m h es all.1)

  -- the numbers rise still
  pub put_at_rises : (table : List (ℕ × X)) → IsRising table → IsRising (put_at n row table)
  unfolding IsStrictlySortedBy
  put_at_rises [] rises = (tt, tt)
  put_at_rises (e ∷ es) rises = go (nat_cmp n e.0) refl (put_at_rises es rises.1)
    where
      go : (o : Ordering) → nat_cmp n e.0 ≡ o → IsRising (put_at n row es) → IsRising (put_by n row o e es)
      go Less is later = ((is, below_first e.0 (under n e.0 is) es rises.0), rises)
      go Equal is later = rises
      go Greater is later = (below_put e.0 (over n e.0 is) es rises.0, later)

module _ {X : Type 0} (n : ℕ) where
  -- A number whose row was removed has none, and each other number keeps its own.
  pub puts_without : (table : List (ℕ × X)) → IsRising table → Puts n None table (without n table)
  puts_without table rises = record {
    here = found n ∙ ap (λ b. cond b None (at n table)) (at_same n);
    others = λ q apart. found q ∙ ap (λ b. cond b None (at q table)) (at_other n q (λ same. apart (sym same)));
  }
    where
      one : (x y : ℕ) → is_eq (nat_cmp n x) ≡ true → is_eq (nat_cmp n y) ≡ is_eq (nat_cmp x y)
      one x y here = ap (λ (k : ℕ). is_eq (nat_cmp k y)) (same_at n x here)

      found : (q : ℕ) → at q (without n table) ≡ cond (is_eq (nat_cmp n q)) None (at q table)
      found q =
          let distinct = IsDistinct-from_sorted nat_cmp (keys_of table) rises in
          lookup-remove_entry (eq_by_cmp_equiv nat_cmp_total) (is_at (nat_cmp n)) one q table distinct

  below_without : (m : ℕ) (es : List (ℕ × X)) → IsAbove m es → IsAbove m (without n es)
  below_without m [] all = all
  below_without m (e ∷ es) all = go (is_eq (nat_cmp n e.0)) (below_without m es all.1)
    where
      go : (b : Bool) → IsAbove m (without n es) → IsAbove m (cond b es (e ∷ without n es))
      go true later = all.1
      go false later = (all.0, later)

  -- the numbers rise still
  pub without_rises : (table : List (ℕ × X)) → IsRising table → IsRising (without n table)
  unfolding IsStrictlySortedBy
  without_rises [] rises = rises
  without_rises (e ∷ es) rises = go (is_eq (nat_cmp n e.0)) (without_rises es rises.1)
    where
      go : (b : Bool) → IsRising (without n es) → IsRising (cond b es (e ∷ without n es))
      go true later = rises.1
      go false later = (below_without e.0 es rises.0, later)

  -- Both for a row or none.
  pub puts_set_at : (row : Option X) (table : List (ℕ × X)) → IsRising table → Puts n row table (set_at n row table)
  puts_set_at None table rises = puts_without table rises
  puts_set_at (Some row) table rises = puts_put_at n row table

  pub set_at_rises : (row : Option X) (table : List (ℕ × X)) → IsRising table → IsRising (set_at n row table)
  set_at_rises None table rises = without_rises table rises
  set_at_rises (Some row) table rises = put_at_rises n row table rises

  -- What is changed at one number alone is the table with that there.
  pub puts_is : (row : Option X) (old new : List (ℕ × X)) → IsRising old → IsRising new → Puts n row old new → new ≡ set_at n row old
  puts_is row old new r s puts = same_list new (set_at n row old) s (set_at_rises row old r) (λ q. go q (cases_eq q n))
    where
      again : Puts n row old (set_at n row old)
      again = puts_set_at row old r

      go : (q : ℕ) → (q ≡ n) ⊎ (q ≡ n → ⊥) → at q new ≡ at q (set_at n row old)
      go q (inl same) = ap (λ k. at k new) same ∙ (puts.here ∙ (sym again.here ∙ ap (λ k. at k (set_at n row old)) (sym same)))
      go q (inr apart) = puts.others q apart ∙ sym (again.others q apart)

-- a number below the first is not listed
listed_below : {X : Type 0} (row_of : Rows (Option X)) (first k q : ℕ) → q < first → at q (listed row_of first k) ≡ None
listed_below row_of first zero q h = refl
listed_below {X} row_of first (suc k) q h = go (row_of first) (listed_below row_of (suc first) k q (omega arith))
  where
    go : (o : Option X) → at q (listed row_of (suc first) k) ≡ None → at q (listed_at first o (listed row_of (suc first) k)) ≡ None
    go None e = e
    go (Some x) e = rw (at_other q first (λ same. omega arith)) e

-- each other number has its row
listed_at_or_above : {X : Type 0} (row_of : Rows (Option X)) (first k q : ℕ)
    → ((m : ℕ) → first + k ≤ m → row_of m ≡ None) → first ≤ q → at q (listed row_of first k) ≡ row_of q
listed_at_or_above row_of first zero q none h = sym (none q (omega arith))
listed_at_or_above {X} row_of first (suc k) q none h =
    go (cases_eq q first) (row_of first) refl (λ above. listed_at_or_above row_of (suc first) k q (λ m le. none m (omega arith)) above)
  where
    others : List (ℕ × X)
    others = listed row_of (suc first) k

    go : (q ≡ first) ⊎ (q ≡ first → ⊥) → (o : Option X) → row_of first ≡ o → (suc first ≤ q → at q others ≡ row_of q)
        → at q (listed_at first o others) ≡ row_of q
    go (inl same) None is up = listed_below row_of (suc first) k q (omega arith) ∙ (sym is ∙ ap row_of (sym same))
    go (inl same) (Some x) is up =
        let here : row_of first ≡ row_of q = ap row_of (sym same) in
        subst (λ (n : ℕ). cond (is_eq (nat_cmp q n)) (Some x) (at q others) ≡ row_of q) same (rw (at_same q) (sym is ∙ here))
    go (inr apart) None is up = up (omega arith)
    go (inr apart) (Some x) is up = rw (at_other q first apart) (up (omega arith))

above_all : {X : Type 0} (row_of : Rows (Option X)) (n first k : ℕ) → n < first → IsAbove n (listed row_of first k)
above_all row_of n first zero h = tt
above_all {X} row_of n first (suc k) h = go (row_of first) (above_all row_of n (suc first) k (omega arith))
  where
    go : (o : Option X) → IsAbove n (listed row_of (suc first) k) → IsAbove n (listed_at first o (listed row_of (suc first) k))
    go None a = a
    go (Some x) a = (less n first h, a)

-- the numbers rise
pub listed_rises : {X : Type 0} (row_of : Rows (Option X)) (first k : ℕ) → IsRising (listed row_of first k)
unfolding IsStrictlySortedBy
listed_rises row_of first zero = tt
listed_rises {X} row_of first (suc k) = go (row_of first) (listed_rises row_of (suc first) k)
  where
    go : (o : Option X) → IsRising (listed row_of (suc first) k) → IsRising (listed_at first o (listed row_of (suc first) k))
    go None s = s
    go (Some x) s = (above_all row_of first (suc first) k (omega arith), s)

-- The table of some rows has these rows.
pub shows : {X : Type 0} (row_of : Rows (Option X)) (k : ℕ) → row_of 0 ≡ None → ((n : ℕ) → k < n → row_of n ≡ None)
    → (q : ℕ) → at q (listed row_of 1 k) ≡ row_of q
shows row_of k zeroth none zero = listed_below row_of 1 k 0 (omega arith) ∙ sym zeroth
shows row_of k zeroth none (suc q) = listed_at_or_above row_of 1 k (suc q) (λ m le. none m (omega arith)) (omega arith)

-- A table that has these rows is their table.
pub same_table : {X : Type 0} (es : List (ℕ × X)) (row_of : Rows (Option X)) (k : ℕ) → IsRising es → row_of 0 ≡ None
    → ((n : ℕ) → k < n → row_of n ≡ None) → ((q : ℕ) → at q es ≡ row_of q) → es ≡ listed row_of 1 k
same_table es row_of k rises zeroth none gets =
    same_list es (listed row_of 1 k) rises (listed_rises row_of 1 k) (λ q. gets q ∙ sym (shows row_of k zeroth none q))
