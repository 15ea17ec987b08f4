-- Streams that lived at a time or were drawn since, which pay for the CLSEs of both ends.
use Rattle.std.specs.Prelude.{ℕ, ◌+◌, ◌*◌, ◌≡◌, ◌≢◌, ◌≤◌, ◌<◌, ◌||◌, ◌&&◌, zero, suc, Bool, true, false, cond, is_some, nat_lt, All, List}
use Rattle.std.specs.Prelude.{[], ◌∷◌, Option, Some, None}
use Rattle.std.specs.Prelude.{option_map, unwrap_or}
use Rattle.std.specs.BTreeMap.{is_at}
use Rattle.std.specs.Map.{values_of}
use Rattle.std.specs.Ordering.{nat_cmp}
use Rattle.std.proofs.Common.{refl, sym, ap, arith, ◌∙◌, ◌⊎◌, inl, inr}
use Rattle.std.proofs.lemmas.Bool.{cases_eq, cases_lt, lt-ltb, ltb-true}
use Rattle.std.proofs.lemmas.List.Elements.{All-head, All-tail}
use Rattle.std.proofs.lemmas.List.Sums.{sum_by-cons}
use Rattle.std.proofs.lemmas.Map.Entries.{sum_by-remove_entry}
use Rattle.adb_outside.specs.Tables.{at, IsRising, without}
use Rattle.adb_outside.proofs.TableLaws.{at_each, puts_without, without_rises}
use Rattle.adb_stream.specs.declared.row.Stream.{Stream}
use Rattle.adb_history.specs.Machine.{History, state}
use Rattle.adb_device_streams.specs.Stream.{Row}
use Rattle.adb_laws_steps.specs.Owed.{row_toll, row_tolls}
use Rattle.adb_laws_steps.specs.Sums.{sum_to}
use Rattle.adb_laws_steps.specs.Tolls.{close_toll, close_tolls}
use Rattle.adb_laws_steps.proofs.Sums.{sum_within}

-- a stream lives, or is one of those that are drawn behind, up to a number
abbrev pub watched : History → ℕ → ℕ → Bool
watched before drawn l = is_some ((state before).streams l) || (nat_lt (state before).drawn l && nat_lt l (drawn + 1))

abbrev pub keeps : (ℕ → Bool) → ℕ → ℕ
keeps q l = cond (q l) 24 0

module _ (before : History) (drawn : ℕ) where
  -- which it is
  pub is_watched : (l : ℕ) → watched before drawn l ≡ true
      → (is_some ((state before).streams l) ≡ true) ⊎ (((state before).drawn < l) × (l ≤ drawn))
  is_watched l is = go (is_some ((state before).streams l)) refl (nat_lt (state before).drawn l) refl (nat_lt l (drawn + 1)) refl is
    where
      go : (a : Bool) → is_some ((state before).streams l) ≡ a → (b : Bool) → nat_lt (state before).drawn l ≡ b
          → (c : Bool) → nat_lt l (drawn + 1) ≡ c
          → (a || (b && c)) ≡ true → (is_some ((state before).streams l) ≡ true) ⊎ (((state before).drawn < l) × (l ≤ drawn))
      go true e b f c g is = inl e
      go false e true f true g is =
          let past = ltb-true (state before).drawn l f in let le = ltb-true l (drawn + 1) g in inr (past, omega (arith, le))
      go false e true f false g is = absurd (let clash : false ≡ true = is in cc)
      go false e false f c g is = absurd (let clash : false ≡ true = is in cc)

  pub live_watched : (l : ℕ) (x : Stream) → (state before).streams l ≡ Some x → watched before drawn l ≡ true
  live_watched l x is = ap (λ (o : Option Stream). is_some o || (nat_lt (state before).drawn l && nat_lt l (drawn + 1))) is

  pub fresh_watched : (l : ℕ) → (state before).drawn < l → l ≤ drawn → watched before drawn l ≡ true
  fresh_watched l past le =
      ap (λ (b : Bool). is_some ((state before).streams l) || (b && nat_lt l (drawn + 1))) (lt-ltb (state before).drawn l past)
      ∙ (ap (λ (b : Bool). is_some ((state before).streams l) || (true && b)) (lt-ltb l (drawn + 1) (omega (arith, le)))
      ∙ any_true (is_some ((state before).streams l)))
    where
      any_true : (a : Bool) → (a || true) ≡ true
      any_true true = refl
      any_true false = refl

  -- one that is not watched, of those that were drawn, is gone
  pub unwatched_gone : (l : ℕ) → l ≤ drawn → watched before drawn l ≡ false → ((state before).streams l ≡ None) × (l ≤ (state before).drawn)
  unwatched_gone l le is = (gone ((state before).streams l) refl, within (cases_lt (state before).drawn l))
    where
      gone : (o : Option Stream) → (state before).streams l ≡ o → (state before).streams l ≡ None
      gone None e = e
      gone (Some x) e = absurd (let clash : true ≡ false = sym (live_watched l x e) ∙ is in cc)

      within : ((state before).drawn < l) ⊎ (l ≤ (state before).drawn) → l ≤ (state before).drawn
      within (inl past) = absurd (let clash : true ≡ false = sym (fresh_watched l past le) ∙ is in cc)
      within (inr e) = e

  -- ---- they pay for the CLSEs of the server
  kept_live : sum_to (λ l. close_toll ((state before).streams l)) (state before).drawn
      ≤ sum_to (λ l. keeps (watched before drawn) l) (state before).drawn
  kept_live =
      sum_within (λ l. close_toll ((state before).streams l)) (λ l. keeps (watched before drawn) l) (state before).drawn
      (λ l some le. go l ((state before).streams l) refl)
    where
      go : (l : ℕ) (o : Option Stream) → (state before).streams l ≡ o
          → close_toll ((state before).streams l) ≤ keeps (watched before drawn) l
      go l None is = let none = ap close_toll is in omega (arith, none)
      go l (Some x) is =
          let toll = ap close_toll is in
          let keep : keeps (watched before drawn) l ≡ 24 = ap (λ (b : Bool). cond b 24 0) (live_watched l x is) in
          omega (arith, toll, keep)

  kept_fresh : (n : ℕ) → (state before).drawn ≤ n → n ≤ drawn
      → sum_to (λ l. keeps (watched before drawn) l) (state before).drawn + 24 * n
      ≤ sum_to (λ l. keeps (watched before drawn) l) n + 24 * (state before).drawn
  kept_fresh zero past le =
      let none : (state before).drawn ≡ 0 = omega (arith, past) in
      let same = ap (λ (n : ℕ). sum_to (λ l. keeps (watched before drawn) l) n) none in
      omega (arith, none, same)
  kept_fresh (suc n) past le = go (cases_lt (state before).drawn (suc n)) (λ more. kept_fresh n more (omega (arith, le)))
    where
      go : ((state before).drawn < suc n) ⊎ (suc n ≤ (state before).drawn)
          → ((state before).drawn ≤ n → sum_to (λ l. keeps (watched before drawn) l) (state before).drawn + 24 * n
          ≤ sum_to (λ l. keeps (watched before drawn) l) n + 24 * (state before).drawn)
          → sum_to (λ l. keeps (watched before drawn) l) (state before).drawn + 24 * suc n
          ≤ sum_to (λ l. keeps (watched before drawn) l) (suc n) + 24 * (state before).drawn
      go (inl more) below =
          let older = below (omega (arith, more)) in
          let keep : keeps (watched before drawn) (suc n) ≡ 24 = ap (λ (b : Bool). cond b 24 0) (fresh_watched (suc n) more le) in
          omega (arith, older, keep)
      go (inr less) below =
          let same : (state before).drawn ≡ suc n = omega (arith, past, less) in
          let sums = ap (λ (k : ℕ). sum_to (λ l. keeps (watched before drawn) l) k) same in
          omega (arith, same, sums)

  pub closes_kept : (state before).drawn ≤ drawn
      → close_tolls (state before).streams (state before).drawn + 24 * drawn
      ≤ sum_to (λ l. keeps (watched before drawn) l) drawn + 24 * (state before).drawn
  closes_kept le =
      let live = kept_live in
      let fresh = kept_fresh drawn le (omega arith) in
      omega (arith, live, fresh)

-- ---- and for those of the device
-- the row of a stream has one id
abbrev pub HasOneRow : List (ℕ × Row) → ℕ → Type 0
HasOneRow rows l = (id : ℕ) × ((own : ℕ) (row : Row) → at own rows ≡ Some row → row.host ≡ l → own ≡ id)

module _ (q : ℕ → Bool) where
  abbrev AreWithin : ℕ → List (ℕ × Row) → Type 0
  AreWithin n rows = (own : ℕ) (row : Row) → at own rows ≡ Some row → q row.host ≡ true → (0 < row.host) × (row.host ≤ n)

  toll_or_none : (row : Row) → (q row.host ≡ true → ⊥) → row_toll q row ≡ 0
  toll_or_none row off = go (q row.host) refl
    where
      go : (b : Bool) → q row.host ≡ b → ◌≡◌ {A = ℕ} (cond b 24 0) 0
      go true e = absurd (off e)
      go false e = refl

  none_at_all : (rows es : List (ℕ × Row)) → All (λ (e : ℕ × Row). at e.0 rows ≡ Some e.1) es → AreWithin 0 rows → row_tolls q es ≡ 0
  none_at_all rows [] all within = refl
  none_at_all rows (e ∷ es) all within =
      let here : at e.0 rows ≡ Some e.1 = All-head (λ (e : ℕ × Row). at e.0 rows ≡ Some e.1) e es all in
      let none : row_toll q e.1 ≡ 0 =
      toll_or_none e.1
      (λ on. (let w = within e.0 e.1 here on in let some = w.0 in let le = w.1 in omega (arith, some, le))) in
      let later = none_at_all rows es (All-tail (λ (e : ℕ × Row). at e.0 rows ≡ Some e.1) e es all) within in
      let sum = sum_by-cons (row_toll q) e.1 (values_of es) in
      omega (arith, none, later, sum)

  pub rows_kept : (n : ℕ) (rows : List (ℕ × Row)) → IsRising rows → ((l : ℕ) → HasOneRow rows l) → AreWithin n rows
      → row_tolls q rows ≤ sum_to (λ l. keeps q l) n
  rows_kept zero rows rises ones within = let none = none_at_all rows rows (at_each rows rises) within in omega (arith, none)
  rows_kept (suc n) rows rises ones within =
      go (at (ones (suc n)).0 rows) refl (λ xs xs_rise xs_ones xs_within. rows_kept n xs xs_rise xs_ones xs_within)
    where
      -- where no row is for the last number, they are within the others
      fewer : (xs : List (ℕ × Row)) → AreWithin (suc n) xs →
          ((own : ℕ) (row : Row) → at own xs ≡ Some row → row.host ≢ suc n) → AreWithin n xs
      fewer xs all other own row is on =
          let w = all own row is on in
          let apart = other own row is in
          let le = w.1 in
          (w.0, omega (arith, le, apart))

      go : (o : Option Row) → at (ones (suc n)).0 rows ≡ o
          → ((xs : List (ℕ × Row)) → IsRising xs → ((l : ℕ) → HasOneRow xs l) → AreWithin n xs → row_tolls q xs ≤ sum_to (λ l. keeps q l) n)
          → row_tolls q rows ≤ keeps q (suc n) + sum_to (λ l. keeps q l) n
      go None gone below =
          let le = below rows rises ones (fewer rows within (λ own row is same.
          let clash : None ≡ Some row = sym gone ∙ (ap (λ (k : ℕ). at k rows) (sym ((ones (suc n)).1 own row is same)) ∙ is) in cc)) in
          omega (arith, le)
      go (Some r) there below = by (cases_eq r.host (suc n))
        where
          only : (own : ℕ) (row : Row) → at own rows ≡ Some row → row.host ≡ suc n → r.host ≡ suc n
          only own row is same =
              let both : Some r ≡ Some row = sym there ∙ (ap (λ (k : ℕ). at k rows) (sym ((ones (suc n)).1 own row is same)) ∙ is) in
              let one : r ≡ row = cc in
              ap (λ (x : Row). x.host) one ∙ same

          stood : (own : ℕ) (row : Row) → at own (without (ones (suc n)).0 rows) ≡ Some row
              → (own ≢ (ones (suc n)).0) × (at own rows ≡ Some row)
          stood own row is = find (cases_eq own (ones (suc n)).0)
            where
              find : (own ≡ (ones (suc n)).0) ⊎ (own ≢ (ones (suc n)).0) → (own ≢ (ones (suc n)).0) × (at own rows ≡ Some row)
              find (inl same) =
                  absurd (let clash : None ≡ Some row =
                  sym (puts_without (ones (suc n)).0 rows rises).here
                  ∙ (ap (λ (k : ℕ). at k (without (ones (suc n)).0 rows)) (sym same) ∙ is) in cc)
              find (inr other) = (other, sym ((puts_without (ones (suc n)).0 rows rises).others own other) ∙ is)

          by : (r.host ≡ suc n) ⊎ (r.host ≢ suc n) → row_tolls q rows ≤ keeps q (suc n) + sum_to (λ l. keeps q l) n
          by (inr other) =
              let le = below rows rises ones (fewer rows within (λ own row is same. other (only own row is same))) in
              omega (arith, le)
          by (inl same) =
              let le = below (without (ones (suc n)).0 rows) (without_rises (ones (suc n)).0 rows rises)
              (λ l. ((ones l).0, λ own row is host. (ones l).1 own row (stood own row is).1 host))
              (fewer (without (ones (suc n)).0 rows) (λ own row is on. within own row (stood own row is).1 on)
              (λ own row is host. (stood own row is).0 ((ones (suc n)).1 own row (stood own row is).1 host))) in
              let sum = sum_by-remove_entry (row_toll q) (is_at (nat_cmp (ones (suc n)).0)) rows in
              let toll : unwrap_or (option_map (row_toll q) (at (ones (suc n)).0 rows)) 0 ≡ keeps q (suc n) =
              ap (λ (o : Option Row). unwrap_or (option_map (row_toll q) o) 0) there ∙ ap (λ (k : ℕ). cond (q k) 24 0) same in
              omega (arith, le, sum, toll)
