-- What the searches of a byte string say of its cut at the first of a byte, and of the NULs at its end.
use Rattle.std.proofs.Common.{ℕ, ◌+◌, ◌-◌, ◌≡◌, ◌≤◌, ◌<◌, ◌==◌, Bool, true, false, not, ◌||◌, cond, nat_lt, nat_le, ◌&&◌, List, [], ◌∷◌}
use Rattle.std.proofs.Common.{length, take, drop, get_or, count_by, Option, Some, None, MatchOption, refl, sym, ap, ◌∙◌, subst, arith, zero}
use Rattle.std.proofs.Common.{suc, add-zero}
use Rattle.std.proofs.lemmas.Bool.{false≢true, eqb-true, eq-eqb}
use Rattle.std.proofs.lemmas.Bool.Decides.{nat_tests}
use Rattle.std.proofs.lemmas.List.Elements.{All-head, All-tail, All-from_get_or}
use Rattle.std.proofs.lemmas.List.Sums.{suffix_len_is, fails_before_first, passes_at_first, prefix_len-le-length}
use Rattle.std.proofs.lemmas.List.Splits.{length-slice_split, slice_split_first, slice_split_none}
use Rattle.std.specs.Borrow.{Bor}
use Rattle.std.specs.List.{suffix_len, position, position_or_len, before_first, after_first, list_any, All}
use Rattle.bstr.specs.Bytes.{is_in, not_in}
use Rattle.bstr.specs.Text.{SplitsOnce}
use Rattle.memchr.specs.Find.{IsLastByte, FindsNeedle, OccursAt, matches, first_of}
use Rattle.memchr.proofs.lemmas.ValueLemmas.{FindsNeedle-value}
use Rattle.adb_banner.specs.declared.identity.TheConstants.{MAX_IDENTITY}
use Rattle.adb_banner.specs.Banner.{is_nul, is_colon, is_identity, without_nuls}

-- a byte that is outside the set of NUL is no NUL
not_in-nul : (byte : ℕ) → not_in (0 ∷ []) byte ≡ not (is_nul byte)
unfolding is_in
not_in-nul byte = go (byte == 0)
  where
    go : (b : Bool) → not (b || false) ≡ not b
    go true = refl
    go false = refl

nul_from_not : (byte : ℕ) → (not_in (0 ∷ []) byte ≡ true → ⊥) → is_nul byte ≡ true
nul_from_not byte h = go (is_nul byte) (not_in-nul byte)
  where
    go : (b : Bool) → not_in (0 ∷ []) byte ≡ not b → b ≡ true
    go true e = refl
    go false e = absurd (h e)

no_nul_from : (byte : ℕ) → not_in (0 ∷ []) byte ≡ true → is_nul byte ≡ false
no_nul_from byte h = go (is_nul byte) (not_in-nul byte)
  where
    go : (b : Bool) → not_in (0 ∷ []) byte ≡ not b → b ≡ false
    go true e = absurd (false≢true (sym e ∙ h))
    go false e = refl

taken : (bytes : List ℕ) (n : ℕ) → n ≤ length bytes → suffix_len is_nul bytes ≡ length bytes - n → take n bytes ≡ without_nuls bytes
taken bytes n le nuls =
    let same : n ≡ length bytes - suffix_len is_nul bytes = omega arith in ap (λ m. take m bytes) same

-- the bytes up to the last that is no NUL
pub without_nuls_is : (bytes : List ℕ) (last : Option ℕ) → IsLastByte (not_in (0 ∷ [])) bytes last
    → MatchOption last ([] ≡ without_nuls bytes) (λ k. take (k + 1) bytes ≡ without_nuls bytes)
without_nuls_is bytes None none =
    taken bytes 0 (omega arith)
    (suffix_len_is is_nul bytes 0 0 (omega arith) (λ k lo hi. nul_from_not _ (none k lo hi))
    (λ no. absurd (omega arith)))
without_nuls_is bytes (Some k) found =
    let inside : k + 1 ≤ length bytes = omega (arith, found.0.high) in
    let back : k + 1 - 1 ≡ k = omega arith in
    let ends : is_nul (get_or bytes (k + 1 - 1) 0) ≡ false = rw back (no_nul_from _ found.1) in
    taken bytes (k + 1) inside (suffix_len_is is_nul bytes (k + 1) 0 inside (λ q lo hi. nul_from_not _ (found.0.after q lo hi)) (λ _. ends))

list_any-none : (p : ℕ → Bool) (xs : List ℕ) → All (λ x. p x ≡ false) xs → list_any p xs ≡ false
list_any-none p [] all = refl
list_any-none p (x ∷ xs) all = go (p x) (All-head (λ y. p y ≡ false) x xs all) (list_any-none p xs (All-tail (λ y. p y ≡ false) x xs all))
  where
    go : (b : Bool) → b ≡ false → list_any p xs ≡ false → (b || list_any p xs) ≡ false
    go true e later = e
    go false e later = later

list_any-at : (p : ℕ → Bool) (xs : List ℕ) (i : ℕ) → i < length xs → p (get_or xs i 0) ≡ true → list_any p xs ≡ true
list_any-at p [] i lt h = absurd (omega arith)
list_any-at p (x ∷ xs) zero lt h = go (p x) h
  where
    go : (b : Bool) → b ≡ true → (b || list_any p xs) ≡ true
    go true e = refl
    go false e = absurd (false≢true e)
list_any-at p (x ∷ xs) (suc i) lt h = go (p x) (list_any-at p xs i (omega arith) h)
  where
    go : (b : Bool) → list_any p xs ≡ true → (b || list_any p xs) ≡ true
    go true later = refl
    go false later = later

module _ (p : ℕ → Bool) (bytes : List ℕ) where
  none_passes : position_or_len p bytes ≡ length bytes → All (λ byte. p byte ≡ false) bytes
  none_passes none =
      All-from_get_or (λ byte. p byte ≡ false) bytes 0 (λ i lt. fails_before_first p bytes i 0 (omega arith))

  -- how many pass, and whether any does, by the first that does
  count_by-none : position_or_len p bytes ≡ length bytes → count_by p bytes ≡ 0
  count_by-none none =
      let one = ap length (slice_split_none p bytes (none_passes none)) in omega (arith, length-slice_split p bytes, one)

  count_by-some : position_or_len p bytes < length bytes → count_by p bytes ≡ count_by p (after_first p bytes) + 1
  count_by-some some =
      let first = ap length (slice_split_first p bytes 0 some) in
      omega (arith, length-slice_split p bytes, length-slice_split p (after_first p bytes), first)

  any-some : position_or_len p bytes < length bytes → list_any p bytes ≡ true
  any-some some = list_any-at p bytes (position_or_len p bytes) some (passes_at_first p bytes 0 some)

module _ (c : ℕ) (bytes : List ℕ) where
  abbrev is_it : ℕ → Bool
  is_it byte = byte == c

  abbrev first : ℕ
  first = position_or_len is_it bytes

  occurs_there : (k : ℕ) → k < length bytes → get_or bytes k 0 ≡ c → OccursAt bytes (c ∷ []) k
  occurs_there k lt is = record { fits = omega arith; reads = at }
    where
      at : (j : ℕ) → j < 1 → get_or bytes (k + j) 0 ≡ get_or (c ∷ []) j 0
      at zero h = rw add-zero is
      at (suc j) h = absurd (omega arith)

  read_there : (k : ℕ) → OccursAt bytes (c ∷ []) k → is_it (get_or bytes k 0) ≡ true
  read_there k occurs =
      let read : get_or bytes (k + 0) 0 ≡ c = occurs.reads 0 (omega arith) in
      let is : get_or bytes k 0 ≡ c = rw add-zero at read in
      eq-eqb (get_or bytes k 0) c is

  not_before : (k : ℕ) → k < first → OccursAt bytes (c ∷ []) k → ⊥
  not_before k lt occurs = false≢true (sym (fails_before_first is_it bytes k 0 lt) ∙ read_there k occurs)

  -- the first match is the first such byte
  first_match : position is_it bytes ≡ first_of (matches bytes (c ∷ []) 0)
  first_match = FindsNeedle-value bytes (c ∷ []) (position is_it bytes) (go (nat_lt first (length bytes)) refl)
    where
      go : (b : Bool) → nat_lt first (length bytes) ≡ b → FindsNeedle bytes (c ∷ []) 0 (cond b (Some first) None)
      go true lt =
          let inside : first < length bytes = grind (arith, nat_tests) in
          let is : get_or bytes first 0 ≡ c = eqb-true _ c (passes_at_first is_it bytes 0 inside) in (
            record { low = omega arith; high = omega arith; before = λ k lo hi occurs. not_before k hi occurs },
            occurs_there first inside is,
          )
      go false ge =
          let end : length bytes ≤ first = grind (arith, nat_tests) in
          λ k lo hi occurs. not_before k (omega (arith, occurs.fits)) occurs

  -- there is no such byte
  pub record IsAbsent : Type 0 where
    pub count : count_by is_it bytes ≡ 0
    pub absent : list_any is_it bytes ≡ false

  -- these are the bytes before and after the first such byte
  pub record IsCut (front rest : List ℕ) : Type 0 where
    pub count : count_by is_it bytes ≡ count_by is_it (after_first is_it bytes) + 1
    pub some : list_any is_it bytes ≡ true
    pub before : front ≡ before_first is_it bytes
    pub after : rest ≡ after_first is_it bytes

  -- a cut at the first such byte, or none where there is no such byte
  pub cut_at_first : (cut : Option (Bor (List ℕ) × Bor (List ℕ))) → SplitsOnce bytes (c ∷ []) (first_of (matches bytes (c ∷ []) 0)) cut
      → MatchOption cut IsAbsent (λ x. IsCut x.0.now x.1.now)
  cut_at_first cut splits = go cut (subst (λ r. SplitsOnce bytes (c ∷ []) r cut) (sym first_match) splits)
    where
      end : position is_it bytes ≡ None → first ≡ length bytes
      end = go (nat_lt first (length bytes)) refl
        where
          go : (b : Bool) → nat_lt first (length bytes) ≡ b → cond b (Some first) None ≡ None → first ≡ length bytes
          go true lt e = cc
          go false ge e =
              let le = prefix_len-le-length (λ byte. not (is_it byte)) bytes in grind (arith, nat_tests)

      place : (k : ℕ) → position is_it bytes ≡ Some k → (first < length bytes) × (k ≡ first)
      place k = go (nat_lt first (length bytes)) refl
        where
          go : (b : Bool) → nat_lt first (length bytes) ≡ b → cond b (Some first) None ≡ Some k → (first < length bytes) × (k ≡ first)
          go true lt e = (grind (arith, nat_tests), cc)
          go false ge e = cc

      go : (cut : Option (Bor (List ℕ) × Bor (List ℕ))) → SplitsOnce bytes (c ∷ []) (position is_it bytes) cut
          → MatchOption cut IsAbsent (λ x. IsCut x.0.now x.1.now)
      go None none =
          record { count = count_by-none is_it bytes (end none); absent = list_any-none is_it bytes (none_passes is_it bytes (end none)) }
      go (Some x) some =
          let at = place some.0 some.1 in
          record {
            count = count_by-some is_it bytes at.0;
            some = any-some is_it bytes at.0;
            before = some.2 ∙ ap (λ k. take k bytes) at.1;
            after = some.3 ∙ ap (λ k. drop (k + 1) bytes) at.1;
          }

-- the test of an identity, over its two numbers
few : (n m : ℕ) → n < 2 → (nat_le 2 n && nat_le m MAX_IDENTITY) ≡ false
few n m h = grind (arith, nat_tests)

enough : (n m : ℕ) → 2 ≤ n → m ≤ MAX_IDENTITY → (nat_le 2 n && nat_le m MAX_IDENTITY) ≡ true
enough n m h short = grind (arith, nat_tests)

-- no colon, one, and two or more
module _ (text : List ℕ) where
  pub is_identity-none : count_by is_colon text ≡ 0 → is_identity text ≡ false
  is_identity-none none = few (count_by is_colon text) (length text) (omega arith)

  module _ (rest : List ℕ) (some : count_by is_colon text ≡ count_by is_colon (after_first is_colon text) + 1)
      (is : rest ≡ after_first is_colon text) where
    pub is_identity-one : count_by is_colon rest ≡ 0 → is_identity text ≡ false
    is_identity-one none =
        let same = ap (count_by is_colon) is in few (count_by is_colon text) (length text) (omega arith)

    pub is_identity-two : (n : ℕ) → count_by is_colon rest ≡ n + 1 → length text ≤ MAX_IDENTITY → is_identity text ≡ true
    is_identity-two n more short =
        let same = ap (count_by is_colon) is in enough (count_by is_colon text) (length text) (omega arith) short
