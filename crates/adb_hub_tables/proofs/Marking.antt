-- What a change of one block leaves of its numbers and of their marks.
use Rattle.std.proofs.Common.{ℕ, zero, suc, ◌≡◌, ◌≢◌, ◌<◌, ◌≤◌, ◌^◌, ◌/◌, ◌%◌, Bool, true, false, cond}
use Rattle.std.proofs.Common.{List, Option, Some, None, refl, sym, ◌∙◌, ap, subst}
use Rattle.std.proofs.Common.{arith, ◌⊎◌, inl, inr}
use Rattle.std.specs.Prelude.{bit_and, bit_or, eqb, min, max, option_map}
use Rattle.std.specs.Int.{bit_at, bit_not, w64}
use Rattle.std.proofs.lemmas.Bool.{cases_eq}
use Rattle.std.proofs.lemmas.Bool.Decides.{nat_tests}
use Rattle.std.proofs.lemmas.Nat.{or_lt, and_le_l, and_le_r}
use Rattle.std.proofs.lemmas.Nat.Bits.{bit_at-zero, bit_at-lt, bit_at_and, bit_at_or, bit_at_set_same, bit_at_set_other, bit_at_clear_other}
use Rattle.std.proofs.lemmas.Nat.Bits.{same_from_bits}
use Rattle.adb_outside.specs.Tables.{at, Puts}
use Rattle.adb_hub_tables.specs.declared.words.Block.{Block}
use Rattle.adb_hub_tables.specs.declared.marks.Seen.TheVariants.{Marked}
use Rattle.adb_hub_tables.specs.declared.words.Kind.{Kind}
use Rattle.adb_hub_tables.specs.declared.words.Kind.TheVariants.{Due, News}
use Rattle.adb_hub_tables.specs.Marked.{bit, marks_of, new_block, place_bit, with_place, with_mark, without_mark, without_place, known}
use Rattle.adb_hub_tables.specs.Marked.{forgotten}
use Rattle.adb_hub_tables.specs.Marked.{place_in, mark_in, place, mark, IsBlock, AreBlocks, IsMarkedAt, IsMarked, Holds}

-- the i-th number of a block that is known is so still, with this mark as before
pub record Keeps (which : Kind) (old new : Option Block) (i : ℕ) : Type 0 where
  pub place : place_in new i ≡ 1
  pub mark : mark_in which new i ≡ mark_in which old i

-- that of the numbers of a block but one
abbrev pub KeepsOthers : Kind → ℕ → Option Block → Option Block → Type 0
KeepsOthers which i old new = (j : ℕ) → j < 64 → j ≢ i → place_in old j ≡ 1 → Keeps which old new j

-- what a block, if it is one, is among
abbrev pub IsBlockOf : ℕ → Option Block → Type 0
IsBlockOf high o = (block : Block) → o ≡ Some block → IsBlock high block

-- a change of the block of one number
pub record Turns (number : ℕ) (new : Option Block) (blocks others : List (ℕ × Block)) : Type 0 where
  pub puts : Puts (number / 64) new blocks others
  pub keeps : (which : Kind) → KeepsOthers which (number % 64) (at (number / 64) blocks) new
  pub is_block : IsBlockOf (number / 64) new

pub low : (n : ℕ) → n % 64 < 64
low n = omega arith

pub apart_in : (n number : ℕ) → n ≢ number → n / 64 ≡ number / 64 → n % 64 ≢ number % 64
apart_in n number apart same is = apart (omega (arith, same, is))

module _ {number : ℕ} {new : Option Block} {blocks others : List (ℕ × Block)} (h : Turns number new blocks others) where
  module _ (which : Kind) where
    other_marks : (n : ℕ) → n ≢ number → place blocks n ≡ 1 → (place others n ≡ 1) × (mark which others n ≡ mark which blocks n)
    other_marks n apart known = go (cases_eq (n / 64) (number / 64)) known
      where
        go : (n / 64 ≡ number / 64) ⊎ (n / 64 ≡ number / 64 → ⊥) → place_in (at (n / 64) blocks) (n % 64) ≡ 1
            → (place_in (at (n / 64) others) (n % 64) ≡ 1)
            × (mark_in which (at (n / 64) others) (n % 64) ≡ mark_in which (at (n / 64) blocks) (n % 64))
        go (inl same) here =
            let was : place_in (at (number / 64) blocks) (n % 64) ≡ 1 = ap (λ k. place_in (at k blocks) (n % 64)) (sym same) ∙ here in
            let is = h.keeps which (n % 64) (low n) (apart_in n number apart same) was in (
              ap (λ k. place_in (at k others) (n % 64)) same ∙ (ap (λ o. place_in o (n % 64)) h.puts.here ∙ is.place),
              ap (λ k. mark_in which (at k others) (n % 64)) same ∙ (ap (λ o. mark_in which o (n % 64)) h.puts.here
                  ∙ (is.mark ∙ ap (λ k. mark_in which (at k blocks) (n % 64)) (sym same))),
            )
        go (inr off) here =
            let is = h.puts.others (n / 64) off in
            (ap (λ o. place_in o (n % 64)) is ∙ here, ap (λ o. mark_in which o (n % 64)) is)

  pub still_blocks : AreBlocks blocks → AreBlocks others
  still_blocks all high block is = go (cases_eq high (number / 64))
    where
      go : (high ≡ number / 64) ⊎ (high ≡ number / 64 → ⊥) → IsBlock high block
      go (inl same) = subst (λ k. IsBlock k block) (sym same) (h.is_block block (sym h.puts.here ∙ (ap (λ k. at k others) (sym same) ∙ is)))
      go (inr off) = all high block (sym (h.puts.others high off) ∙ is)

  -- All rows are marked still, where those at other numbers are as before, and the one at this number is marked.
  pub turned : {X : Type 0} {which : Kind} {owed : X → Bool} {rows after : List (ℕ × X)} → IsMarked which owed blocks rows
      → ((n : ℕ) → n ≢ number → at n after ≡ at n rows)
      → ((row : X) → at number after ≡ Some row → IsMarkedAt which owed others number row) → IsMarked which owed others after
  turned {X} {which} {owed} {rows} {after} marked same here =
      record { blocked = still_blocks marked.blocked; each = λ n row is. go n row is (cases_eq n number) }
    where
      go : (n : ℕ) (row : X) → at n after ≡ Some row → (n ≡ number) ⊎ (n ≡ number → ⊥) → IsMarkedAt which owed others n row
      go n row is (inl it) = subst (λ k. IsMarkedAt which owed others k row) (sym it) (here row (ap (λ k. at k after) (sym it) ∙ is))
      go n row is (inr apart) =
          let was = marked.each n row (sym (same n apart) ∙ is) in
          let now = other_marks which n apart was.known in
          record { known = now.0; marked = λ due. now.1 ∙ was.marked due }

  pub place_now : place others number ≡ place_in new (number % 64)
  place_now = ap (λ o. place_in o (number % 64)) h.puts.here

  pub mark_now : (which : Kind) → mark which others number ≡ mark_in which new (number % 64)
  mark_now which = ap (λ o. mark_in which o (number % 64)) h.puts.here

-- ---- what each change makes of a block
bit_fits : (i : ℕ) → bit i < 2 ^ 64
bit_fits i = omega arith

high_fits : (number : ℕ) → number < 2 ^ 32 → number / 64 < 2 ^ 26
high_fits number fits = omega (arith, fits)

module _ (places marks i : ℕ) (within : i < 64) where
  -- a number that is known is marked
  pub known_same : bit_at places i ≡ 1 → bit_at (bit_or marks (bit_and places (bit i))) i ≡ 1
  known_same known =
      let set : bit_at (bit_and places (bit i)) i ≡ 1 = bit_at_and places (bit i) i ∙ (ap (λ b. min b (bit_at (bit i) i)) known
      ∙ ap (min 1) (bit_at_set_same w64 0 i within)) in
      bit_at_or marks (bit_and places (bit i)) i ∙ (ap (max (bit_at marks i)) set ∙ most (bit_at marks i) (bit_at-lt marks i))
    where
      most : (b : ℕ) → b < 2 → max b 1 ≡ 1
      most b below = omega (arith, below)

  -- others are marked as before
  pub known_other : (j : ℕ) → j ≢ i → bit_at (bit_or marks (bit_and places (bit i))) j ≡ bit_at marks j
  known_other j apart =
      let none : bit_at (bit i) j ≡ 0 = bit_at_set_other w64 0 i within j apart ∙ bit_at-zero j in
      let clear : bit_at (bit_and places (bit i)) j ≡ 0 = bit_at_and places (bit i) j
      ∙ (ap (min (bit_at places j)) none ∙ least (bit_at places j)) in
      bit_at_or marks (bit_and places (bit i)) j ∙ (ap (max (bit_at marks j)) clear ∙ most (bit_at marks j))
    where
      least : (b : ℕ) → min b 0 ≡ 0
      least b = omega arith

      most : (b : ℕ) → max b 0 ≡ b
      most b = omega arith

-- a number that is known and marked, or not known, needs no mark
already : (places marks i : ℕ) → i < 64 → (bit_at places i ≡ 1 → bit_at marks i ≡ 1) → bit_or marks (bit_and places (bit i)) ≡ marks
already places marks i within so = same_from_bits (bit_or marks (bit_and places (bit i))) marks (λ j. go j (cases_eq j i))
  where
    at_i : (b : ℕ) → bit_at places i ≡ b → b < 2 → bit_at (bit_or marks (bit_and places (bit i))) i ≡ bit_at marks i
    at_i zero none below = bit_at_or marks (bit_and places (bit i)) i ∙ (ap (max (bit_at marks i)) (bit_at_and places (bit i) i
        ∙ ap (λ b. min b (bit_at (bit i) i)) none) ∙ most (bit_at marks i) (bit_at (bit i) i))
      where
        most : (b c : ℕ) → max b (min 0 c) ≡ b
        most b c = omega arith
    at_i (suc zero) one below = known_same places marks i within one ∙ sym (so one)
    at_i (suc (suc n)) more below = absurd (omega (arith, below))

    go : (j : ℕ) → (j ≡ i) ⊎ (j ≡ i → ⊥) → bit_at (bit_or marks (bit_and places (bit i))) j ≡ bit_at marks j
    go j (inl same) = subst (λ k. bit_at (bit_or marks (bit_and places (bit i))) k ≡ bit_at marks k) (sym same)
        (at_i (bit_at places i) refl (bit_at-lt places i))
    go j (inr apart) = known_other places marks i within j apart

abbrev block_of : ℕ → ℕ → ℕ → Block
block_of p d n = record { places = p; due = d; news = n }

module _ (i : ℕ) (within : i < 64) (b : Block) where
  not_known : place_bit i b ≡ 0 → bit_at b.places i ≡ 1 → ⊥
  not_known none known =
      let set : bit_at (place_bit i b) i ≡ 1 = bit_at_and b.places (bit i) i ∙ (ap (λ k. min k (bit_at (bit i) i)) known
      ∙ ap (min 1) (bit_at_set_same w64 0 i within)) in
      let clash : 1 ≡ 0 = sym set ∙ (ap (λ p. bit_at p i) none ∙ bit_at-zero i) in
      omega (arith, clash)

  -- to mark a number that is not known changes nothing
  pub unplaced : place_bit i b ≡ 0 → b ≡ with_mark i b
  unplaced none =
      sym (ap (λ d. block_of b.places d (bit_or b.news (place_bit i b)))
      (already b.places b.due i within (λ known. absurd (not_known none known)))
      ∙ ap (block_of b.places b.due) (already b.places b.news i within (λ known. absurd (not_known none known))))

  -- a number with a place is known
  pub known_place : place_bit i b ≢ 0 → bit_at b.places i ≡ 1
  known_place some = go (bit_at b.places i) refl (bit_at-lt b.places i)
    where
      low_zero : (x : ℕ) → min 0 x ≡ 0
      low_zero x = omega arith

      high_zero : (x : ℕ) → min x 0 ≡ 0
      high_zero x = omega arith

      none : bit_at b.places i ≡ 0 → place_bit i b ≡ 0
      none off = same_from_bits (place_bit i b) 0 (λ j. at_bit j (cases_eq j i))
        where
          at_i : bit_at (place_bit i b) i ≡ bit_at 0 i
          at_i = bit_at_and b.places (bit i) i
              ∙ (ap (λ k. min k (bit_at (bit i) i)) off ∙ (low_zero (bit_at (bit i) i) ∙ sym (bit_at-zero i)))

          at_bit : (j : ℕ) → (j ≡ i) ⊎ (j ≡ i → ⊥) → bit_at (place_bit i b) j ≡ bit_at 0 j
          at_bit j (inl same) = subst (λ k. bit_at (place_bit i b) k ≡ bit_at 0 k) (sym same) at_i
          at_bit j (inr apart) = bit_at_and b.places (bit i) j
              ∙ (ap (min (bit_at b.places j)) (bit_at_set_other w64 0 i within j apart ∙ bit_at-zero j)
              ∙ (high_zero (bit_at b.places j) ∙ sym (bit_at-zero j)))

      go : (k : ℕ) → bit_at b.places i ≡ k → k < 2 → bit_at b.places i ≡ 1
      go zero off below = absurd (some (none off))
      go (suc zero) on below = on
      go (suc (suc n)) more below = absurd (omega (arith, below))

-- the words of a block with a number known, marked, unmarked or forgotten
pub placed : (which : Kind) (i : ℕ) (b : Block) → marks_of which (with_place i b) ≡ bit_or (marks_of which b) (bit i)
placed Due i b = refl
placed News i b = refl

pub created : (which : Kind) (i : ℕ) → marks_of which (new_block i) ≡ bit i
created Due i = refl
created News i = refl

pub marked_in : (which : Kind) (i : ℕ) (b : Block) → marks_of which (with_mark i b) ≡ bit_or (marks_of which b) (bit_and b.places (bit i))
marked_in Due i b = refl
marked_in News i b = refl

pub left_in : (which : Kind) (i : ℕ) (b : Block) → marks_of which (without_place i b) ≡ bit_and (marks_of which b) (bit_not w64 (bit i))
left_in Due i b = refl
left_in News i b = refl

pub unmarked_in : (which : Kind) (i : ℕ) (b : Block) → marks_of which (without_mark which i b)
    ≡ bit_and (marks_of which b) (bit_not w64 (bit i))
unmarked_in Due i b = refl
unmarked_in News i b = refl

-- what a mark that is taken away leaves of either word: no more than there was
pub record Leaves (which : Kind) (i : ℕ) (old new : Block) : Type 0 where
  pub places : new.places ≡ old.places
  pub less : marks_of which new ≤ marks_of which old
  pub others : (j : ℕ) → j < 64 → j ≢ i → bit_at (marks_of which new) j ≡ bit_at (marks_of which old) j

cleared_word : (word i : ℕ) → i < 64 → (j : ℕ) → j < 64 → j ≢ i → bit_at (bit_and word (bit_not w64 (bit i))) j ≡ bit_at word j
cleared_word word i within j below apart = bit_at_clear_other w64 word i within j below apart

pub leaves : (which gone : Kind) (i : ℕ) → i < 64 → (b : Block) → Leaves which i b (without_mark gone i b)
leaves Due Due i within b =
    record { places = refl; less = and_le_l b.due (bit_not w64 (bit i)); others = cleared_word b.due i within }
leaves Due News i within b = record { places = refl; less = omega arith; others = λ j below apart. refl }
leaves News Due i within b = record { places = refl; less = omega arith; others = λ j below apart. refl }
leaves News News i within b =
    record { places = refl; less = and_le_l b.news (bit_not w64 (bit i)); others = cleared_word b.news i within }

module _ (number : ℕ) (fits : number < 2 ^ 32) where
  abbrev i : ℕ
  i = number % 64

  abbrev high : ℕ
  high = number / 64

  pub marks_block : (o : Option Block) → IsBlockOf high o
      → ((which : Kind) → KeepsOthers which i o (option_map (with_mark i) o)) × IsBlockOf high (option_map (with_mark i) o)
  marks_block None is = (λ which j below apart none. cc, λ block clash. cc)
  marks_block (Some b) is = (
    λ which j below apart known. record {
      place = known;
      mark = ap (λ w. bit_at w j) (marked_in which i b) ∙ known_other b.places (marks_of which b) i (low number) j apart;
    },
    λ block made. subst (IsBlock high) (let same : with_mark i b ≡ block = cc in same) (record {
      within = high_fits number fits;
      fits = λ which. subst (λ w. w < 2 ^ 64) (sym (marked_in which i b))
          (or_lt 64 (marks_of which b) (place_bit i b) ((is b refl).fits which) (placed_bit b));
    }),
  )
    where
      placed_bit : (b : Block) → place_bit i b < 2 ^ 64
      placed_bit b = omega (arith, and_le_r b.places (bit i), bit_fits i)

  pub knows_block : (o : Option Block) → IsBlockOf high o
      → ((which : Kind) → KeepsOthers which i o (Some (known i o))) × IsBlockOf high (Some (known i o))
  knows_block None is = (
    λ which j below apart none. cc,
    λ block made. subst (IsBlock high) (let same : new_block i ≡ block = cc in same) (record {
      within = high_fits number fits;
      fits = λ which. subst (λ w. w < 2 ^ 64) (sym (created which i)) (bit_fits i);
    }),
  )
  knows_block (Some b) is = (
    λ which j below apart was. record {
      place = bit_at_set_other w64 b.places i (low number) j apart
          ∙ was;
      mark = ap (λ w. bit_at w j) (placed which i b) ∙ bit_at_set_other w64 (marks_of which b) i (low number) j apart;
    },
    λ block made. subst (IsBlock high) (let same : with_place i b ≡ block = cc in same) (record {
      within = high_fits number fits;
      fits = λ which. subst (λ w. w < 2 ^ 64) (sym (placed which i b))
          (or_lt 64 (marks_of which b) (bit i) ((is b refl).fits which) (bit_fits i));
    }),
  )

  pub unmarks_block : (gone : Kind) (o : Option Block) → IsBlockOf high o
      → ((which : Kind) → KeepsOthers which i o (option_map (without_mark gone i) o)) × IsBlockOf high (option_map (without_mark gone i) o)
  unmarks_block gone None is = (λ which j below apart none. cc, λ block clash. cc)
  unmarks_block gone (Some b) is = (
    λ which j below apart known. let it = leaves which gone i (low number) b in record {
      place = ap (λ p. bit_at p j) it.places
          ∙ known;
      mark = it.others j below apart;
    },
    λ block made. subst (IsBlock high) (let same : without_mark gone i b ≡ block = cc in same) (record {
      within = high_fits number fits;
      fits = λ which. omega (arith, (leaves which gone i (low number) b).less, (is b refl).fits which);
    }),
  )

  pub empties_block : (o : Option Block) → IsBlockOf high o
      → ((which : Kind) → KeepsOthers which i o (option_map (without_place i) o)) × IsBlockOf high (option_map (without_place i) o)
  empties_block None is = (λ which j below apart none. cc, λ block clash. cc)
  empties_block (Some b) is = (
    λ which j below apart was. record {
      place = bit_at_clear_other w64 b.places i (low number) j below apart
          ∙ was;
      mark = ap (λ w. bit_at w j) (left_in which i b) ∙ bit_at_clear_other w64 (marks_of which b) i (low number) j below apart;
    },
    λ block made. subst (IsBlock high) (let same : without_place i b ≡ block = cc in same) (record {
      within = high_fits number fits;
      fits = λ which. subst (λ w. w < 2 ^ 64) (sym (left_in which i b))
          (omega (arith, and_le_l (marks_of which b) (bit_not w64 (bit i)), (is b refl).fits which));
    }),
  )

  pub forgets_block : (o : Option Block) → IsBlockOf high o
      → ((which : Kind) → KeepsOthers which i o (forgotten i o)) × IsBlockOf high (forgotten i o)
  forgets_block None is = (λ which j below apart none. cc, λ block clash. cc)
  forgets_block (Some b) is = go (eqb (without_place i b).places 0) refl
    where
      left : Block
      left = without_place i b

      known_still : (j : ℕ) → j < 64 → j ≢ i → bit_at b.places j ≡ 1 → bit_at left.places j ≡ 1
      known_still j below apart was = bit_at_clear_other w64 b.places i (low number) j below apart ∙ was

      some : eqb left.places 0 ≡ true → (j : ℕ) → bit_at left.places j ≡ 1 → ⊥
      some empty j is =
          let none : left.places ≡ 0 = grind (arith, nat_tests) in
          let clash : 1 ≡ 0 = sym is ∙ (ap (λ p. bit_at p j) none ∙ bit_at-zero j) in
          omega (arith, clash)

      go : (e : Bool) → eqb left.places 0 ≡ e
          → ((which : Kind) → KeepsOthers which i (Some b) (cond e None (Some left))) × IsBlockOf high (cond e None (Some left))
      go true empty = (λ which j below apart was. absurd (some empty j (known_still j below apart was)), λ block clash. cc)
      go false full = (
        λ which j below apart was. record {
          place = known_still j below apart was;
          mark = ap (λ w. bit_at w j) (left_in which i b) ∙ bit_at_clear_other w64 (marks_of which b) i (low number) j below apart;
        },
        λ block made. subst (IsBlock high) (let same : left ≡ block = cc in same) (record {
          within = high_fits number fits;
          fits = λ which. subst (λ w. w < 2 ^ 64) (sym (left_in which i b))
              (omega (arith, and_le_l (marks_of which b) (bit_not w64 (bit i)), (is b refl).fits which));
        }),
      )

-- ---- what was seen of the marks
module _ (number : ℕ) {blocks others : List (ℕ × Block)} where
  -- a number that was marked has all marks, if it is known
  pub seen_marked : Puts (number / 64) (option_map (with_mark (number % 64)) (at (number / 64) blocks)) blocks others
      → Holds (Marked number) others
  seen_marked puts known which = ap (λ o. mark_in which o (number % 64)) puts.here
      ∙ go (at (number / 64) blocks) (sym (ap (λ o. place_in o (number % 64)) puts.here) ∙ known)
    where
      go : (o : Option Block) → place_in (option_map (with_mark (number % 64)) o) (number % 64) ≡ 1
          → mark_in which (option_map (with_mark (number % 64)) o) (number % 64) ≡ 1
      go None none = cc
      go (Some b) known = ap (λ w. bit_at w (number % 64)) (marked_in which (number % 64) b)
          ∙ known_same b.places (marks_of which b) (number % 64) (low number) known

  -- and so has one that came to be known
  pub seen_known : Puts (number / 64) (Some (known (number % 64) (at (number / 64) blocks))) blocks others
      → (which : Kind) → mark which others number ≡ 1
  seen_known puts which = ap (λ o. mark_in which o (number % 64)) puts.here ∙ go (at (number / 64) blocks)
    where
      go : (o : Option Block) → mark_in which (Some (known (number % 64) o)) (number % 64) ≡ 1
      go None = ap (λ w. bit_at w (number % 64)) (created which (number % 64)) ∙ bit_at_set_same w64 0 (number % 64) (low number)
      go (Some b) = ap (λ w. bit_at w (number % 64)) (placed which (number % 64) b)
          ∙ bit_at_set_same w64 (marks_of which b) (number % 64) (low number)

-- to mark it again changes nothing
pub marked_twice : (number : ℕ) (blocks : List (ℕ × Block)) → Holds (Marked number) blocks
    → Puts (number / 64) (option_map (with_mark (number % 64)) (at (number / 64) blocks)) blocks blocks
marked_twice number blocks holds = record { here = go (at (number / 64) blocks) refl; others = λ n apart. refl }
  where
    same : (b : Block) → at (number / 64) blocks ≡ Some b → with_mark (number % 64) b ≡ b
    same b is =
        let so : (which : Kind) → bit_at b.places (number % 64) ≡ 1 → bit_at (marks_of which b) (number % 64) ≡ 1 = λ which one.
        sym (ap (λ o. mark_in which o (number % 64)) is) ∙ holds (ap (λ o. place_in o (number % 64)) is ∙ one) which in
        ap (λ d. block_of b.places d (bit_or b.news (place_bit (number % 64) b)))
        (already b.places b.due (number % 64) (low number) (so Due))
        ∙ ap (block_of b.places b.due) (already b.places b.news (number % 64) (low number) (so News))

    go : (o : Option Block) → at (number / 64) blocks ≡ o → o ≡ option_map (with_mark (number % 64)) o
    go None is = refl
    go (Some b) is = sym (ap Some (same b is))
