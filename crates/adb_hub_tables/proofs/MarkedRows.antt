-- A change of one block leaves each row known, and marked where something is due to it.
use Rattle.std.proofs.Common.{ℕ, ◌≡◌, ◌≢◌, ◌<◌, ◌^◌, ◌/◌, ◌%◌, Bool, true, false, cond}
use Rattle.std.proofs.Common.{List, filter, Option, Some, None, refl, sym, ◌∙◌, ap, subst}
use Rattle.std.proofs.Common.{arith, ◌⊎◌, inl, inr}
use Rattle.std.specs.Prelude.{bit_and, is_some, IfNone, IfSome, nat_eq, option_map}
use Rattle.std.specs.Int.{bit_at, bit_not, w64}
use Rattle.std.specs.BTreeMap.{is_at}
use Rattle.std.specs.Ordering.{nat_cmp}
use Rattle.std.specs.Map.{set_value}
use Rattle.std.proofs.lemmas.Map.Entries.{sum_by-set_value}
use Rattle.std.proofs.lemmas.Bool.{cases_eq}
use Rattle.std.proofs.lemmas.Bool.Decides.{nat_tests}
use Rattle.std.proofs.lemmas.Nat.{and_le_l}
use Rattle.std.proofs.lemmas.Nat.Bits.{bit_at-zero, bit_at_set_same, bit_at_clear_same}
use Rattle.adb_outside.specs.Tables.{at, Puts}
use Rattle.adb_hub_tables.specs.declared.words.Block.{Block}
use Rattle.adb_hub_tables.specs.declared.words.Kind.{Kind}
use Rattle.adb_hub_tables.specs.declared.words.Kind.TheVariants.{Due, News}
use Rattle.adb_hub_tables.specs.Marked.{bit, marks_of, with_mark, without_mark, without_place, known, forgotten}
use Rattle.adb_hub_tables.specs.Marked.{is_empty, Thins, Forgets, Names, Loses}
use Rattle.adb_hub_tables.specs.Marked.{place_in, mark_in, mark, IsBlock, IsMarkedAt, IsMarked, weight}
use Rattle.adb_hub_tables.proofs.TouchedRows.{written_other, written_none, left_at}
use Rattle.adb_hub_tables.proofs.Marking.{Turns, low, turned, place_now, mark_now, known_same, placed, created, marked_in, unmarked_in}
use Rattle.adb_hub_tables.proofs.Marking.{leaves, marks_block, knows_block, unmarks_block, empties_block, forgets_block}

-- Where blocks that know no number go, all rows are marked still.
thinned : {X : Type 0} {which : Kind} {owed : X → Bool} {blocks others : List (ℕ × Block)} {rows : List (ℕ × X)}
    → IsMarked which owed blocks rows
    → Thins blocks others → IsMarked which owed others rows
thinned {X} {which} {owed} {blocks} {others} {rows} marked thins =
    record {
      blocked = λ high block is. among high block is (thins high);
      each =
          λ n row is. still n (marked.each n row is) (thins (n / 64));
    }
  where
    among : (high : ℕ) (block : Block) → at high others ≡ Some block
        → (at high others ≡ at high blocks) ⊎ ((at high others ≡ None) × (is_empty (at high blocks) ≡ true)) → IsBlock high block
    among high block is (inl same) = marked.blocked high block (sym same ∙ is)
    among high block is (inr gone) = absurd (let clash : None ≡ Some block = sym gone.0 ∙ is in cc)

    some : (o : Option Block) (j : ℕ) → is_empty o ≡ true → place_in o j ≡ 1 → ⊥
    some None j empty one = cc
    some (Some b) j empty one =
        let none : b.places ≡ 0 = grind (arith, nat_tests) in
        let clash : 1 ≡ 0 = sym one ∙ (ap (λ p. bit_at p j) none ∙ bit_at-zero j) in
        omega (arith, clash)

    still : (n : ℕ) {row : X} → IsMarkedAt which owed blocks n row
        → (at (n / 64) others ≡ at (n / 64) blocks) ⊎ ((at (n / 64) others ≡ None) × (is_empty (at (n / 64) blocks) ≡ true))
        → IsMarkedAt which owed others n row
    still n was (inl same) = record {
      known = ap (λ o. place_in o (n % 64)) same
          ∙ was.known;
      marked = λ due. ap (λ o. mark_in which o (n % 64)) same ∙ was.marked due;
    }
    still n was (inr gone) = absurd (some (at (n / 64) blocks) (n % 64) gone.1 was.known)

-- the block of a number
abbrev pub block_at : ℕ → List (ℕ × Block) → Option Block
block_at number blocks = at (number / 64) blocks

same_number : (a b : ℕ) → a ≡ b → nat_eq a b ≡ true
same_number a b same = grind (arith, nat_tests)

module _ {X : Type 0} {which : Kind} {owed : X → Bool} (number : ℕ) (fits : number < 2 ^ 32)
    {blocks others : List (ℕ × Block)} {rows : List (ℕ × X)}
    (marked : IsMarked which owed blocks rows) where
  -- A row that is lent is marked first: then all rows are marked, whatever is written.
  module _ (puts : Puts (number / 64) (option_map (with_mark (number % 64)) (block_at number blocks)) blocks others) where
    lends : Turns number (option_map (with_mark (number % 64)) (block_at number blocks)) blocks others
    lends = let is_so = marks_block number fits (block_at number blocks) (marked.blocked (number / 64))
        in record { puts = puts; keeps = is_so.0; is_block = is_so.1 }

    now_marked : (old row : X) → at number rows ≡ Some old → IsMarkedAt which owed others number row
    now_marked old row was =
        let now = both (block_at number blocks) (marked.each number old was).known in
        record { known = place_now lends ∙ now.0; marked = λ due. mark_now lends which ∙ now.1 }
      where
        both : (o : Option Block) → place_in o (number % 64) ≡ 1
            → (place_in (option_map (with_mark (number % 64)) o) (number % 64) ≡ 1)
            × (mark_in which (option_map (with_mark (number % 64)) o) (number % 64) ≡ 1)
        both None none = cc
        both (Some b) was = (
          was,
          ap (λ w. bit_at w (number % 64)) (marked_in which (number % 64) b)
              ∙ known_same b.places (marks_of which b) (number % 64) (low number) was,
        )

    pub lent : (w : X) → IsMarked which owed others (set_value (is_at (nat_cmp number)) rows w)
    lent w = turned lends marked (λ n apart. written_other n number apart w rows) (λ row is. go (at number rows) refl row is)
      where
        go : (o : Option X) → at number rows ≡ o → (row : X) → at number (set_value (is_at (nat_cmp number)) rows w) ≡ Some row
            → IsMarkedAt which owed others number row
        go None none row is = absurd (let clash : None ≡ Some row = sym (written_none number w rows none) ∙ is in cc)
        go (Some old) was row is = now_marked old row was

    pub touched : (after : List (ℕ × X)) → ((n : ℕ) → n ≢ number → at n after ≡ at n rows)
        → ((row : X) → at number after ≡ Some row → (old : X) × (at number rows ≡ Some old)) → IsMarked which owed others after
    touched after same was = turned lends marked same (λ row is. let old = was row is in now_marked old.0 row old.1)

    pub unlent : IsMarked which owed others rows
    unlent = turned lends marked (λ n apart. refl) (λ row is. now_marked row row is)

    -- A number whose row is gone may be marked.
    pub gone : (after : List (ℕ × X)) → ((n : ℕ) → n ≢ number → at n after ≡ at n rows) → at number after ≡ None
        → IsMarked which owed others after
    gone after same none = turned lends marked same (λ row is. absurd (let clash : None ≡ Some row = sym none ∙ is in cc))

  -- A number that is known and marked may have any row, or none.
  pub grown : Puts (number / 64) (Some (known (number % 64) (block_at number blocks))) blocks others → (after : List (ℕ × X))
      → ((n : ℕ) → n ≢ number → at n after ≡ at n rows) → IsMarked which owed others after
  grown puts after same = turned turns marked same (λ row is. record {
    known = place_now turns
        ∙ (both (block_at number blocks)).0;
    marked = λ due. mark_now turns which ∙ (both (block_at number blocks)).1;
  })
    where
      turns : Turns number (Some (known (number % 64) (block_at number blocks))) blocks others
      turns = let is_so = knows_block number fits (block_at number blocks) (marked.blocked (number / 64))
          in record { puts = puts; keeps = is_so.0; is_block = is_so.1 }

      both : (o : Option Block) → (place_in (Some (known (number % 64) o)) (number % 64) ≡ 1)
          × (mark_in which (Some (known (number % 64) o)) (number % 64) ≡ 1)
      both None = (set_same, ap (λ w. bit_at w (number % 64)) (created which (number % 64)) ∙ set_same)
        where
          set_same : bit_at (bit (number % 64)) (number % 64) ≡ 1
          set_same = bit_at_set_same w64 0 (number % 64) (low number)
      both (Some b) = (
        bit_at_set_same w64 b.places (number % 64) (low number),
        ap (λ w. bit_at w (number % 64)) (placed which (number % 64) b) ∙ bit_at_set_same w64 (marks_of which b) (number % 64) (low number),
      )

  -- A number that has no row needs no place.
  pub dropped : Puts (number / 64) (forgotten (number % 64) (block_at number blocks)) blocks others → (after : List (ℕ × X))
      → ((n : ℕ) → n ≢ number → at n after ≡ at n rows) → at number after ≡ None → IsMarked which owed others after
  dropped puts after same none = turned turns marked same (λ row is. absurd (let clash : None ≡ Some row = sym none ∙ is in cc))
    where
      turns : Turns number (forgotten (number % 64) (block_at number blocks)) blocks others
      turns = let is_so = forgets_block number fits (block_at number blocks) (marked.blocked (number / 64))
          in record { puts = puts; keeps = is_so.0; is_block = is_so.1 }

  -- Nor does the block of one that is forgotten, once it is empty.
  pub lost : Forgets number blocks others → (after : List (ℕ × X)) → ((n : ℕ) → n ≢ number → at n after ≡ at n rows)
      → at number after ≡ None
      → IsMarked which owed others after
  lost h after same none =
      thinned (turned turns marked same (λ row is. absurd (let clash : None ≡ Some row = sym none ∙ is in cc))) h.thins
    where
      turns : Turns number (option_map (without_place (number % 64)) (block_at number blocks)) blocks h.between
      turns = let is_so = empties_block number fits (block_at number blocks) (marked.blocked (number / 64))
          in record { puts = h.left; keeps = is_so.0; is_block = is_so.1 }

  module _ (taken : Kind)
      (puts : Puts (number / 64) (option_map (without_mark taken (number % 64)) (block_at number blocks)) blocks
      others) where
    takes : Turns number (option_map (without_mark taken (number % 64)) (block_at number blocks)) blocks others
    takes = let is_so = unmarks_block number fits taken (block_at number blocks) (marked.blocked (number / 64))
        in record { puts = puts; keeps = is_so.0; is_block = is_so.1 }

    still_known : (o : Option Block) → place_in o (number % 64) ≡ 1
        → place_in (option_map (without_mark taken (number % 64)) o) (number % 64) ≡ 1
    still_known None none = cc
    still_known (Some b) was = ap (λ p. bit_at p (number % 64)) (leaves which taken (number % 64) (low number) b).places ∙ was

    -- A row to which nothing is due needs no mark.
    pub cleared : ((row : X) → at number rows ≡ Some row → owed row ≡ false) → IsMarked which owed others rows
    cleared nothing = turned takes marked (λ n apart. refl) (λ row is. record {
      known = place_now takes ∙ still_known (block_at number blocks) (marked.each number row is).known;
      marked = λ due. absurd (let clash : true ≡ false = sym due ∙ nothing row is in cc);
    })

    -- Another mark may go.
    pub unnamed : ((b : Block) → marks_of which (without_mark taken (number % 64) b) ≡ marks_of which b) → IsMarked which owed others rows
    unnamed same = turned takes marked (λ n apart. refl) (λ row is. let was = marked.each number row is in record {
      known = place_now takes ∙ still_known (block_at number blocks) was.known;
      marked = λ due. mark_now takes which ∙ (still (block_at number blocks) ∙ was.marked due);
    })
      where
        still : (o : Option Block) → mark_in which (option_map (without_mark taken (number % 64)) o) (number % 64)
            ≡ mark_in which o (number % 64)
        still None = refl
        still (Some b) = ap (λ w. bit_at w (number % 64)) (same b)

  -- A number may be named.
  pub still_named : (r : Bool) → is_some (at number rows) ≡ r → Names r number blocks others → which ≢ News
      → IsMarked which owed others rows
  still_named true some puts other = unnamed News puts (λ b. same which other b)
    where
      same : (w : Kind) → w ≢ News → (b : Block) → marks_of w (without_mark News (number % 64) b) ≡ marks_of w b
      same Due other b = refl
      same News other b = absurd (other refl)
  still_named false none forgets other = lost forgets rows (λ n apart. refl) (nobody (at number rows) none)
    where
      nobody : (o : Option X) → is_some o ≡ false → o ≡ None
      nobody None is = refl
      nobody (Some x) is = cc

  -- A number may lose its row.
  pub has_left : (watched : Bool) → Loses watched number blocks others → (after : List (ℕ × X))
      → ((n : ℕ) → n ≢ number → at n after ≡ at n rows) → at number after ≡ None → IsMarked which owed others after
  has_left true puts after same none = gone puts after same none
  has_left false forgets after same none = lost forgets after same none

  -- One row alone stays, with its block.
  pub alone : others ≡ filter (λ block. nat_eq block.0 (number / 64)) blocks → (after : List (ℕ × X))
      → after ≡ filter (λ row. nat_eq row.0 number) rows
      → IsMarked which owed others after
  alone is after left = record {
    blocked = λ high block here. blocks_left high block
        (sym (at_blocks high) ∙ here);
    each = λ n row here. rows_left n row (sym (at_rows n) ∙ here);
  }
    where
      at_blocks : (high : ℕ) → at high others ≡ cond (nat_eq (number / 64) high) (at high blocks) None
      at_blocks high = ap (at high) is ∙ left_at (number / 64) high blocks

      at_rows : (n : ℕ) → at n after ≡ cond (nat_eq number n) (at n rows) None
      at_rows n = ap (at n) left ∙ left_at number n rows

      blocks_left : (high : ℕ) (block : Block) → cond (nat_eq (number / 64) high) (at high blocks) None ≡ Some block → IsBlock high block
      blocks_left high block = go (nat_eq (number / 64) high)
        where
          go : (b : Bool) → cond b (at high blocks) None ≡ Some block → IsBlock high block
          go true it = marked.blocked high block it
          go false clash = cc

      rows_left : (n : ℕ) (row : X) → cond (nat_eq number n) (at n rows) None ≡ Some row → IsMarkedAt which owed others n row
      rows_left n row = go (nat_eq number n) refl
        where
          go : (b : Bool) → nat_eq number n ≡ b → cond b (at n rows) None ≡ Some row → IsMarkedAt which owed others n row
          go true same it =
              let was = marked.each n row it in
              let one : number ≡ n = grind (arith, nat_tests) in
              let stays : at (n / 64) others ≡ at (n / 64) blocks =
              at_blocks (n / 64) ∙ ap (λ (b : Bool). cond b (at (n / 64) blocks) None)
              (same_number (number / 64) (n / 64) (ap (λ k. k / 64) one)) in
              record {
                known = ap (λ o. place_in o (n % 64)) stays ∙ was.known;
                marked =
                    λ due. ap (λ o. mark_in which o (n % 64)) stays ∙ was.marked due;
              }
          go false off clash = cc

-- Whoever is named, all rows are marked still.
pub names : {X : Type 0} {owed : X → Bool} {blocks others : List (ℕ × Block)} {rows : List (ℕ × X)} (name : Option ℕ)
    → IfSome name (λ id. id < 2 ^ 32)
    → IfNone name (others ≡ blocks)
    → IfSome name (λ id. Names (is_some (at id rows)) id blocks others)
    → IsMarked Due owed blocks rows → IsMarked Due owed others rows
names {X} {owed} {blocks} {others} {rows} None fits same puts marked = subst (λ (b : _). IsMarked Due owed b rows) (sym same) marked
names {X} {owed} {blocks} {others} {rows} (Some id) fits same puts marked =
    still_named id fits marked (is_some (at id rows)) refl puts (λ clash. cc)

-- ---- what a change of the rows alone leaves
module _ {X : Type 0} {which : Kind} {owed : X → Bool} (number : ℕ) {blocks : List (ℕ × Block)} {rows : List (ℕ × X)}
    (marked : IsMarked which owed blocks rows) where
  -- A row to which nothing is due that was not due before needs no mark.
  pub lowered : (after : List (ℕ × X)) (new : Option X) → Puts number new rows after
      → ((row : X) → new ≡ Some row → (old : X) × (at number rows ≡ Some old) × (owed row ≡ true → owed old ≡ true))
      → IsMarked which owed blocks after
  lowered after new puts was = record { blocked = marked.blocked; each = λ n row is. go n row is (cases_eq n number) }
    where
      go : (n : ℕ) (row : X) → at n after ≡ Some row → (n ≡ number) ⊎ (n ≡ number → ⊥) → IsMarkedAt which owed blocks n row
      go n row is (inl same) =
          let old = was row (sym puts.here ∙ (ap (λ k. at k after) (sym same) ∙ is)) in
          let before = marked.each n old.0 (ap (λ k. at k rows) same ∙ old.1) in
          record { known = before.known; marked = λ due. before.marked (old.2 due) }
      go n row is (inr apart) = marked.each n row (sym (puts.others n apart) ∙ is)

-- ---- a mark that is taken away makes the marks less
less_without : (marked i : ℕ) → i < 64 → bit_at marked i ≡ 1 → bit_and marked (bit_not w64 (bit i)) < marked
less_without marked i within set = go (cases_eq (bit_and marked (bit_not w64 (bit i))) marked)
  where
    go : (bit_and marked (bit_not w64 (bit i)) ≡ marked) ⊎ (bit_and marked (bit_not w64 (bit i)) ≡ marked → ⊥)
        → bit_and marked (bit_not w64 (bit i)) < marked
    go (inl same) =
        absurd (let clash : 0 ≡ 1 = sym (bit_at_clear_same w64 marked i within)
        ∙ (ap (λ m. bit_at m i) same ∙ set) in omega (arith, clash))
    go (inr other) = omega (arith, other, and_le_l marked (bit_not w64 (bit i)))

pub lighter : (which : Kind) (number : ℕ) (blocks : List (ℕ × Block)) (block : Block) (after : List (ℕ × Block))
    → at (number / 64) blocks ≡ Some block
    → after ≡ set_value (is_at (nat_cmp (number / 64))) blocks (without_mark which (number % 64) block)
    → mark which blocks number ≡ 1 → weight which after < weight which blocks
lighter which number blocks block after found is set =
    let sums = sum_by-set_value (marks_of which) (is_at (nat_cmp (number / 64))) blocks block
    (without_mark which (number % 64) block) found in
    let bit_set : bit_at (marks_of which block) (number % 64) ≡ 1 = ap (λ o. mark_in which o (number % 64)) (sym found) ∙ set in
    let less = less_without (marks_of which block) (number % 64) (low number) bit_set in
    rw is (omega (arith, sums, subst (λ w. w < marks_of which block) (sym (unmarked_in which (number % 64) block)) less))
