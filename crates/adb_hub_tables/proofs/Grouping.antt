-- A change of a block leaves it known among the groups, and marked there where it has marks.
use Rattle.std.proofs.Common.{ℕ, ◌≡◌, ◌<◌, ◌≤◌, ◌*◌, ◌+◌, ◌^◌, ◌/◌, ◌%◌, Bool, true, false, cond, List, [], ◌∷◌, Option, Some, None, refl}
use Rattle.std.proofs.Common.{sym, ◌∙◌}
use Rattle.std.proofs.Common.{ap, subst, arith, ◌⊎◌, inl, inr}
use Rattle.std.specs.Prelude.{eqb, not, ◌||◌, option_map}
use Rattle.std.specs.Int.{bit_not, trailing_zeros, w64}
use Rattle.std.specs.Option.{option_map_or}
use Rattle.std.proofs.lemmas.Bool.Decides.{nat_tests}
use Rattle.std.proofs.lemmas.Nat.{and_le_l}
use Rattle.std.specs.List.Sorted.{IsStrictlySortedBy}
use Rattle.adb_outside.specs.Tables.{at, IsRising, Puts}
use Rattle.adb_hub_tables.specs.declared.words.Block.{Block}
use Rattle.adb_hub_tables.specs.declared.words.Kind.{Kind}
use Rattle.adb_hub_tables.specs.declared.words.Kind.TheVariants.{Due, News}
use Rattle.adb_hub_tables.specs.First.{first_number, owes_at}
use Rattle.adb_hub_tables.specs.Marked.{bit, marks_of, with_mark, without_mark, without_place, has_marks, lacks_marks}
use Rattle.adb_hub_tables.specs.Marked.{mark, first_at, first_mark, AreBlocks, IsMarked, AreGrouped}
use Rattle.std.proofs.lemmas.Bool.{cases_eq}
use Rattle.adb_outside.proofs.TableLaws.{at_head, at_tail, past_head}
use Rattle.adb_hub_tables.proofs.Marking.{leaves, left_in, low}
use Rattle.adb_hub_tables.proofs.MarkedRows.{cleared, unnamed, touched, lowered}
use Rattle.adb_hub_tables.proofs.FirstMark.{IsLeast, first_is_least, nobody, seen}

pub high_below : (number : ℕ) → number < 2 ^ 32 → number / 64 < 2 ^ 32
high_below number fits = omega (arith, fits)

some_before : (m n : ℕ) → m ≤ n → not (eqb m 0) ≡ true → not (eqb n 0) ≡ true
some_before m n below some = grind (arith, nat_tests)

-- a block that lacks no mark has each
has_all : (which : Kind) (b : Block) → lacks_marks b ≡ false → has_marks which b ≡ true
has_all which b full = go which (eqb b.due 0) (eqb b.news 0) refl refl full
  where
    go : (which : Kind) (x y : Bool) → eqb b.due 0 ≡ x → eqb b.news 0 ≡ y → (x || y) ≡ false → has_marks which b ≡ true
    go which true y due news clash = cc
    go which false true due news clash = cc
    go Due false false due news is = ap not due
    go News false false due news is = ap not news

module _ (number : ℕ) (fits : number < 2 ^ 32) {groups blocks : List (ℕ × Block)} (grouped : AreGrouped groups blocks) where
  -- a mark is set in a block, and the block is marked
  pub mark_grouped : {after : List (ℕ × Block)} → Puts (number / 64)
      (option_map (with_mark (number % 64)) (at (number / 64) blocks)) blocks after
      → {others : List (ℕ × Block)} → Puts (number / 64 / 64)
      (option_map (with_mark (number / 64 % 64)) (at (number / 64 / 64) groups)) groups others
      → AreGrouped others after
  mark_grouped {after} puts {others} on which = touched (number / 64) (high_below number fits) (grouped which) on after puts.others
      (λ row is. go (at (number / 64) blocks) refl row (sym puts.here ∙ is))
    where
      go : (o : Option Block) → at (number / 64) blocks ≡ o → (row : Block) → option_map (with_mark (number % 64)) o ≡ Some row
          → (old : Block) × (at (number / 64) blocks ≡ Some old)
      go None is row made = absurd (let clash : None ≡ Some row = made in cc)
      go (Some old) is row made = (old, is)

  -- a mark is set in a block that has all marks somewhere
  pub mark_full : {after : List (ℕ × Block)} → Puts (number / 64)
      (option_map (with_mark (number % 64)) (at (number / 64) blocks)) blocks after
      → option_map_or lacks_marks (at (number / 64) blocks) false ≡ false → AreGrouped groups after
  mark_full {after} puts full which = lowered (number / 64) (grouped which) after _ puts
      (λ row is. go (at (number / 64) blocks) refl full row is)
    where
      go : (o : Option Block) → at (number / 64) blocks ≡ o → option_map_or lacks_marks o false ≡ false → (row : Block)
          → option_map (with_mark (number % 64)) o ≡ Some row
          → (old : Block) × (at (number / 64) blocks ≡ Some old) × (has_marks which row ≡ true → has_marks which old ≡ true)
      go None is full row made = absurd (let clash : None ≡ Some row = made in cc)
      go (Some old) is full row made = (old, is, λ due. has_all which old full)

  -- a mark of a number that is not known changes nothing
  pub mark_unknown : {after : List (ℕ × Block)} → ((k : ℕ) → at k after ≡ at k blocks) → AreGrouped groups after
  mark_unknown {after} same which =
      record { blocked = (grouped which).blocked; each = λ n row is. (grouped which).each n row (sym (same n) ∙ is) }

  -- a mark is taken away in a block
  pub unmark_grouped : (gone : Kind) {after : List (ℕ × Block)}
      → Puts (number / 64) (option_map (without_mark gone (number % 64)) (at (number / 64) blocks)) blocks after → AreGrouped groups after
  unmark_grouped gone {after} puts which = lowered (number / 64) (grouped which) after _ puts
      (λ row is. go (at (number / 64) blocks) refl row is)
    where
      go : (o : Option Block) → at (number / 64) blocks ≡ o → (row : Block) → option_map (without_mark gone (number % 64)) o ≡ Some row
          → (old : Block) × (at (number / 64) blocks ≡ Some old) × (has_marks which row ≡ true → has_marks which old ≡ true)
      go None is row made = absurd (let clash : None ≡ Some row = made in cc)
      go (Some old) is row made = (old, is, λ due. some_before (marks_of which row) (marks_of which old) (fewer made) due)
        where
          fewer : option_map (without_mark gone (number % 64)) (Some old) ≡ Some row → marks_of which row ≤ marks_of which old
          fewer same =
              let it : without_mark gone (number % 64) old ≡ row = cc in
              subst (λ (b : Block). marks_of which b ≤ marks_of which old) it (leaves which gone (number % 64) (low number) old).less

  -- a number is forgotten in a block
  pub forget_grouped : {after : List (ℕ × Block)}
      → Puts (number / 64) (option_map (without_place (number % 64)) (at (number / 64) blocks)) blocks after → AreGrouped groups after
  forget_grouped {after} puts which = lowered (number / 64) (grouped which) after _ puts
      (λ row is. go (at (number / 64) blocks) refl row is)
    where
      go : (o : Option Block) → at (number / 64) blocks ≡ o → (row : Block) → option_map (without_place (number % 64)) o ≡ Some row
          → (old : Block) × (at (number / 64) blocks ≡ Some old) × (has_marks which row ≡ true → has_marks which old ≡ true)
      go None is row made = absurd (let clash : None ≡ Some row = made in cc)
      go (Some old) is row made = (old, is, λ due. some_before (marks_of which row) (marks_of which old) (fewer made) due)
        where
          fewer : option_map (without_place (number % 64)) (Some old) ≡ Some row → marks_of which row ≤ marks_of which old
          fewer same =
              let it : without_place (number % 64) old ≡ row = cc in
              let less : marks_of which (without_place (number % 64) old) ≤ marks_of which old =
              subst (λ m. m ≤ marks_of which old) (sym (left_in which (number % 64) old))
              (and_le_l (marks_of which old) (bit_not w64 (bit (number % 64)))) in
              subst (λ (b : Block). marks_of which b ≤ marks_of which old) it less

-- a block without a mark is not marked with it among the groups
pub ungrouped : (gone which : Kind) (high : ℕ) → high < 2 ^ 32 → {groups others blocks : List (ℕ × Block)}
    → IsMarked which (has_marks which) groups blocks
    → Puts (high / 64) (option_map (without_mark gone (high % 64)) (at (high / 64) groups)) groups others
    → owes_at (has_marks gone) high blocks ≡ false → IsMarked which (has_marks which) others blocks
ungrouped Due Due high fits {groups} {others} {blocks} marked puts none =
    cleared high fits marked Due puts (seen (has_marks Due) high blocks none)
ungrouped Due News high fits marked puts none = unnamed high fits marked Due puts (λ b. refl)
ungrouped News Due high fits marked puts none = unnamed high fits marked News puts (λ b. refl)
ungrouped News News high fits {groups} {others} {blocks} marked puts none =
    cleared high fits marked News puts (seen (has_marks News) high blocks none)

-- the first block with marks, and the first mark of all in it
pub record IsFirstBlock (which : Kind) (blocks : List (ℕ × Block)) (high : ℕ) : Type 0 where
  pub block : Block
  pub here : at high blocks ≡ Some block
  pub first : first_mark which blocks ≡ first_at which high (Some block)

pub first_of_block : (which : Kind) (blocks : List (ℕ × Block)) → IsRising blocks → (high : ℕ)
    → first_number (has_marks which) blocks ≡ Some high → IsFirstBlock which blocks high
unfolding IsStrictlySortedBy
first_of_block which [] rises high is = absurd (let clash : None ≡ Some high = is in cc)
first_of_block which (e ∷ blocks) rises high is = go (eqb (marks_of which e.1) 0) refl is (first_of_block which blocks rises.1 high)
  where
    apart : IsFirstBlock which blocks high → (high ≡ e.0) ⊎ (high ≡ e.0 → ⊥) → at high (e ∷ blocks) ≡ at high blocks
    apart tail (inl same) =
        absurd (let clash : None ≡ Some tail.block = sym (ap (λ k. at k blocks) same ∙ past_head e blocks rises)
        ∙ tail.here in cc)
    apart tail (inr off) = at_tail high e blocks off

    go : (b : Bool) → eqb (marks_of which e.1) 0 ≡ b → cond (not b) (Some e.0) (first_number (has_marks which) blocks) ≡ Some high
        → (first_number (has_marks which) blocks ≡ Some high → IsFirstBlock which blocks high) → IsFirstBlock which (e ∷ blocks) high
    go true empty among later =
        let tail = later among in
        record { block = tail.block; here = apart tail (cases_eq high e.0) ∙ tail.here; first = rw empty tail.first }
    go false full among later =
        let same : e.0 ≡ high = cc in
        record {
          block = e.1;
          here = ap (λ k. at k (e ∷ blocks)) (sym same) ∙ at_head e blocks;
          first = rw full (ap (λ k. Some (k * 64 + trailing_zeros w64 (marks_of which e.1))) same);
        }

pub first_of_none : (which : Kind) (blocks : List (ℕ × Block)) → first_number (has_marks which) blocks ≡ None
    → first_mark which blocks ≡ None
first_of_none which [] is = refl
first_of_none which (e ∷ blocks) is = go (eqb (marks_of which e.1) 0) refl is (first_of_none which blocks)
  where
    go : (b : Bool) → eqb (marks_of which e.1) 0 ≡ b → cond (not b) (Some e.0) (first_number (has_marks which) blocks) ≡ None
        → (first_number (has_marks which) blocks ≡ None → first_mark which blocks ≡ None) → first_mark which (e ∷ blocks) ≡ None
    go true empty none later = rw empty (later none)
    go false full clash later = absurd (let no_way : Some e.0 ≡ None = clash in cc)

-- the first mark of the first block that has marks is the first of all
pub first_found : (which : Kind) (blocks : List (ℕ × Block)) (high number : ℕ) → IsRising blocks
    → (owes_at (has_marks which) high blocks ≡ true → Some high ≡ first_number (has_marks which) blocks)
    → Some number ≡ first_at which high (at high blocks) → Some number ≡ first_mark which blocks
first_found which blocks high number rises first found = go (at high blocks) refl found
  where
    go : (o : Option Block) → at high blocks ≡ o → Some number ≡ first_at which high o → Some number ≡ first_mark which blocks
    go None is clash = cc
    go (Some b) is here = full (eqb (marks_of which b) 0) refl here
      where
        full : (e : Bool) → eqb (marks_of which b) 0 ≡ e → Some number
            ≡ cond e None (Some (high * 64 + trailing_zeros w64 (marks_of which b)))
            → Some number ≡ first_mark which blocks
        full true empty clash = cc
        full false some here =
            let due : owes_at (has_marks which) high blocks ≡ true =
            ap (λ (o : Option Block). option_map_or (has_marks which) o false) is ∙ ap not some in
            let it = first_of_block which blocks rises high (sym (first due)) in
            let same : Some b ≡ Some it.block = sym is ∙ it.here in
            here ∙ (sym (rw some refl) ∙ (ap (first_at which high) same ∙ sym it.first))

-- a block in which none is marked has no marks
pub none_found : (which : Kind) (blocks : List (ℕ × Block)) (high : ℕ) → first_at which high (at high blocks) ≡ None
    → owes_at (has_marks which) high blocks ≡ false
none_found which blocks high none = go (at high blocks) none
  where
    go : (o : Option Block) → first_at which high o ≡ None → option_map_or (has_marks which) o false ≡ false
    go None is = refl
    go (Some b) is = empty (eqb (marks_of which b) 0) is
      where
        empty : (e : Bool) → cond e None (Some (high * 64 + trailing_zeros w64 (marks_of which b))) ≡ None → not e ≡ false
        empty true is = refl
        empty false clash = cc

-- where no block has marks there is no first mark
pub none_of_groups : (which : Kind) {groups blocks : List (ℕ × Block)}
    → IsMarked which (has_marks which) groups blocks → IsRising groups → IsRising blocks
    → None ≡ first_mark which groups → None ≡ first_mark which blocks
none_of_groups which {groups} {blocks} marked rises_groups rises none =
    let least = subst (λ (first : Option ℕ). IsLeast which groups first) (sym none)
    (first_is_least which groups rises_groups marked.blocked) in
    sym (first_of_none which blocks (sym (nobody marked rises least)))

-- and where there is no first mark no number has one
pub lacks_all : (which : Kind) (blocks : List (ℕ × Block)) → IsRising blocks → AreBlocks blocks → None ≡ first_mark which blocks
    → (n : ℕ) → mark which blocks n ≡ 0
lacks_all which blocks rises all none = subst (λ (first : Option ℕ). IsLeast which blocks first) (sym none)
    (first_is_least which blocks rises all)
