-- The first mark is the least.
use Rattle.std.proofs.Common.{ℕ, ◌≡◌, ◌≢◌, ◌<◌, ◌*◌, ◌+◌, ◌^◌, ◌/◌, ◌%◌, Bool, true, false, cond, List, [], ◌∷◌, Option, Some, None, refl}
use Rattle.std.proofs.Common.{sym, ◌∙◌}
use Rattle.std.proofs.Common.{ap, arith, ◌⊎◌, inl, inr}
use Rattle.std.specs.Prelude.{eqb}
use Rattle.std.specs.Int.{bit_at, trailing_zeros, w64}
use Rattle.std.specs.Option.{option_map_or}
use Rattle.std.specs.List.Sorted.{IsStrictlySortedBy}
use Rattle.std.proofs.lemmas.Bool.{cases_eq}
use Rattle.std.proofs.lemmas.Bool.Decides.{nat_tests}
use Rattle.std.proofs.lemmas.Nat.Bits.{bit_at-zero, bit_at-trailing_zeros}
use Rattle.adb_outside.specs.Tables.{at, IsRising}
use Rattle.adb_hub_tables.specs.declared.words.Block.{Block}
use Rattle.adb_hub_tables.specs.declared.words.Kind.{Kind}
use Rattle.adb_hub_tables.specs.First.{first_number, owes_at}
use Rattle.adb_hub_tables.specs.Marked.{marks_of, mark_in, mark, first_mark, IsBlock, AreBlocks, IsMarked, LacksBut}
use Rattle.adb_outside.proofs.TableLaws.{at_head, at_tail, below_head, past_head}
use Rattle.adb_hub_tables.proofs.TouchedRows.{none_owed, least_owed}

-- no number is marked, or this one is and none below it
abbrev pub IsLeast : Kind → List (ℕ × Block) → Option ℕ → Type 0
IsLeast which blocks None = (n : ℕ) → mark which blocks n ≡ 0
IsLeast which blocks (Some id) = (mark which blocks id ≡ 1) × ((n : ℕ) → n < id → mark which blocks n ≡ 0)

module _ (which : Kind) (e : ℕ × Block) (blocks : List (ℕ × Block)) (rises : IsRising (e ∷ blocks)) where
  mark_here : (n : ℕ) → n / 64 ≡ e.0 → mark which (e ∷ blocks) n ≡ bit_at (marks_of which e.1) (n % 64)
  mark_here n same = ap (λ o. mark_in which o (n % 64)) (ap (λ k. at k (e ∷ blocks)) same ∙ at_head e blocks)

  mark_there : (n : ℕ) → n / 64 ≢ e.0 → mark which (e ∷ blocks) n ≡ mark which blocks n
  mark_there n apart = ap (λ o. mark_in which o (n % 64)) (at_tail (n / 64) e blocks apart)

  not_there : (n : ℕ) → n / 64 ≡ e.0 → mark which blocks n ≡ 0
  not_there n same = ap (λ o. mark_in which o (n % 64)) (ap (λ k. at k blocks) same ∙ past_head e blocks rises)

  -- a block without marks
  passed : marks_of which e.1 ≡ 0 → (n : ℕ) → mark which (e ∷ blocks) n ≡ mark which blocks n
  passed none n = go (cases_eq (n / 64) e.0)
    where
      go : (n / 64 ≡ e.0) ⊎ (n / 64 ≡ e.0 → ⊥) → mark which (e ∷ blocks) n ≡ mark which blocks n
      go (inl same) = mark_here n same ∙ (ap (λ m. bit_at m (n % 64)) none ∙ (bit_at-zero (n % 64) ∙ sym (not_there n same)))
      go (inr apart) = mark_there n apart

  pass : marks_of which e.1 ≡ 0 → (first : Option ℕ) → IsLeast which blocks first → IsLeast which (e ∷ blocks) first
  pass none None least = λ n. passed none n ∙ least n
  pass none (Some id) least = (passed none id ∙ least.0, λ n under. passed none n ∙ least.1 n under)

  -- a block with marks
  stop : 0 < marks_of which e.1 → marks_of which e.1 < 2 ^ 64
      → IsLeast which (e ∷ blocks) (Some (e.0 * 64 + trailing_zeros w64 (marks_of which e.1)))
  stop some fits = (
    mark_here id high ∙ (ap (bit_at (marks_of which e.1)) place ∙ lowest.1),
    λ n under. below n under
        (cases_eq (n / 64) e.0),
  )
    where
      lowest : (trailing_zeros w64 (marks_of which e.1) < 64) × (bit_at (marks_of which e.1) (trailing_zeros w64 (marks_of which e.1)) ≡ 1)
          × ((i : ℕ) → i < trailing_zeros w64 (marks_of which e.1) → bit_at (marks_of which e.1) i ≡ 0)
      lowest = bit_at-trailing_zeros w64 (marks_of which e.1) some fits

      tz : ℕ
      tz = trailing_zeros w64 (marks_of which e.1)

      id : ℕ
      id = e.0 * 64 + tz

      within : tz < 64
      within = lowest.0

      high : id / 64 ≡ e.0
      high = parts e.0 tz within
        where
          parts : (a b : ℕ) → b < 64 → (a * 64 + b) / 64 ≡ a
          parts a b h = omega (arith, h)

      place : id % 64 ≡ tz
      place = parts e.0 tz within
        where
          parts : (a b : ℕ) → b < 64 → (a * 64 + b) % 64 ≡ b
          parts a b h = omega (arith, h)

      lower : (a n b : ℕ) → b < 64 → n < a * 64 + b → n / 64 ≡ a → n % 64 < b
      lower a n b h under same = omega (arith, h, under, same)

      before : (a n b : ℕ) → b < 64 → n < a * 64 + b → n / 64 ≢ a → n / 64 < a
      before a n b h under apart = omega (arith, h, under, apart)

      below : (n : ℕ) → n < id → (n / 64 ≡ e.0) ⊎ (n / 64 ≡ e.0 → ⊥) → mark which (e ∷ blocks) n ≡ 0
      below n under (inl same) = mark_here n same ∙ lowest.2 (n % 64) (lower e.0 n tz within under same)
      below n under (inr apart) = ap (λ o. mark_in which o (n % 64))
          (below_head (n / 64) e blocks rises (before e.0 n tz within under apart))

-- the blocks behind the first
pub behind : (e : ℕ × Block) (blocks : List (ℕ × Block)) → IsRising (e ∷ blocks) → AreBlocks (e ∷ blocks)
    → IsRising blocks × AreBlocks blocks
unfolding IsStrictlySortedBy
behind e blocks rises all = (rises.1, λ high block is. off high block is (cases_eq high e.0))
  where
    off : (high : ℕ) (block : Block) → at high blocks ≡ Some block → (high ≡ e.0) ⊎ (high ≡ e.0 → ⊥) → IsBlock high block
    off high block is (inl same) =
        absurd (let clash : None ≡ Some block = sym (ap (λ k. at k blocks) same ∙ past_head e blocks rises)
        ∙ is in cc)
    off high block is (inr apart) = all high block (at_tail high e blocks apart ∙ is)

-- The first block lies within 32 bits, and so does its mark.
pub first_block : (e : ℕ × Block) (blocks : List (ℕ × Block)) → AreBlocks (e ∷ blocks) → IsBlock e.0 e.1
first_block e blocks all = all e.0 e.1 (at_head e blocks)

pub place_fits : (high marked : ℕ) → high < 2 ^ 26 → 0 < marked → marked < 2 ^ 64 → high * 64 + trailing_zeros w64 marked < 2 ^ 32
place_fits high marked within some fits = let lowest = bit_at-trailing_zeros w64 marked some fits in omega (arith, within, lowest.0)

-- The first mark is the least, where the blocks are in rising order.
pub first_is_least : (which : Kind) (blocks : List (ℕ × Block)) → IsRising blocks → AreBlocks blocks
    → IsLeast which blocks (first_mark which blocks)
first_is_least which [] rises all = λ n. refl
first_is_least which (e ∷ blocks) rises all =
    let rest = behind e blocks rises all in go (eqb (marks_of which e.1) 0) refl (first_is_least which blocks rest.0 rest.1)
  where
    go : (b : Bool) → eqb (marks_of which e.1) 0 ≡ b → IsLeast which blocks (first_mark which blocks)
        → IsLeast which (e ∷ blocks) (cond b (first_mark which blocks) (Some (e.0 * 64 + trailing_zeros w64 (marks_of which e.1))))
    go true empty later = pass which e blocks rises (grind (arith, nat_tests)) (first_mark which blocks) later
    go false full later = stop which e blocks rises (grind (arith, nat_tests)) ((first_block e blocks all).fits which)

-- where no number has a mark there is no first
pub none_marked : (which : Kind) (blocks : List (ℕ × Block)) → IsRising blocks → AreBlocks blocks → ((n : ℕ) → mark which blocks n ≡ 0)
    → None ≡ first_mark which blocks
none_marked which blocks rises all none = go (first_mark which blocks) (first_is_least which blocks rises all)
  where
    go : (first : Option ℕ) → IsLeast which blocks first → None ≡ first
    go None least = refl
    go (Some id) least = absurd (let clash : 1 ≡ 0 = sym least.0 ∙ none id in omega (arith, clash))

-- a number that alone has a mark is the first
pub only_marked : (which : Kind) (blocks : List (ℕ × Block)) → IsRising blocks → AreBlocks blocks → (n : ℕ) → mark which blocks n ≡ 1
    → LacksBut which n blocks → Some n ≡ first_mark which blocks
only_marked which blocks rises all n one lacks = go (first_mark which blocks) (first_is_least which blocks rises all)
  where
    go : (first : Option ℕ) → IsLeast which blocks first → Some n ≡ first
    go None least = absurd (let clash : 1 ≡ 0 = sym one ∙ least n in omega (arith, clash))
    go (Some id) least = ap Some (sym (same (cases_eq id n)))
      where
        same : (id ≡ n) ⊎ (id ≡ n → ⊥) → id ≡ n
        same (inl it) = it
        same (inr off) = absurd (let clash : 1 ≡ 0 = sym least.0 ∙ lacks id off in omega (arith, clash))

-- the blocks that are left have the first mark of all
pub record Left (which : Kind) (all left : List (ℕ × Block)) : Type 0 where
  pub first : first_mark which left ≡ first_mark which all
  pub rises : IsRising left
  pub blocks : AreBlocks left

pub left_behind : (which : Kind) (all : List (ℕ × Block)) (e : ℕ × Block) (blocks : List (ℕ × Block)) → marks_of which e.1 ≡ 0
    → Left which all (e ∷ blocks) → Left which all blocks
left_behind which all e blocks none left =
    let rest = behind e blocks left.rises left.blocks in
    let passed : first_mark which (e ∷ blocks) ≡ first_mark which blocks = ap (λ (b : Bool). cond b (first_mark which blocks)
    (Some (e.0 * 64 + trailing_zeros w64 (marks_of which e.1)))) (zero_is (marks_of which e.1) none) in
    record { first = sym passed ∙ left.first; rises = rest.0; blocks = rest.1 }
  where
    zero_is : (n : ℕ) → n ≡ 0 → eqb n 0 ≡ true
    zero_is n is = grind (arith, nat_tests)

-- ---- the first row to which something is due
module _ {X : Type 0} {which : Kind} {owed : X → Bool} {blocks : List (ℕ × Block)} {rows : List (ℕ × X)}
    (marked : IsMarked which owed blocks rows) (rises : IsRising rows) where
  -- where a number is not marked, nothing is due to its row
  unmarked : (n : ℕ) (row : X) → at n rows ≡ Some row → mark which blocks n ≡ 0 → owed row ≡ false
  unmarked n row is none = go (owed row) refl
    where
      go : (b : Bool) → owed row ≡ b → b ≡ false
      go true due = absurd (let clash : 1 ≡ 0 = sym ((marked.each n row is).marked due) ∙ none in omega (arith, clash))
      go false nothing = refl

  pub nobody : IsLeast which blocks None → None ≡ first_number owed rows
  nobody none = sym (none_owed owed rows rises (λ n row is. unmarked n row is (none n)))

  pub somebody : (id : ℕ) → IsLeast which blocks (Some id) → owes_at owed id rows ≡ true → Some id ≡ first_number owed rows
  somebody id least due = go (at id rows) refl due
    where
      go : (o : Option X) → at id rows ≡ o → option_map_or owed o false ≡ true → Some id ≡ first_number owed rows
      go None none clash = cc
      go (Some row) is so = sym (least_owed owed rows id row rises is so (λ n other here under. unmarked n other here (least.1 n under)))

-- nothing is due to a row of which it was seen
pub seen : {X : Type 0} (owed : X → Bool) (n : ℕ) (rows : List (ℕ × X)) → owes_at owed n rows ≡ false → (row : X)
    → at n rows ≡ Some row → owed row ≡ false
seen owed n rows nothing row is = ap (λ (o : Option _). option_map_or owed o false) (sym is) ∙ nothing
