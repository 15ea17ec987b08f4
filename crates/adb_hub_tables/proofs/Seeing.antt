-- What was seen of the marks holds behind a change of one number.
use Rattle.std.proofs.Common.{ℕ, ◌≡◌, ◌≢◌, ◌<◌, ◌/◌, ◌%◌, true, List, Option, Some, None, refl, sym, ◌∙◌, ap, subst}
use Rattle.std.proofs.Common.{◌⊎◌, inl, inr}
use Rattle.std.specs.Prelude.{option_map}
use Rattle.std.specs.Int.{bit_at, w64}
use Rattle.std.proofs.lemmas.Bool.{cases_eq}
use Rattle.std.proofs.lemmas.Nat.Bits.{bit_at-zero, bit_at_set_other, bit_at_clear_other, bit_at_clear_same}
use Rattle.adb_outside.specs.Tables.{at, Puts}
use Rattle.adb_hub_tables.specs.declared.words.Block.{Block}
use Rattle.adb_hub_tables.specs.declared.words.Kind.{Kind}
use Rattle.adb_hub_tables.specs.declared.marks.Seen.{Seen}
use Rattle.adb_hub_tables.specs.declared.marks.Seen.TheVariants.{Nothing, Marked, Lack, Alone}
use Rattle.adb_hub_tables.specs.Marked.{marks_of, with_mark, without_mark, without_place, known, Thins}
use Rattle.adb_hub_tables.specs.Marked.{place, place_in, mark_in, mark, is_empty, IsMarkedIn, LacksBut, Unmarks, Holds}
use Rattle.adb_hub_tables.proofs.Marking.{low, apart_in, known_other, created, placed, marked_in, unmarked_in, left_in, leaves, seen_marked}
use Rattle.adb_hub_tables.proofs.Marking.{seen_known}

-- ---- the marks of the other numbers of a block
module _ (which : Kind) (i : ℕ) (within : i < 64) (j : ℕ) (apart : j ≢ i) where
  other_marked : (o : Option Block) → mark_in which (option_map (with_mark i) o) j ≡ mark_in which o j
  other_marked None = refl
  other_marked (Some b) = ap (λ w. bit_at w j) (marked_in which i b) ∙ known_other b.places (marks_of which b) i within j apart

  other_known : (o : Option Block) → mark_in which (Some (known i o)) j ≡ mark_in which o j
  other_known None = ap (λ w. bit_at w j) (created which i) ∙ (bit_at_set_other w64 0 i within j apart ∙ bit_at-zero j)
  other_known (Some b) = ap (λ w. bit_at w j) (placed which i b) ∙ bit_at_set_other w64 (marks_of which b) i within j apart

  module _ (below : j < 64) where
    other_unmarked : (gone : Kind) (o : Option Block) → mark_in which (option_map (without_mark gone i) o) j ≡ mark_in which o j
    other_unmarked gone None = refl
    other_unmarked gone (Some b) = (leaves which gone i within b).others j below apart

    other_left : (o : Option Block) → mark_in which (option_map (without_place i) o) j ≡ mark_in which o j
    other_left None = refl
    other_left (Some b) = ap (λ w. bit_at w j) (left_in which i b) ∙ bit_at_clear_other w64 (marks_of which b) i within j below apart

-- ---- and of all other numbers
module _ (which : Kind) {number : ℕ} {new : Option Block} {blocks others : List (ℕ × Block)} (puts : Puts (number / 64) new blocks others)
    (same : (j : ℕ) → j < 64 → j ≢ number % 64 → mark_in which new j ≡ mark_in which (at (number / 64) blocks) j) where
  same_apart : (n : ℕ) → n ≢ number → mark which others n ≡ mark which blocks n
  same_apart n apart = go (cases_eq (n / 64) (number / 64))
    where
      go : (n / 64 ≡ number / 64) ⊎ (n / 64 ≡ number / 64 → ⊥) → mark which others n ≡ mark which blocks n
      go (inl here) = ap (λ k. mark_in which (at k others) (n % 64)) here ∙ (ap (λ o. mark_in which o (n % 64)) puts.here
          ∙ (same (n % 64) (low n) (apart_in n number apart here) ∙ ap (λ k. mark_in which (at k blocks) (n % 64)) (sym here)))
      go (inr off) = ap (λ o. mark_in which o (n % 64)) (puts.others (n / 64) off)

  -- No number has a mark that only this one had, and lost.
  lost : LacksBut which number blocks → mark which others number ≡ 0 → Holds (Lack which) others
  lost lacks gone n = go (cases_eq n number)
    where
      go : (n ≡ number) ⊎ (n ≡ number → ⊥) → mark which others n ≡ 0
      go (inl it) = subst (λ k. mark which others k ≡ 0) (sym it) gone
      go (inr apart) = same_apart n apart ∙ lacks n apart

module _ (number : ℕ) {blocks others : List (ℕ × Block)} where
  -- A number that is known was marked.
  pub is_marked_in : Puts (number / 64) (option_map (with_mark (number % 64)) (at (number / 64) blocks)) blocks others
      → place others number ≡ 1
      → IsMarkedIn number blocks others
  is_marked_in puts known = record {
    all = λ which. seen_marked number puts known which;
    apart = λ which n apart. same_apart which puts
        (λ j below off. other_marked which (number % 64) (low number) j off (at (number / 64) blocks)) n apart;
  }

  -- A number came to be known.
  pub is_known_in : Puts (number / 64) (Some (known (number % 64) (at (number / 64) blocks))) blocks others
      → IsMarkedIn number blocks others
  is_known_in puts = record {
    all = λ which. seen_known number puts which;
    apart = λ which n apart. same_apart which puts
        (λ j below off. other_known which (number % 64) (low number) j off (at (number / 64) blocks)) n apart;
  }

  -- A mark was taken away.
  pub unmarked_last : (which : Kind)
      → Puts (number / 64) (option_map (without_mark which (number % 64)) (at (number / 64) blocks)) blocks others
      → Unmarks which number blocks others
  unmarked_last which puts lacks =
      lost which puts (λ j below off. other_unmarked which (number % 64) (low number) j off below which (at (number / 64) blocks)) lacks
      (ap (λ o. mark_in which o (number % 64)) puts.here ∙ go (at (number / 64) blocks))
    where
      go : (o : Option Block) → mark_in which (option_map (without_mark which (number % 64)) o) (number % 64) ≡ 0
      go None = refl
      go (Some b) = ap (λ w. bit_at w (number % 64)) (unmarked_in which (number % 64) b)
          ∙ bit_at_clear_same w64 (marks_of which b) (number % 64) (low number)

  -- A number is not known any more.
  pub forgotten_last : Puts (number / 64) (option_map (without_place (number % 64)) (at (number / 64) blocks)) blocks others
      → (which : Kind) → Unmarks which number blocks others
  forgotten_last puts which lacks =
      lost which puts (λ j below off. other_left which (number % 64) (low number) j off below (at (number / 64) blocks)) lacks
      (ap (λ o. mark_in which o (number % 64)) puts.here ∙ go (at (number / 64) blocks))
    where
      go : (o : Option Block) → mark_in which (option_map (without_place (number % 64)) o) (number % 64) ≡ 0
      go None = refl
      go (Some b) = ap (λ w. bit_at w (number % 64)) (left_in which (number % 64) b)
          ∙ bit_at_clear_same w64 (marks_of which b) (number % 64) (low number)

-- Where blocks go, no mark comes.
pub thinned_lack : (which : Kind) (blocks others : List (ℕ × Block)) → Thins blocks others → Holds (Lack which) blocks
    → Holds (Lack which) others
thinned_lack which blocks others thins lacks n = go (thins (n / 64))
  where
    go : (at (n / 64) others ≡ at (n / 64) blocks)
        ⊎ ((at (n / 64) others ≡ None) × (is_empty (at (n / 64) blocks) ≡ true)) → mark which others n ≡ 0
    go (inl same) = ap (λ o. mark_in which o (n % 64)) same ∙ lacks n
    go (inr gone) = ap (λ o. mark_in which o (n % 64)) gone.0

-- What was seen holds of blocks that are the same.
pub still_holds : (seen : Seen) (blocks others : List (ℕ × Block)) → ((k : ℕ) → at k others ≡ at k blocks)
    → Holds seen blocks → Holds seen others
still_holds Nothing blocks others same holds = tt
still_holds (Marked n) blocks others same holds = λ known which.
    ap (λ o. mark_in which o (n % 64)) (same (n / 64)) ∙ holds (sym (ap (λ o. place_in o (n % 64)) (same (n / 64))) ∙ known) which
still_holds (Lack which) blocks others same holds = λ n. ap (λ o. mark_in which o (n % 64)) (same (n / 64)) ∙ holds n
still_holds (Alone which n) blocks others same holds = (
  λ other. ap (λ o. mark_in other o (n % 64)) (same (n / 64)) ∙ holds.0 other,
  λ m apart. ap (λ o. mark_in which o (m % 64)) (same (m / 64)) ∙ holds.1 m apart,
)
