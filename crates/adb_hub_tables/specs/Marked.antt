-- Numbers that are known, and those of them that are marked, in blocks of 64.
use Rattle.std.specs.Prelude.{ℕ, ◌≡◌, ◌≢◌, ◌<◌, ◌*◌, ◌+◌, ◌^◌, ◌/◌, ◌%◌, ◌||◌, ◌⊎◌, ⊤, Bool, true, false, not, eqb, if◌then◌else◌, List, []}
use Rattle.std.specs.Prelude.{◌∷◌, Option, Some, None}
use Rattle.std.specs.Prelude.{bit_and, bit_or, option_map}
use Rattle.std.specs.List.{sum_by}
use Rattle.std.specs.Map.{values_of}
use Rattle.std.specs.Int.{bit_at, bit_not, trailing_zeros, w64}
use Rattle.adb_outside.specs.Tables.{at, Puts}
use Rattle.adb_hub_tables.specs.declared.words.Block.{Block}
use Rattle.adb_hub_tables.specs.declared.marks.Seen.{Seen}
use Rattle.adb_hub_tables.specs.declared.marks.Seen.TheVariants.{Nothing, Marked, Lack, Alone}
use Rattle.adb_hub_tables.specs.declared.words.Kind.{Kind}
use Rattle.adb_hub_tables.specs.declared.words.Kind.TheVariants.{Due, News}

-- the i-th bit alone
abbrev pub bit : ℕ → ℕ
bit i = 1 * 2 ^ i % 2 ^ 64

-- the numbers of a block that have a mark
abbrev pub marks_of : Kind → Block → ℕ
marks_of Due block = block.due
marks_of News block = block.news

-- a block that knows one number, with all marks
abbrev pub new_block : ℕ → Block
new_block i = record { places = bit i; due = bit i; news = bit i }

-- with a number known, with all marks
abbrev pub with_place : ℕ → Block → Block
with_place i block = record { places = bit_or block.places (bit i); due = bit_or block.due (bit i); news = bit_or block.news (bit i) }

-- the i-th bit alone, if that number is known
abbrev pub place_bit : ℕ → Block → ℕ
place_bit i block = bit_and block.places (bit i)

-- with all marks of a number, if it is known
abbrev pub with_mark : ℕ → Block → Block
with_mark i block =
    record { places = block.places; due = bit_or block.due (place_bit i block); news = bit_or block.news (place_bit i block) }

-- without a mark of a number
abbrev pub without_mark : Kind → ℕ → Block → Block
without_mark Due i block = record { places = block.places; due = bit_and block.due (bit_not w64 (bit i)); news = block.news }
without_mark News i block = record { places = block.places; due = block.due; news = bit_and block.news (bit_not w64 (bit i)) }

-- with a number not known, and without its marks
abbrev pub without_place : ℕ → Block → Block
without_place i block = record {
  places = bit_and block.places (bit_not w64 (bit i));
  due = bit_and block.due (bit_not w64 (bit i));
  news = bit_and block.news (bit_not w64 (bit i));
}

-- what a block, or none, is with a number known, with all marks
abbrev pub known : ℕ → Option Block → Block
known i None = new_block i
known i (Some block) = with_place i block

-- a block that knows no number
abbrev pub is_empty : Option Block → Bool
is_empty None = false
is_empty (Some block) = eqb block.places 0

-- a block, if it knows a number
abbrev pub kept : Block → Option Block
kept block = if eqb block.places 0 then None else Some block

-- what is left of a block with a number not known and without marks: nothing where no other is known
abbrev pub forgotten : ℕ → Option Block → Option Block
forgotten i None = None
forgotten i (Some block) = kept (without_place i block)

-- whether a block knows the i-th of its numbers, as a bit
abbrev pub place_in : Option Block → ℕ → ℕ
place_in None i = 0
place_in (Some block) i = bit_at block.places i

-- whether a number is known
abbrev pub place : List (ℕ × Block) → ℕ → ℕ
place blocks n = place_in (at (n / 64) blocks) (n % 64)

-- The i-th number of a block, if it is one, is known there.
abbrev pub IsKnownIn : Option Block → ℕ → Type 0
IsKnownIn block i = place_in block i ≡ 1

-- whether any number of a block has a mark
abbrev pub has_marks : Kind → Block → Bool
has_marks which block = not (eqb (marks_of which block) 0)

-- whether there is a mark that none has
abbrev pub lacks_marks : Block → Bool
lacks_marks block = eqb block.due 0 || eqb block.news 0

-- Each block is as it was, or knew no number and is gone.
abbrev pub Thins : List (ℕ × Block) → List (ℕ × Block) → Type 0
Thins blocks others = (high : ℕ) → (at high others ≡ at high blocks) ⊎ ((at high others ≡ None) × (is_empty (at high blocks) ≡ true))

-- A number is not known any more and has no mark, and a block that knows none may be gone.
pub record Forgets (number : ℕ) (blocks others : List (ℕ × Block)) : Type 0 where
  pub between : List (ℕ × Block)
  pub left : Puts (number / 64) (option_map (without_place (number % 64)) (at (number / 64) blocks)) blocks between
  pub thins : Thins between others

-- A number is named: it is no news any more, and known only if it has a row.
abbrev pub Names : Bool → ℕ → List (ℕ × Block) → List (ℕ × Block) → Type 0
Names true n blocks others = Puts (n / 64) (option_map (without_mark News (n % 64)) (at (n / 64) blocks)) blocks others
Names false n blocks others = Forgets n blocks others

-- A number loses its row: it is news if anybody wants names, and else not known any more.
abbrev pub Loses : Bool → ℕ → List (ℕ × Block) → List (ℕ × Block) → Type 0
Loses true n blocks others = Puts (n / 64) (option_map (with_mark (n % 64)) (at (n / 64) blocks)) blocks others
Loses false n blocks others = Forgets n blocks others

module _ (which : Kind) where
  -- whether the i-th number of a block has a mark, as a bit
  abbrev pub mark_in : Option Block → ℕ → ℕ
  mark_in None i = 0
  mark_in (Some block) i = bit_at (marks_of which block) i

  -- whether a number has a mark
  abbrev pub mark : List (ℕ × Block) → ℕ → ℕ
  mark blocks n = mark_in (at (n / 64) blocks) (n % 64)

  -- the least number that has a mark
  abbrev pub first_mark : List (ℕ × Block) → Option ℕ
  first_mark [] = None
  first_mark (e ∷ blocks) =
      if eqb (marks_of which e.1) 0 then first_mark blocks else Some (e.0 * 64 + trailing_zeros w64 (marks_of which e.1))

  -- the least number that has a mark in a block
  abbrev pub first_at : ℕ → Option Block → Option ℕ
  first_at high None = None
  first_at high (Some block) =
      if eqb (marks_of which block) 0 then None else Some (high * 64 + trailing_zeros w64 (marks_of which block))

  -- the marks of all blocks as numbers, summed
  abbrev pub weight : List (ℕ × Block) → ℕ
  weight blocks = sum_by (marks_of which) (values_of blocks)

-- a block lies among the numbers of 32 bits
pub record IsBlock (high : ℕ) (block : Block) : Type 0 where
  pub within : high < 2 ^ 26
  pub fits : (which : Kind) → marks_of which block < 2 ^ 64

-- each block does
abbrev pub AreBlocks : List (ℕ × Block) → Type 0
AreBlocks blocks = (high : ℕ) (block : Block) → at high blocks ≡ Some block → IsBlock high block

-- The number of a row is known, and marked where something is due to the row.
pub record IsMarkedAt {X : Type 0} (which : Kind) (owed : X → Bool) (blocks : List (ℕ × Block)) (n : ℕ) (row : X) : Type 0 where
  pub known : place blocks n ≡ 1
  pub marked : owed row ≡ true → mark which blocks n ≡ 1

-- That of each row is.
pub record IsMarked {X : Type 0} (which : Kind) (owed : X → Bool) (blocks : List (ℕ × Block)) (rows : List (ℕ × X)) : Type 0 where
  pub blocked : AreBlocks blocks
  pub each : (n : ℕ) (row : X) → at n rows ≡ Some row → IsMarkedAt which owed blocks n row

-- Each block is known among the groups, and marked there with each mark that a number of it has.
abbrev pub AreGrouped : List (ℕ × Block) → List (ℕ × Block) → Type 0
AreGrouped groups blocks = (which : Kind) → IsMarked which (has_marks which) groups blocks

-- No number has a mark, but perhaps one.
abbrev pub LacksBut : Kind → ℕ → List (ℕ × Block) → Type 0
LacksBut which n blocks = (m : ℕ) → m ≢ n → mark which blocks m ≡ 0

-- A number has all marks, and others have no other marks than before.
pub record IsMarkedIn (number : ℕ) (blocks others : List (ℕ × Block)) : Type 0 where
  pub all : (which : Kind) → mark which others number ≡ 1
  pub apart : (which : Kind) (n : ℕ) → n ≢ number → mark which others n ≡ mark which blocks n

-- What was seen of the marks still holds.
abbrev pub Holds : Seen → List (ℕ × Block) → Type 0
Holds Nothing blocks = ⊤
Holds (Marked n) blocks = place blocks n ≡ 1 → (which : Kind) → mark which blocks n ≡ 1
Holds (Lack which) blocks = (n : ℕ) → mark which blocks n ≡ 0
Holds (Alone which n) blocks = ((other : Kind) → mark other blocks n ≡ 1) × LacksBut which n blocks

-- Where no other number had a mark, none has it now.
abbrev pub Unmarks : Kind → ℕ → List (ℕ × Block) → List (ℕ × Block) → Type 0
Unmarks which number blocks others = LacksBut which number blocks → Holds (Lack which) others
