-- Rows under numbers: as a table, which is a list in rising number, and as a function.
use Rattle.std.specs.Prelude.{ℕ, ◌≡◌, ◌≢◌, nat_eq, if◌then◌else◌, zero, suc, List, [], ◌∷◌, Option, Some, None, option_map}
use Rattle.std.specs.List.Sorted.{IsStrictlySortedBy}
use Rattle.std.specs.Ordering.{nat_cmp}
use Rattle.std.specs.Map.{lookup, keys_of, remove_entry}
use Rattle.std.specs.BTreeMap.{is_at, insert_entry}

-- what a table has at a number
abbrev pub at : {X : Type 0} → ℕ → List (ℕ × X) → Option X
at n table = lookup (is_at (nat_cmp n)) table

-- the numbers rise strictly
abbrev pub IsRising : {X : Type 0} → List (ℕ × X) → Type 0
IsRising table = IsStrictlySortedBy nat_cmp (keys_of table)

-- the table with a row at a number, in place of the one there
abbrev pub put_at : {X : Type 0} → ℕ → X → List (ℕ × X) → List (ℕ × X)
put_at n row table = insert_entry nat_cmp table n row

-- the table with no row at a number
abbrev pub without : {X : Type 0} → ℕ → List (ℕ × X) → List (ℕ × X)
without n table = remove_entry (is_at (nat_cmp n)) table

-- the table with this at a number: a row, or none
abbrev pub set_at : {X : Type 0} → ℕ → Option X → List (ℕ × X) → List (ℕ × X)
set_at n (Some row) table = put_at n row table
set_at n None table = without n table

-- the table with the row at a number changed, where there is one
abbrev pub change_at : {X : Type 0} → ℕ → (X → X) → List (ℕ × X) → List (ℕ × X)
change_at n f table = set_at n (option_map f (at n table)) table

-- At this number the table has this row now, or none, and every other number has what it had.
pub record Puts {X : Type 0} (n : ℕ) (row : Option X) (old new : List (ℕ × X)) : Type 0 where
  pub here : at n new ≡ row
  pub others : (q : ℕ) → q ≢ n → at q new ≡ at q old

-- what stands at each number
abbrev pub Rows : Type 0 → Type 0
Rows A = ℕ → A

-- the rows with another one at a number
abbrev pub put_row : {A : Type 0} → ℕ → A → Rows A → Rows A
put_row n row rows = λ k. if nat_eq n k then row else rows k

-- the rows with the one at a number changed
abbrev pub change_row : {A : Type 0} → ℕ → (A → A) → Rows A → Rows A
change_row n f rows = λ k. if nat_eq n k then f (rows k) else rows k

-- a table with this at a number before all the others
abbrev pub listed_at : {X : Type 0} → ℕ → Option X → List (ℕ × X) → List (ℕ × X)
listed_at n None others = others
listed_at n (Some row) others = (n, row) ∷ others

-- the table of what stands at the k numbers from the first on
abbrev pub listed : {X : Type 0} → Rows (Option X) → ℕ → ℕ → List (ℕ × X)
listed rows first zero = []
listed rows first (suc k) = listed_at first (rows first) (listed rows (suc first) k)
