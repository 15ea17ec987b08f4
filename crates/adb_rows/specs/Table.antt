-- What a contract sees of a map: its rows by rising number.
use Rattle.std.specs.Prelude.{ℕ, ◌≡◌, false, cond, List, length, Option, Some, IsSome, refl}
use Rattle.std.specs.Coded.{Coded, code_by, coded×, coded_list, coded_ℕ}
use Rattle.std.specs.declared.cmp.Ordering.{Ordering}
use Rattle.std.specs.Ordering.{nat_cmp, eq_by_cmp}
use Rattle.std.specs.Map.{keys_of, lookup, set_value, KeepsOthers}
use Rattle.std.specs.BTreeMap.{is_at}
use Rattle.adb_outside.specs.Tables.{at, IsRising}

-- the rows, each with its number
pub record Table (X : Type 0) : Type 0 where
  pub entries : List (ℕ × X)

module _ {X : Type 0} where
  abbrev pub table : List (ℕ × X) → Table X
  table rows = record { entries = rows }

  abbrev pub table_code : Coded X → Coded (Table X)
  table_code x = code_by (List (ℕ × X)) (coded_list (coded× coded_ℕ x)) (λ t. t.entries) table (λ _. refl)

  -- the rows have this at the number that the query finds, and else what they had
  abbrev pub UpdatesBy : (ℕ → Ordering) → List (ℕ × X) → List (ℕ × X) → Option X → Type 0
  UpdatesBy compare old new row = ((q : ℕ) → at q new ≡ cond (is_at compare q) row (at q old)) × (lookup (is_at compare) new ≡ row)
      × ((q : ℕ) → is_at compare q ≡ false → at q new ≡ at q old) × KeepsOthers (eq_by_cmp nat_cmp) (is_at compare) old new

  -- the rows after this was written through the row that was lent at a number
  abbrev pub WritesThrough : (ℕ → Ordering) → List (ℕ × X) → X → List (ℕ × X) → Type 0
  WritesThrough compare old row new = (new ≡ set_value (is_at compare) old row) × (keys_of new ≡ keys_of old) × (length new ≡ length old)
      × (IsSome (lookup (is_at compare) old) → UpdatesBy compare old new (Some row)) × IsRising new
