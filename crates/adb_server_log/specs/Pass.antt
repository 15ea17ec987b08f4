-- The view of a pass, and a pass after a call.
use Rattle.std.specs.Prelude.{ℕ, ◌+◌, Bool, false, ◌||◌, if◌then◌else◌}

-- a pass: its number, its shares of the counts of entries and of moved bytes, whether it is marked, and whether an
-- allocation failed in a call with it
pub record PassView : Type 0 where
  pub number : ℕ
  pub entries : ℕ
  pub moved : ℕ
  pub marked : Bool
  pub starved : Bool

-- a new pass
abbrev pub first_pass : ℕ → ℕ → PassView
first_pass number entries = record { number = number; entries = entries; moved = 0; marked = false; starved = false }

-- a pass after a call: with one more entry of so many bytes if the call made one, and marked or starved if the call says so
abbrev pub noted : PassView → Bool → ℕ → Bool → Bool → PassView
noted p made bytes marked starved = record p {
  entries = p.entries + (if made then 1 else 0);
  moved = p.moved + (if made then bytes else 0);
  marked = p.marked || marked;
  starved = p.starved || starved;
}
