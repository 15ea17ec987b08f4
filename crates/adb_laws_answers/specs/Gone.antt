-- Clients that are gone, and what they were put.
use Rattle.std.specs.Prelude.{ℕ, ◌≡◌, false, Some, None}
use Rattle.adb_history.specs.Births.{Birth, born}
use Rattle.adb_history.specs.Book.{is_killed}
use Rattle.adb_history.specs.Bytes.{bytes_put, has_failed}
use Rattle.adb_history.specs.declared.ending.Ending.TheVariants.{PeerClosed}
use Rattle.adb_history.specs.Lives.{ending_of, output_of}
use Rattle.adb_history.specs.Machine.{History, state}

-- A client whose device closed its stream is gone only when it was put all that became due to it, where its
-- connection did not fail and no kill stands.
abbrev pub PutsAllOfClosed : History → Type 0
PutsAllOfClosed h = (l : ℕ) (b : Birth) → born l h ≡ Some b → ending_of l h ≡ Some PeerClosed → has_failed b.client h ≡ false
    → is_killed h ≡ false → (state h).clients b.client ≡ None → bytes_put b.client h ≡ output_of b.client h
