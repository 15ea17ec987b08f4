-- The entries that a worker made, where its hall tells them.
use Rattle.std.specs.Prelude.{ℕ, ◌≡◌, Bool, true, List, [], ◌∷◌, ◌++◌, reverse, Some, is_some, ◌⊎◌}
use Rattle.adb_capture.specs.declared.entry.Entry.{Entry}
use Rattle.adb_capture.specs.declared.entry.Entry.TheVariants.{Read, Recv, Put, Send}
use Rattle.adb_history.specs.Kept.{IsLawful}
use Rattle.adb_server_hall.specs.Telling.{Telling}

-- The hall tells these entries, the oldest first, and its hub holds them.
pub record Tells (t : Telling) (entries : List Entry) : Type 0 where
  pub told : t.told ≡ Some entries
  pub lawful : IsLawful t.hub (reverse entries)

-- the bytes that entries brought from clients and devices
abbrev pub bytes_in : List Entry → List ℕ
bytes_in [] = []
bytes_in (Read c bytes ∷ entries) = bytes ++ bytes_in entries
bytes_in (Recv t bytes ∷ entries) = bytes ++ bytes_in entries
bytes_in (_ ∷ entries) = bytes_in entries

-- the bytes that entries handed to clients and devices
abbrev pub bytes_out : List Entry → List ℕ
bytes_out [] = []
bytes_out (Put c bytes ∷ entries) = bytes ++ bytes_out entries
bytes_out (Send t bytes ∷ entries) = bytes ++ bytes_out entries
bytes_out (_ ∷ entries) = bytes_out entries

-- The hall is shut, or a kill was made, or a call of the worker found no memory.
abbrev pub IsStopped : Telling → Bool → Type 0
IsStopped t starved = (is_some t.shut ≡ true) ⊎ (t.hub.stopped ≡ true) ⊎ (starved ≡ true)
