-- What went through a hub in a history, as it is told.
use Rattle.std.specs.Prelude.{ℕ, ◌-◌, ◌^◌, min, length}
use Rattle.adb_history.specs.Machine.{History}
use Rattle.adb_laws_loads.specs.Totals.{up_of, down_of}
use Rattle.adb_run_load.specs.declared.totals.Totals.{Totals}

-- a number, or the last of 64 bits where it is past that
abbrev pub told : ℕ → ℕ
told n = min n (2 ^ 64 - 1)

-- the totals of a history
abbrev pub totals_of : History → Totals
totals_of h = record { up = told (up_of h); down = told (down_of h); entries = told (length h) }
