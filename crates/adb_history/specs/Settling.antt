-- What draining does to every history that is legal.
use Rattle.std.specs.Prelude.{ℕ, ◌≡◌, ◌≤◌, ◌∷◌, Some, None}
use Rattle.adb_capture.specs.declared.entry.Entry.{Entry}
use Rattle.adb_history.specs.Machine.{History, state}
use Rattle.adb_history.specs.Drained.{next_out, owed, drain, drain_all}

-- Draining ends with nothing to hand out; more turns than bytes are owed change nothing; and it hands out what comes next, first.
pub record IsDrainedFrom (h : History) : Type 0 where
  pub rests : next_out (state (drain_all h)) ≡ None
  pub enough : (k : ℕ) → owed (state h) ≤ k → drain k h ≡ drain_all h
  pub next : (e : Entry) → next_out (state h) ≡ Some e → drain_all h ≡ drain_all (e ∷ h)
  pub over : next_out (state h) ≡ None → drain_all h ≡ h
