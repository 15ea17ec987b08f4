-- The two ends of the link say who they are.
use Rattle.std.specs.Prelude.{ℕ, ◌-◌, ◌^◌, ◌≡◌, ◌≤◌, Bool, true, false}
use Rattle.std.specs.Prelude.{List, [], ◌∷◌, length, take, Some}
use Rattle.std.proofs.Common.{sym, ◌∙◌, ap, subst, arith}
use Rattle.std.proofs.lemmas.List.{take_all}
use Rattle.std.proofs.lemmas.List.Elements.{All-nil}
use Rattle.adb_wire.specs.Cutting.{framed}
use Rattle.adb_capture.specs.declared.entry.Entry.TheVariants.{Recv, Send}
use Rattle.adb_history.specs.Bytes.{bytes_received}
use Rattle.adb_history.specs.Machine.{state}
use Rattle.adb_hub.specs.Answers.{due_on}
use Rattle.adb_daemon.specs.Daemon.{owed}
use Rattle.adb_laws_model_device.specs.Owed.{bytes_owed}
use Rattle.adb_laws_model_device.proofs.Bytes.{framed_owed}
use Rattle.adb_laws_answers.specs.Model.{model_setting}
use Rattle.adb_world.specs.Parts.{Holds, IsRunning, Moves, plugging}
use Rattle.adb_world.specs.declared.parts.Parts.{Parts}
use Rattle.adb_world.proofs.Entries.{all_owed}
use Rattle.adb_world.proofs.Going.{AllStay, running_on}

-- what a device owes that was fed nothing is its CNXN
abbrev pub first_bytes : List ℕ
first_bytes = bytes_owed model_setting []

some_first : first_bytes ≡ [] → ⊥
some_first none = let long : length first_bytes ≡ 0 = ap (λ (x : List ℕ). length x) none in omega (arith, long)

pub fits_first : length first_bytes ≤ 2 ^ 64 - 1
fits_first = omega arith

module _ (old : Parts) (holds : Holds (plugging ∷ []) old) where
  owes : owed old.device ≡ first_bytes
  owes = all_owed [] [] old.device holds.done

  pub greets : (max : ℕ) (moved : Bool) (new : Parts) → length first_bytes ≤ max
      → Moves (Recv 1) max (Some (owed old.device)) moved (plugging ∷ []) old new → IsRunning new
  greets max false new long moves = absurd (some_first (sym owes ∙ moves.1))
  greets max true new long moves = record {
    history = Recv 1 moves.bytes ∷ plugging ∷ [];
    holds = moves.holds;
    greeted = record { rest = []; is = ap (λ (x : List ℕ). (framed x).given) all ∙ framed_owed model_setting (omega arith) [] (All-nil _) };
  }
    where
      all : bytes_received 1 (Recv 1 moves.bytes ∷ plugging ∷ []) ≡ first_bytes
      all = moves.first ∙ (ap (take max) owes ∙ take_all max first_bytes long)

-- a step down leaves a world that runs
pub still_runs : AllStay → (max : ℕ) (moved : Bool) (old new : Parts) → (runs : IsRunning old)
    → Moves (Send 1) max (due_on ((state runs.history).links 1)) moved runs.history old new → IsRunning new
still_runs stays max true old new runs moves = running_on stays (Send 1) max (due_on ((state runs.history).links 1)) old new runs moves
still_runs stays max false old new runs moves = subst IsRunning (sym moves.0) runs
