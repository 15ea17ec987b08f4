-- What is known of a state that a legal history leaves.
use Rattle.std.proofs.Common.{ℕ, ◌≡◌, sym, subst}
use Rattle.adb_laws_resting.specs.Resting.{SendsNothingBy, GoesUpAlone}
use Rattle.adb_laws_resting.proofs.RestingSteps.{all_send_nothing}
use Rattle.adb_laws_resting.proofs.RestingOpen.{goes_up_alone}
use Rattle.adb_history.specs.Rows.{State}
use Rattle.adb_history.specs.Orderly.{IsOrderly}
use Rattle.adb_history.specs.Book.{plugged_count}
use Rattle.adb_history.specs.Tied.{came_count}
use Rattle.adb_history.proofs.Growing.{AreWithin}
use Rattle.adb_history.proofs.OrderlyStates.{orderly}
use Rattle.adb_history.proofs.OutputEntries.{tied}
use Rattle.adb_hub_tables.specs.Fit.{IsReached}

-- the clients and links of all streams were drawn
pub record IsWithin (s : State) : Type 0 where
  pub came : ℕ
  pub plugged : ℕ
  pub all : AreWithin came plugged s.streams
  pub drawn : s.devices.drawn ≡ plugged

module _ (s : State) (reached : IsReached s) where
  pub within : IsWithin s
  within = subst IsWithin (sym reached.is) (record {
    came = came_count reached.history;
    plugged = plugged_count reached.history;
    all = (tied reached.history reached.legal).streams;
    drawn = (tied reached.history reached.legal).drawn;
  })

  pub is_orderly : IsOrderly s
  is_orderly = subst IsOrderly (sym reached.is) (orderly reached.history reached.legal)

  pub sends_nothing : SendsNothingBy s
  sends_nothing = subst SendsNothingBy (sym reached.is) (all_send_nothing reached.history reached.legal)

  pub goes_up : GoesUpAlone s
  goes_up = subst GoesUpAlone (sym reached.is) (goes_up_alone reached.history reached.legal)
