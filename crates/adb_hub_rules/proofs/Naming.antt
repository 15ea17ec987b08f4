-- Devices without a row.
use Rattle.std.proofs.Common.{ℕ, ◌≡◌, true, false, List, Option, Some, None, refl, sym, ◌∙◌, ap}
use Rattle.std.specs.Prelude.{is_some, option_map}
use Rattle.adb_outside.specs.Tables.{at, IsRising, set_at, change_at}
use Rattle.adb_outside.proofs.TableLaws.{puts_is}
use Rattle.adb_outside.specs.declared.identity.State.{State as DeviceState}
use Rattle.adb_outside.specs.declared.identity.State.TheVariants.{Offline, Unauthorized, Device, Bootloader, Recovery, Sideload, Rescue}
use Rattle.adb_outside.specs.declared.identity.State.TheVariants.{Host}
use Rattle.adb_registry.specs.Row.{unauthorized_row}
use Rattle.adb_registry.specs.Registry.{changed}
use Rattle.adb_registry.specs.declared.row.Row.{Row}
use Rattle.adb_history.specs.Rows.{State}
use Rattle.adb_history.specs.Tracking.{mark_all}
use Rattle.adb_history.specs.Packets.{unauthorized_from, unauthorized}
use Rattle.adb_hub_rules.specs.Came.{offline_state, offline_in}

-- where a table has no row, none is changed
pub none_changed : {X : Type 0} (n : ℕ) (f : X → X) (table : List (ℕ × X)) → IsRising table
    → is_some (at n table) ≡ false → table ≡ change_at n f table
none_changed {X} n f table rises none = by_row (at n table) refl none
  where
    by_row : (row : Option X) → at n table ≡ row → is_some row ≡ false → table ≡ change_at n f table
    by_row None is none =
        puts_is n None table table rises rises (record { here = is; others = λ q _. refl })
        ∙ ap (λ row. set_at n (option_map f row) table) (sym is)
    by_row (Some row) is none = cc

login_by : (t : ℕ) (state : DeviceState) (s : State) → offline_state state ≡ true
    → unauthorized_from t state s ≡ mark_all (record s { devices = changed t unauthorized_row s.devices })
login_by t Offline s offline = refl
login_by t Unauthorized s offline = cc
login_by t Device s offline = cc
login_by t Bootloader s offline = cc
login_by t Recovery s offline = cc
login_by t Sideload s offline = cc
login_by t Rescue s offline = cc
login_by t Host s offline = cc

-- a device that is offline becomes unauthorized
pub login_is : (t : ℕ) (row : Option Row) (s : State) → offline_in row ≡ true
    → (unauthorized t row s).state ≡ mark_all (record s { devices = changed t unauthorized_row s.devices })
login_is t None s offline = cc
login_is t (Some row) s offline = login_by t row.state s offline
