-- The device that is chosen is live, and one that the selector means.
use Rattle.std.proofs.Common.{ℕ, ◌≡◌, List, [], ◌∷◌, All, get_or, Option, Some, Bool, true, false, sym, ◌∙◌, ap, subst, filter}
use Rattle.std.specs.Prelude.{IfOk, IsSomeAnd}
use Rattle.std.specs.Map.{values_of}
use Rattle.std.proofs.lemmas.List.Elements.{All-head, All-filter, filter_passes}
use Rattle.adb_outside.specs.declared.kinds.Selector.{Selector}
use Rattle.adb_outside.specs.declared.identity.State.{State}
use Rattle.adb_outside.specs.declared.identity.State.TheVariants.{Offline, Unauthorized, Device, Bootloader, Recovery, Sideload, Rescue}
use Rattle.adb_outside.specs.declared.identity.State.TheVariants.{Host}
use Rattle.adb_outside.specs.Tables.{at}
use Rattle.adb_outside.proofs.TableLaws.{at_each, each_row}
use Rattle.adb_registry.specs.Registry.{DeviceTable, IsSound}
use Rattle.adb_registry.specs.Choice.{is_meant, ready_id, only, choice}
use Rattle.adb_registry.specs.declared.row.Row.{Row}

-- the table has a row at its own id, and the selector means it
IsMeantAt : List (ℕ × Row) → Selector → ℕ → Type 0
IsMeantAt rows by id = IsSomeAnd (at id rows) (λ row. is_meant by row ≡ true)

-- what holds of an id holds where the row is ready
ready_is_meant : (P : ℕ → Type 0) (state : State) (id : ℕ) → P id → IfOk (ready_id state id) P
ready_is_meant P Offline id h = tt
ready_is_meant P Unauthorized id h = tt
ready_is_meant P Device id h = h
ready_is_meant P Bootloader id h = h
ready_is_meant P Recovery id h = h
ready_is_meant P Sideload id h = h
ready_is_meant P Rescue id h = h
ready_is_meant P Host id h = h

-- what holds of each row's id holds of the only one's
only_is_meant : (P : ℕ → Type 0) (by : Selector) (ready : Bool) (rows : List Row) → All (λ row. P row.id) rows → IfOk (only by ready rows) P
only_is_meant P by ready [] all = tt
only_is_meant P by true (row ∷ []) all = ready_is_meant P row.state row.id (All-head (λ (r : Row). P r.id) row [] all)
only_is_meant P by false (row ∷ []) all = All-head (λ (r : Row). P r.id) row [] all
only_is_meant P by ready (row ∷ other ∷ more) all = tt

-- the device that is chosen
pub chosen_is_meant : (devices : DeviceTable) (by : Selector) (ready : Bool) → IsSound devices
    → IfOk (choice (values_of devices.rows) by ready) (λ id. IsSomeAnd (at id devices.rows) (λ row. is_meant by row ≡ true))
unfolding IsMeantAt
chosen_is_meant devices by ready sound =
    only_is_meant (IsMeantAt devices.rows by) by ready meant
    (λ i d h. meant_at (get_or meant i d) (live i d h) (filter_passes (is_meant by) rows i d h))
  where
    rows : List Row
    rows = values_of devices.rows

    meant : List Row
    meant = filter (is_meant by) rows

    own_id : (e : ℕ × Row) → at e.0 devices.rows ≡ Some e.1 → at e.1.id devices.rows ≡ Some e.1
    own_id e is = ap (λ (id : ℕ). at id devices.rows) (sound.each e.0 e.1 is).own ∙ is

    live : All (λ (row : Row). at row.id devices.rows ≡ Some row) meant
    live =
        let IsLive : Row → Type 0 = λ row. at row.id devices.rows ≡ Some row in
        let all = each_row (λ (e : ℕ × Row). at e.0 devices.rows ≡ Some e.1) IsLive own_id devices.rows
        (at_each devices.rows sound.rises) in
        All-filter (is_meant by) IsLive rows all

    meant_at : (row : Row) → at row.id devices.rows ≡ Some row → is_meant by row ≡ true → IsMeantAt devices.rows by row.id
    meant_at row here is = subst (λ (o : Option Row). IsSomeAnd o (λ r. is_meant by r ≡ true)) (sym here) is
